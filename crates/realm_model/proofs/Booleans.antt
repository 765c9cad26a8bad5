-- Lemmas on Booleans, on choices between values by a Boolean, and on the values `None` and `Some`.
use Rattle.std.proofs.Common.{◌≡◌, Bool, true, false, cond, ◌&&◌, ◌||◌, not, Option, Some, None, refl}
use Rattle.std.specs.Prelude.{is_some, is_none, option_map}

pub or_parts : (s t : Bool) → (s || t) ≡ false → (s ≡ false) × (t ≡ false)
or_parts true t e = cc
or_parts false t e = (refl, e)

pub or_true : (t : Bool) → (t || true) ≡ true
or_true true = refl
or_true false = refl

pub or_none : (t : Bool) → (t || false) ≡ t
or_none true = refl
or_none false = refl

pub and_false : (t : Bool) → (t && false) ≡ false
and_false true = refl
and_false false = refl

-- `x` if `t` holds, else `x` if `s` holds, else `y`, is the same as `x` if `s || t` holds, else `y`
pub cond_or : {A : Type 0} (s t : Bool) (x y : A) → cond t x (cond s x y) ≡ cond (s || t) x y
cond_or true true x y = refl
cond_or true false x y = refl
cond_or false true x y = refl
cond_or false false x y = refl

pub true_false : (t : Bool) → t ≡ true → t ≡ false → ⊥
true_false true h k = cc
true_false false h k = cc

pub false_from : (t : Bool) → (t ≡ true → ⊥) → t ≡ false
false_from true h = absurd (h refl)
false_from false h = refl

pub not_true : (t : Bool) → not t ≡ true → t ≡ false
not_true true e = cc
not_true false e = refl

pub not_false : (t : Bool) → not t ≡ false → t ≡ true
not_false true e = refl
not_false false e = cc

-- if `cond t o None` is `Some y`, `t` holds and `o` is `Some y`
pub guarded : {A : Type 0} (t : Bool) (o : Option A) (y : A) → cond t o None ≡ Some y → (t ≡ true) × (o ≡ Some y)
guarded true o y e = (refl, e)
guarded false o y e = cc

-- if `cond t (Some x) rest` is `None`, `t` is false and `rest` is `None`
pub neither : {A : Type 0} (t : Bool) (x : A) (rest : Option A) → cond t (Some x) rest ≡ None → (t ≡ false) × (rest ≡ None)
neither true x rest e = cc
neither false x rest e = (refl, e)

pub none_from : {A : Type 0} (o : Option A) → is_some o ≡ false → o ≡ None
none_from None e = refl
none_from (Some x) e = cc

pub none_is : {A : Type 0} (o : Option A) → is_none o ≡ true → o ≡ None
none_is None e = refl
none_is (Some x) e = cc

pub some_is : {A : Type 0} (o : Option A) → is_some o ≡ true → (x : A) × (o ≡ Some x)
some_is None e = cc
some_is (Some x) e = (x, refl)

pub none_map : {A B : Type 0} (f : A → B) (o : Option A) → option_map f o ≡ None → o ≡ None
none_map f None e = refl
none_map f (Some x) e = cc
