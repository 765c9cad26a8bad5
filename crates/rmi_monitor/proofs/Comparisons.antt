-- Lemmas about Booleans, and about an `Option` that depends on a Boolean or is mapped by a function.
use Rattle.std.proofs.Common.{◌≡◌, ℕ, Bool, true, false, cond, Option, Some, None, refl, sym, ◌∙◌, option_map}
use Rattle.std.specs.Prelude.{◌&&◌, ◌||◌}
use Rattle.std.proofs.lemmas.Option.{same_Some}

-- a claim holds if `s || t` is true, and each of `s` and `t` implies it
pub either : {P : Type 0} (s t : Bool) → (s || t) ≡ true → (s ≡ true → P) → (t ≡ true → P) → P
either true t h left right = left refl
either false t h left right = right h

pub or_rest : (a b : Bool) → a ≡ false → (a || b) ≡ true → b ≡ true
or_rest true b e h = cc
or_rest false b e h = h

pub and_with : (a b : Bool) → b ≡ true → (a && b) ≡ a
and_with true b h = h
and_with false b h = refl

-- if `place` is `cond test (Some n) None` and has the value `m`, then `test` is true and `m` equals `n`
pub test_held : (test : Bool) (n m : ℕ) (place : Option ℕ) → place ≡ cond test (Some n) None → place ≡ Some m → (test ≡ true) × (m ≡ n)
test_held true n m place e is = let told : Some n ≡ Some m = sym e ∙ is in (refl, (cc))
test_held false n m place e is = let told : None ≡ Some m = sym e ∙ is in cc

-- if `place` is `cond test (Some n) None` and has no value, then `test` is false
pub test_failed : (test : Bool) (n : ℕ) (place : Option ℕ) → place ≡ cond test (Some n) None → place ≡ None → test ≡ false
test_failed true n place e is = let told : Some n ≡ None = sym e ∙ is in cc
test_failed false n place e is = refl

-- if applying `f` to an option gives the value `y`, the option has a value `x` with `f x` equal to `y`
pub some_map : {A B : Type 0} (f : A → B) (o : Option A) (y : B) → option_map f o ≡ Some y → (x : A) × (o ≡ Some x) × (f x ≡ y)
some_map f None y e = cc
some_map f (Some x) y e = (x, refl, same_Some (f x) y e)
