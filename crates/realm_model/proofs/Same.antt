-- The proof that a derived `==` decides equality if the `==` of each field does.
use Rattle.std.proofs.Common.{◌≡◌, ◌&&◌, List, [], ◌∷◌, Bool, true, false, inl, inr, refl, ap, nat_eq}
use Rattle.std.proofs.lemmas.Bool.Decides.{Decides-eqb, Decides-and}
use Rattle.std.proofs.lemmas.Slice.Eq.{bytes_eq-Decides}
use Rattle.std.specs.Bool.{Decides}
use Rattle.std.specs.Str.{bytes_eq}
use denote.Enum.Compared.{Each, by}
use denote.Enum.Declared.{Record, Choice, left_or, right_or, values_one}
use denote.Struct.Field.{Field}

-- The test passes for two values exactly if they are equal. This is a record, so that a value's type determines the
-- test.
pub record DecidesEquality {A : Type 0} (test : A → A → Bool) : Type 0 where
  pub tells : (x y : A) → Decides (test x y) (x ≡ y)

pub number : DecidesEquality nat_eq
number = record { tells = Decides-eqb }

pub numbers : DecidesEquality bytes_eq
numbers = record { tells = bytes_eq-Decides }

pub nothing : DecidesEquality (λ (x y : Unit {0}). true)
nothing = record { tells = λ x y. (λ is. refl, λ same. refl) }

-- a test of one part of the values decides equality of the values, if the part determines the value
pub through : {A B : Type 0} {test : B → B → Bool} (part : A → B) → ((x y : A) → part x ≡ part y → x ≡ y) → DecidesEquality test → DecidesEquality (λ x y. test (part x) (part y))
through part one by_part = record {
  tells = λ x y.
      let tells = by_part.tells (part x) (part y) in
      (λ is. one x y (tells.0 is), λ same. tells.1 (ap part same));
}

pub last : {A : Type 0} {test : A → A → Bool} → DecidesEquality test → DecidesEquality (λ (x y : A × Unit {0}). test x.0 y.0)
last {A} field = through (λ (x : A × Unit {0}). x.0) (λ x y same i. (same i, tt)) field

pub both : {A B : Type 0} {test : A → A → Bool} {other : B → B → Bool} → DecidesEquality test → DecidesEquality other → DecidesEquality (λ (x y : A × B). test x.0 y.0 && other x.1 y.1)
both {A} {B} {test} {other} first rest = record {
  tells = λ x y.
      let tells = Decides-and (test x.0 y.0) (other x.1 y.1) (first.tells x.0 y.0) (rest.tells x.1 y.1) in
      (λ is i. ((tells.0 is).0 i, (tells.0 is).1 i), λ same. tells.1 (ap (λ (z : A × B). z.0) same, ap (λ (z : A × B). z.1) same));
}

-- ---- an enum

abbrev pub EachDecidesEquality : (variants : List (List Field)) → Each Bool variants → Type 0
EachDecidesEquality [] tests = Unit {0}
EachDecidesEquality (fields ∷ variants) tests = DecidesEquality tests.0 × EachDecidesEquality variants tests.1

choice_tells : (variants : List (List Field)) (tests : Each Bool variants) → EachDecidesEquality variants tests → (c d : Choice variants) → Decides (by false false variants tests c d) (c ≡ d)
choice_tells [] tests each c d = absurd c
choice_tells (fields ∷ variants) tests each (inl x) (inl y) =
    let tells = each.0.tells x y in
    (λ is. ap inl (tells.0 is), λ same. tells.1 (ap (left_or x) same))
choice_tells (fields ∷ variants) tests each (inl x) (inr y) = (λ is. cc, λ same. cc)
choice_tells (fields ∷ variants) tests each (inr x) (inl y) = (λ is. cc, λ same. cc)
choice_tells (fields ∷ variants) tests each (inr x) (inr y) =
    let tells = choice_tells variants tests.1 each.1 x y in
    (λ is. ap inr (tells.0 is), λ same. tells.1 (ap (right_or x) same))

pub variant : (N : Record) (tests : Each Bool N.parts) → EachDecidesEquality N.parts tests → DecidesEquality (λ x y. by false false N.parts tests (N.as_values x) (N.as_values y))
variant N tests each = through N.as_values (values_one N) (record { tells = choice_tells N.parts tests each })
