-- The value made from a word's numbers, if there are as many numbers as the word takes, and each is at most its
-- maximum.
use Rattle.std.specs.Prelude.{ℕ, nat_le, ◌&&◌, List, [], ◌∷◌, length, if◌then◌else◌, Option, Some, None}
use Rattle.std.specs.List.{list_all}
use Rattle.arrayvec.specs.ArrayVec.{ArrayVec}

module _ {A : Type 0} where
  abbrev pub none : A → List ℕ → Option A
  none made [] = Some made
  none made _ = None

  abbrev pub one : ℕ → (ℕ → A) → List ℕ → Option A
  one a make (k ∷ []) = if nat_le k a then Some (make k) else None
  one a make _ = None

  abbrev pub two : ℕ → ℕ → (ℕ → ℕ → A) → List ℕ → Option A
  two a b make (k ∷ l ∷ []) = if nat_le k a && nat_le l b then Some (make k l) else None
  two a b make _ = None

  abbrev pub three : ℕ → ℕ → ℕ → (ℕ → ℕ → ℕ → A) → List ℕ → Option A
  three a b c make (k ∷ l ∷ m ∷ []) = if nat_le k a && nat_le l b && nat_le m c then Some (make k l m) else None
  three a b c make _ = None

  abbrev pub four : ℕ → ℕ → ℕ → ℕ → (ℕ → ℕ → ℕ → ℕ → A) → List ℕ → Option A
  four a b c d make (k ∷ l ∷ m ∷ n ∷ []) = if nat_le k a && nat_le l b && nat_le m c && nat_le n d then Some (make k l m n) else None
  four a b c d make _ = None

-- the numbers as an array, if there are at most `most` and each is at most `maximum`
abbrev pub up_to : ℕ → ℕ → List ℕ → Option (ArrayVec ℕ)
up_to most maximum ns = if nat_le (length ns) most && list_all (λ n. nat_le n maximum) ns then Some (record { items = ns }) else None
