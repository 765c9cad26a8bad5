-- Proofs that `before_space` and `from_space` split a text at its first space.
use Rattle.std.proofs.Common.{◌≡◌, ◌≢◌, ℕ, zero, suc, ◌<◌, ◌≤◌, List, [], ◌∷◌, ◌++◌, length, get_or, take, drop, true, false, refl, ap, cond, arith}
use Rattle.std.proofs.lemmas.Bool.Decides.{nat_tests}
use Rattle.std.specs.Prelude.{◌==◌}
use Rattle.decimal_text.specs.Numbers.{before_space, from_space, spelled_numbers}

-- the bytes have no space
abbrev pub HasNoSpace : List ℕ → Type 0
HasNoSpace bs = (i : ℕ) → i < length bs → get_or bs i 0 ≢ 32

no_space_cons : (b : ℕ) (bs : List ℕ) → HasNoSpace (b ∷ bs) → ((b == 32) ≡ false) × HasNoSpace bs
no_space_cons b bs h = (
  let apart : b ≢ 32 = h 0 (omega arith) in grind (arith, nat_tests, apart),
  λ i within. h (suc i) (omega arith),
)

-- if a text has no space, `before_space` is the whole text
pub before_space_none : (bs : List ℕ) → HasNoSpace bs → before_space bs ≡ bs
before_space_none [] h = refl
before_space_none (b ∷ bs) h = let (apart, more) = no_space_cons b bs h in rw (apart, before_space_none bs more)

-- if a text has no space, `from_space` is empty
pub from_space_none : (bs : List ℕ) → HasNoSpace bs → from_space bs ≡ []
from_space_none [] h = refl
from_space_none (b ∷ bs) h = let (apart, more) = no_space_cons b bs h in rw (apart, from_space_none bs more)

-- if the first space is at index k, `before_space` is the first k bytes
pub before_space_at : (bs : List ℕ) (k : ℕ) → k < length bs → get_or bs k 0 ≡ 32 → ((i : ℕ) → i < k → get_or bs i 0 ≢ 32) → take k bs ≡ before_space bs
before_space_at [] k within here before = absurd (omega arith)
before_space_at (b ∷ bs) zero within here before = rw here
before_space_at (b ∷ bs) (suc k) within here before =
    let apart : b ≢ 32 = before 0 (omega arith) in
    let test : (b == 32) ≡ false = grind (arith, nat_tests, apart) in
    rw (test, before_space_at bs k (omega arith) here (λ i low. before (suc i) (omega arith)))

-- if the first space is at index k, `from_space` is the text from there on
pub from_space_at : (bs : List ℕ) (k : ℕ) → k < length bs → get_or bs k 0 ≡ 32 → ((i : ℕ) → i < k → get_or bs i 0 ≢ 32) → drop k bs ≡ from_space bs
from_space_at [] k within here before = absurd (omega arith)
from_space_at (b ∷ bs) zero within here before = rw here
from_space_at (b ∷ bs) (suc k) within here before =
    let apart : b ≢ 32 = before 0 (omega arith) in
    let test : (b == 32) ≡ false = grind (arith, nat_tests, apart) in
    rw (test, from_space_at bs k (omega arith) here (λ i low. before (suc i) (omega arith)))

-- a text is its part before the first space, followed by its part from there on
pub cut_joins : (bs : List ℕ) → bs ≡ before_space bs ++ from_space bs
cut_joins [] = refl
cut_joins (b ∷ bs) = elim (b == 32) as (λ t. (b ∷ bs) ≡ cond t [] (b ∷ before_space bs) ++ cond t (b ∷ bs) (from_space bs)) [
  | true ↦ refl
  | false ↦ ap (λ t. b ∷ t) (cut_joins bs)
]

pub length-from_space-le : (bs : List ℕ) → length (from_space bs) ≤ length bs
length-from_space-le [] = omega arith
length-from_space-le (b ∷ bs) = elim (b == 32) as (λ t. length (cond t (b ∷ bs) (from_space bs)) ≤ suc (length bs)) [
  | true ↦ omega arith
  | false ↦ omega (arith, length-from_space-le bs)
]

-- if spelled numbers follow a text without spaces, `before_space` is that text
pub before_space-spelled : (w ns : List ℕ) → HasNoSpace w → before_space (w ++ spelled_numbers ns) ≡ w
before_space-spelled [] [] h = refl
before_space-spelled [] (n ∷ ns) h = refl
before_space-spelled (b ∷ w) ns h = let (apart, more) = no_space_cons b w h in rw (apart, before_space-spelled w ns more)

-- if spelled numbers follow a text without spaces, `from_space` is the spelled numbers
pub from_space-spelled : (w ns : List ℕ) → HasNoSpace w → from_space (w ++ spelled_numbers ns) ≡ spelled_numbers ns
from_space-spelled [] [] h = refl
from_space-spelled [] (n ∷ ns) h = refl
from_space-spelled (b ∷ w) ns h = let (apart, more) = no_space_cons b w h in rw (apart, from_space-spelled w ns more)
