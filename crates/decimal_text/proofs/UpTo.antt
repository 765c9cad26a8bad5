-- A proof that `up_to` accepts a list if and only if the list has at most `most` numbers, each of them at most the
-- maximum.
use Rattle.std.proofs.Common.{◌≡◌, ℕ, zero, suc, ◌≤◌, ◌<◌, ◌^◌, List, [], ◌∷◌, length, replicate, take, get_or, ◌+◌, true, leb, ltb, ◌&&◌, Some, None, refl, ap, ◌∙◌, arith}
use Rattle.std.specs.List.{list_all, AllByRecursion}
use Rattle.std.proofs.lemmas.Bool.{le-leb, lt-leb, leb-true, ltb-true, and_parts}
use Rattle.std.proofs.lemmas.List.{take_all}
use Rattle.std.proofs.lemmas.List.Folds.{list_all_at, list_all_more}
use Rattle.std.proofs.Math.Bool.{and-false}
use Rattle.arrayvec.specs.ArrayVec.{ArrayVec}
use Rattle.decimal_text.specs.Numbers.{AreNumbers}
use Rattle.decimal_text.specs.Ranges.{AreAtMost}
use Rattle.decimal_text.specs.Rows.{up_to}
use Rattle.decimal_text.proofs.Spelled.{small_from_maxima}
use Rattle.decimal_text.proofs.Maxima.{length-AreAtMost}
use Rattle.decimal_text.proofs.Grammars.{test_from_some}

at_most-from_test : (ns : List ℕ) (m : ℕ) → list_all (λ n. leb n m) ns ≡ true → AreAtMost ns (replicate (length ns) m)
at_most-from_test [] m h = tt
at_most-from_test (n ∷ ns) m h =
    let parts = and_parts (leb n m) (list_all (λ k. leb k m) ns) h in
    (leb-true n m parts.0, at_most-from_test ns m parts.1)

test-from_at_most : (ns : List ℕ) (m : ℕ) → AreAtMost ns (replicate (length ns) m) → list_all (λ n. leb n m) ns ≡ true
test-from_at_most [] m h = refl
test-from_at_most (n ∷ ns) m h = rw (le-leb n m h.0, test-from_at_most ns m h.1) refl

pub up_to-items : (most m : ℕ) (it : ArrayVec ℕ) → length it.items ≤ most → AreAtMost it.items (replicate (length it.items) m) → up_to most m it.items ≡ Some it
up_to-items most m it few small = rw (le-leb (length it.items) most few, test-from_at_most it.items m small) refl

-- the array has the given numbers, of which there are at most `most`, each at most `m`
pub record AreUpTo (most m : ℕ) (ns : List ℕ) (it : ArrayVec ℕ) : Type 0 where
  pub few : length ns ≤ most
  pub small : AreAtMost ns (replicate (length ns) m)
  pub same : record { items = ns } ≡ it

pub up_to-some : (most m : ℕ) (ns : List ℕ) (it : ArrayVec ℕ) → up_to most m ns ≡ Some it → AreUpTo most m ns it
up_to-some most m ns it e =
    let (test, same) = test_from_some (leb (length ns) most && list_all (λ n. leb n m) ns) (record { items = ns }) it e in
    let parts = and_parts (leb (length ns) most) (list_all (λ n. leb n m) ns) test in
    record { few = leb-true (length ns) most parts.0; small = at_most-from_test ns m parts.1; same = same }

-- ---- what a loop over the numbers finds

-- `up_to` is None if there are more than `most` numbers
pub up_to-long : (most m : ℕ) (ns : List ℕ) → most < length ns → None ≡ up_to most m ns
up_to-long most m ns long = rw (lt-leb (length ns) most long) refl

-- `up_to` is None if a number is above the maximum
pub up_to-above : (most m : ℕ) (ns : List ℕ) (i d : ℕ) → i < length ns → m < get_or ns i d → None ≡ up_to most m ns
up_to-above most m ns i d within above =
    rw (list_all_at (λ n. leb n m) ns i d within (lt-leb (get_or ns i d) m above), and-false (leb (length ns) most)) refl

-- if the first i numbers and the next one are at most the maximum, so are the first i + 1
pub small_more : (m : ℕ) (ns : List ℕ) (i d : ℕ) → i < length ns → list_all (λ n. leb n m) (take i ns) ≡ true → get_or ns i d ≤ m
    → list_all (λ n. leb n m) (take (i + 1) ns) ≡ true
small_more m ns i d within small low = rw (list_all_more (λ n. leb n m) ns i d within, small, le-leb (get_or ns i d) m low) refl

-- `up_to` is the array of all numbers if there are at most `most`, each at most the maximum
pub up_to-found : (most m : ℕ) (ns : List ℕ) (it : ArrayVec ℕ) (i : ℕ) → length ns ≤ most → length ns ≤ i → it.items ≡ take i ns
    → list_all (λ n. leb n m) (take i ns) ≡ true → Some it ≡ up_to most m ns
up_to-found most m ns it i few past same small =
    let whole = take_all i ns past in
    let every : list_all (λ n. leb n m) ns ≡ true = rw whole at small in
    rw (le-leb (length ns) most few, every) (ap (λ (xs : List ℕ). Some (record { items = xs })) (same ∙ whole))

-- ---- no more numbers than are read

all_below : (ms : List ℕ) → list_all (λ m. ltb m (2 ^ 32)) ms ≡ true → AllByRecursion (λ m. m < 2 ^ 32) ms
all_below [] h = tt
all_below (m ∷ ms) h =
    let parts = and_parts (ltb m (2 ^ 32)) (list_all (λ k. ltb k (2 ^ 32)) ms) h in
    (ltb-true m (2 ^ 32) parts.0, all_below ms parts.1)

-- If each number is at most its maximum, and there are at most `most` maxima, each below 2^32, `AreNumbers` holds of
-- the numbers. The maxima are compared by a test, which the prover evaluates for constant maxima.
pub few_from_test : (most : ℕ) (ns ms : List ℕ) → AreAtMost ns ms → leb (length ms) most && list_all (λ m. ltb m (2 ^ 32)) ms ≡ true → AreNumbers most ns
few_from_test most ns ms h test =
    let parts = and_parts (leb (length ms) most) (list_all (λ m. ltb m (2 ^ 32)) ms) test in
    (omega (arith, length-AreAtMost ns ms h, leb-true (length ms) most parts.0), small_from_maxima ns ms h (all_below ms parts.1))

pub replicated_below : (n m : ℕ) → m < 2 ^ 32 → AllByRecursion (λ k. k < 2 ^ 32) (replicate n m)
replicated_below zero m small = tt
replicated_below (suc n) m small = (small, replicated_below n m small)
