-- Proofs that a property holds of all elements of a list of consecutive numbers exactly if it holds of each number from
-- the first to the last.
use Rattle.std.proofs.Common.{◌≡◌, ℕ, ◌+◌, ◌-◌, ◌<◌, ◌≤◌, sym, ◌∙◌, subst, arith}
use Rattle.std.specs.List.{All, range_with_len}
use Rattle.std.proofs.lemmas.List.FromFn.{length-range_with_len, get_or-range_with_len}

pub all_of_range : (P : ℕ → Type 0) (first count : ℕ) → ((k : ℕ) → first ≤ k → k < first + count → P k) → All P (range_with_len first count)
all_of_range P first count each = λ i d inside.
    let lt : i < count = subst (λ n. i < n) (length-range_with_len first count) inside in
    subst P (sym (get_or-range_with_len first count i d lt)) (each (first + i) (omega arith) (omega arith))

pub of_all_range : (P : ℕ → Type 0) (first count : ℕ) → All P (range_with_len first count) → (k : ℕ) → first ≤ k → k < first + count → P k
of_all_range P first count all k low high =
    let lt : k - first < count = omega arith in
    let same : first + (k - first) ≡ k = omega arith in
    subst P (get_or-range_with_len first count (k - first) 0 lt ∙ same) (all (k - first) 0 (subst (λ n. k - first < n) (sym (length-range_with_len first count)) lt))
