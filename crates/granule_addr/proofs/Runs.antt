-- Proofs that a run of consecutive numbers remains a run when the next number is added, and that its first numbers are
-- a run.
use Rattle.std.proofs.Common.{◌≡◌, ℕ, ◌+◌, ◌≤◌, ◌∷◌, [], ◌++◌, take, sym, ap, ◌∙◌}
use Rattle.std.specs.List.{range_with_len}
use Rattle.std.proofs.lemmas.List.{map-id}
use Rattle.std.proofs.lemmas.List.FromFn.{map-range_with_len_more, take-map-range_with_len}

-- a run of `n + 1` numbers is the run of the first `n`, followed by the next number `b`
pub range_with_len_more : (a n b : ℕ) → a + n ≡ b → range_with_len a (n + 1) ≡ range_with_len a n ++ b ∷ []
range_with_len_more a n b next =
    sym (map-id (range_with_len a (n + 1)))
    ∙ map-range_with_len_more (λ k. k) a n b next
    ∙ ap (λ ks. ks ++ b ∷ []) (map-id (range_with_len a n))

-- the first `k` numbers of a run of `n` are the run of `k` numbers with the same start
pub take_range : (a n k : ℕ) → k ≤ n → take k (range_with_len a n) ≡ range_with_len a k
take_range a n k few =
    ap (take k) (sym (map-id (range_with_len a n)))
    ∙ take-map-range_with_len (λ i. i) a n k few
    ∙ map-id (range_with_len a k)
