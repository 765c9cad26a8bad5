-- A proof that the text of an operation that creates or destroys a REC has at most 18 numbers, each below 2^32.
use Rattle.std.proofs.Common.{ℕ, zero, suc, ◌≤◌, List, [], ◌∷◌, ◌++◌, length, replicate, arith}
use Rattle.decimal_text.specs.Numbers.{AreNumbers}
use Rattle.decimal_text.specs.Ranges.{AreAtMost}
use Rattle.decimal_text.proofs.Spelled.{small_from_maxima}
use Rattle.decimal_text.proofs.UpTo.{replicated_below}

pub few_with_auxiliaries : (granule number : ℕ) (ns : List ℕ) → length ns ≤ 16 → AreAtMost (granule ∷ number ∷ ns) (4095 ∷ 65535 ∷ replicate (length ns) 4095) → AreNumbers 18 (granule ∷ number ∷ ns)
few_with_auxiliaries granule number ns few h =
    (omega arith, small_from_maxima (granule ∷ number ∷ ns) (4095 ∷ 65535 ∷ replicate (length ns) 4095) h (omega arith, (omega arith, replicated_below (length ns) 4095 (omega arith))))

-- if `ns` has `k` numbers, all at most `m`, and `n` is at most `m`, then `ns` with `n` at its end has `k + 1` such
-- numbers
pub at_most_more : (ns : List ℕ) (k n m : ℕ) → AreAtMost ns (replicate k m) → n ≤ m → AreAtMost (ns ++ n ∷ []) (replicate (suc k) m)
at_most_more [] zero n m h low = (low, tt)
at_most_more [] (suc k) n m h low = absurd h
at_most_more (x ∷ ns) zero n m h low = absurd h
at_most_more (x ∷ ns) (suc k) n m h low = (h.0, at_most_more ns k n m h.1 low)
