-- A proof that `AreAtMost` holds if and only if two lists have the same length and each number is at most its maximum.
use Rattle.std.proofs.Common.{◌≡◌, ℕ, zero, suc, ◌<◌, ◌≤◌, List, [], ◌∷◌, length, get_or, refl, ap, arith}
use Rattle.decimal_text.specs.Ranges.{AreAtMost}

pub length-AreAtMost : (ns ms : List ℕ) → AreAtMost ns ms → length ns ≡ length ms
length-AreAtMost [] [] h = refl
length-AreAtMost [] (m ∷ ms) h = absurd h
length-AreAtMost (n ∷ ns) [] h = absurd h
length-AreAtMost (n ∷ ns) (m ∷ ms) h = ap suc (length-AreAtMost ns ms h.1)

pub AreAtMost-index : (ns ms : List ℕ) (k : ℕ) → AreAtMost ns ms → k < length ns → get_or ns k 0 ≤ get_or ms k 0
AreAtMost-index [] ms k h within = absurd (omega arith)
AreAtMost-index (n ∷ ns) [] k h within = absurd h
AreAtMost-index (n ∷ ns) (m ∷ ms) zero h within = h.0
AreAtMost-index (n ∷ ns) (m ∷ ms) (suc k) h within = AreAtMost-index ns ms k h.1 (omega arith)

pub AreAtMost-from_index : (ns ms : List ℕ) → length ns ≡ length ms → ((k : ℕ) → k < length ns → get_or ns k 0 ≤ get_or ms k 0) → AreAtMost ns ms
AreAtMost-from_index [] [] same each = tt
AreAtMost-from_index [] (m ∷ ms) same each = absurd (omega arith)
AreAtMost-from_index (n ∷ ns) [] same each = absurd (omega arith)
AreAtMost-from_index (n ∷ ns) (m ∷ ms) same each = (each 0 (omega arith), AreAtMost-from_index ns ms (omega arith) (λ k within. each (suc k) (omega arith)))
