-- A proof that a `rec` step with at most 16 auxiliary pages has at most 17 numbers.
use Rattle.std.proofs.Common.{ℕ, ◌≤◌, List, ◌∷◌, length, replicate, arith}
use Rattle.decimal_text.specs.Numbers.{AreNumbers}
use Rattle.decimal_text.specs.Ranges.{AreAtMost}
use Rattle.decimal_text.proofs.Spelled.{small_from_maxima}
use Rattle.decimal_text.proofs.UpTo.{replicated_below}

pub few_with_auxiliaries : (page : ℕ) (ns : List ℕ) → length ns ≤ 16 → AreAtMost (page ∷ ns) (4095 ∷ replicate (length ns) 4095) → AreNumbers 17 (page ∷ ns)
few_with_auxiliaries page ns few h =
    (omega arith, small_from_maxima (page ∷ ns) (4095 ∷ replicate (length ns) 4095) h (omega arith, replicated_below (length ns) 4095 (omega arith)))
