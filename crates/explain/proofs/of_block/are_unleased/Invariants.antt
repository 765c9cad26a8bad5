use Rattle.std.proofs.Common.{◌≡◌, ℕ, ◌+◌, ◌<◌, true}
use Rattle.explain.specs.OfBlock.{is_unleased}
use Rattle.explain.proofs.of_block.are_unleased.Given as goal

abbrev pub invariant-loop-number : goal.invariant-loop-number
invariant-loop-number g l = (k : ℕ) → k < l.number → is_unleased l.host (l.first + k) ≡ true
