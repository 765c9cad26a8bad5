use Rattle.std.proofs.Common.{◌≡◌, ℕ, ◌+◌, ◌<◌, false}
use Rattle.explain.specs.OfBlock.{is_free_at}
use Rattle.explain.proofs.of_block.has_block.Given as goal

abbrev pub invariant-loop-first : goal.invariant-loop-first
invariant-loop-first g l = (k : ℕ) → k < l.first → is_free_at l.host l.order (0 + k) ≡ false
