use Rattle.std.proofs.Common.{◌<◌, ◌*◌, ℕ, true}
use Rattle.page_arena.specs.Block.{IsRun}
use Rattle.page_arena.proofs.plain.flags.find_block.Given as goal

abbrev pub invariant-loop-block : goal.invariant-loop-block
invariant-loop-block l = (block : ℕ) → block < l.block → ¬ (IsRun true l.flags (block * l.size) l.size)
