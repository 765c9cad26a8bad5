use Rattle.std.proofs.Math.Nat.{mul-mod_left}
use Rattle.page_arena.proofs.plain.flags.find_block.Goals as goal

pub returns-then-is_run_free-clause-aligned : goal.returns-then-is_run_free-clause-aligned
returns-then-is_run_free-clause-aligned c = mul-mod_left c.loop-block.block c.args.size
