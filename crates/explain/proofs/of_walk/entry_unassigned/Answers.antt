use Rattle.std.proofs.Common.{arith}
use Rattle.explain.proofs.of_walk.entry_unassigned.Goals as goal

pub returns : goal.returns
returns g c = grind arith
