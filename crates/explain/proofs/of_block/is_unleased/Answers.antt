use Rattle.std.proofs.Common.{arith}
use Rattle.explain.proofs.of_block.is_unleased.Goals as goal

pub returns-in-Some : goal.returns-in-Some
returns-in-Some g c = grind arith
