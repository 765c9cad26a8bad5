use Rattle.std.proofs.Common.{arith}
use Rattle.explain.proofs.of_input.page_undelegated.Goals as goal

pub returns : goal.returns
returns g c = grind arith
