use Rattle.std.proofs.Common.{arith}
use Rattle.explain.proofs.of_build.page_there.Goals as goal

pub returns : goal.returns
returns g c = grind arith
