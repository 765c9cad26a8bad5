use Rattle.std.proofs.Common.{arith}
use Rattle.explain.proofs.of_rec.rec_ready.Goals as goal

pub returns : goal.returns
returns g c = grind arith
