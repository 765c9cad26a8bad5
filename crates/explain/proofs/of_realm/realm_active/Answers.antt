use Rattle.std.proofs.Common.{arith}
use Rattle.explain.proofs.of_realm.realm_active.Goals as goal

pub returns : goal.returns
returns g c = grind arith
