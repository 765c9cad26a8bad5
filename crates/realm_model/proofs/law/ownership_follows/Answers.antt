use Rattle.realm_model.proofs.OwnFollows.{own_follows}
use Rattle.realm_model.proofs.law.ownership_follows.Goals as goal

pub returns : goal.returns
returns c = λ limits history past world twin build act next other at_world at_twin. own_follows limits history past world twin build act next other at_world at_twin
