use Rattle.realm_model.proofs.Rests.{rest_is_of_all}
use Rattle.realm_model.proofs.law.at_rest_is_none_running.Goals as goal

pub returns : goal.returns
returns c = λ limits history world build at. rest_is_of_all limits history build world at
