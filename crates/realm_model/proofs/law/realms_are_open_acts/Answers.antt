use Rattle.realm_model.proofs.OpenRealm.{realm_is_open}
use Rattle.realm_model.proofs.law.realms_are_open_acts.Goals as goal

pub returns : goal.returns
returns c = λ limits history world build legal at. realm_is_open limits history world build legal at
