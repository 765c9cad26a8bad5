use Rattle.realm_model.proofs.Emptied.{emptied}
use Rattle.realm_model.proofs.law.nothing_open_is_noninterference.Goals as goal

pub returns : goal.returns
returns c = λ limits history world build legal at none. emptied limits build history world legal at none
