use Rattle.realm_model.proofs.RollBack.{rolled_back}
use Rattle.realm_model.proofs.law.marks_can_be_rolled_back_to.Goals as goal

pub returns : goal.returns
returns c = λ limits history world mark legal at stands rest. rolled_back limits history mark world legal at stands rest
