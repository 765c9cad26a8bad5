use Rattle.realm_model.proofs.Unpaired.{own_step}
use Rattle.realm_model.proofs.law.other_acts_own_the_same.Goals as goal

pub returns : goal.returns
returns c = λ limits world build act next. own_step limits build world next act
