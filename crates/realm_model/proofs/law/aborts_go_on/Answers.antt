use Rattle.realm_model.proofs.Aborting.{abort_goes_on}
use Rattle.realm_model.proofs.law.aborts_go_on.Goals as goal

pub returns : goal.returns
returns c = λ limits history later build begun world legal before at rest undoing. abort_goes_on limits history later build begun world legal before at rest undoing
