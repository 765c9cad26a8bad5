use Rattle.realm_model.proofs.TakenAlone.{legal_alone}
use Rattle.realm_model.proofs.law.builds_can_be_taken_alone.Goals as goal

pub returns : goal.returns
returns c = legal_alone
