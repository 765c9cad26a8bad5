use Rattle.realm_model.proofs.Marks.{stays_valid}
use Rattle.realm_model.proofs.law.marks_remain_valid.Goals as goal

pub returns : goal.returns
returns c = stays_valid
