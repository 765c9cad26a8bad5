use Rattle.realm_model.proofs.Marks.{valid_now}
use Rattle.realm_model.proofs.law.new_marks_are_valid.Goals as goal

pub returns : goal.returns
returns c = valid_now
