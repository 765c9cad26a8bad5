use Rattle.realm_model.proofs.Reaching.{step_says_reached}
use Rattle.realm_model.proofs.law.step_is_exact.Goals as goal

pub returns : goal.returns
returns c = λ limits history world event at. step_says_reached limits history world event at
