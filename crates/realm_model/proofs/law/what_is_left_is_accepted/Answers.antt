use Rattle.realm_model.proofs.Accepted.{what_is_left_is_accepted}
use Rattle.realm_model.proofs.law.what_is_left_is_accepted.Goals as goal

pub returns : goal.returns
returns c = λ limits capacity most history world build legal at room. what_is_left_is_accepted limits history world build legal at capacity most room
