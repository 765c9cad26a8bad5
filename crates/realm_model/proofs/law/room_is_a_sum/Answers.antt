use Rattle.realm_model.proofs.Room.{room_is_sum}
use Rattle.realm_model.proofs.law.room_is_a_sum.Goals as goal

pub returns : goal.returns
returns c = λ limits history world build legal at. room_is_sum limits history world build legal at
