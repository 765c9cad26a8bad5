use Rattle.realm_model.proofs.Room.{room_taken_legal}
use Rattle.realm_model.proofs.law.room_is_taken.Goals as goal

pub returns : goal.returns
returns c = λ limits history world event next legal at. room_taken_legal limits history world event next legal at
