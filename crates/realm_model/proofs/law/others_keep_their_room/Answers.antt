use Rattle.realm_model.proofs.Accepted.{keeps_its_room}
use Rattle.realm_model.proofs.law.others_keep_their_room.Goals as goal

pub returns : goal.returns
returns c = λ limits history world build other legal at apart. keeps_its_room limits history world build legal at other apart
