use Rattle.realm_model.proofs.RecsOpen.{recs_are_open}
use Rattle.realm_model.proofs.law.recs_are_open_acts.Goals as goal

pub returns : goal.returns
returns c = λ limits history world build legal at. recs_are_open limits history world build legal at
