use Rattle.realm_model.proofs.Commuting.{events_commute}
use Rattle.realm_model.proofs.law.events_of_two_builds_commute.Goals as goal

pub returns : goal.returns
returns c = events_commute
