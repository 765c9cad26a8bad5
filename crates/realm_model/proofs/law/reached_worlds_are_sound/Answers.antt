use Rattle.realm_model.proofs.Reachable.{reachable_worlds}
use Rattle.realm_model.proofs.law.reached_worlds_are_sound.Goals as goal

pub returns : goal.returns
returns c = reachable_worlds
