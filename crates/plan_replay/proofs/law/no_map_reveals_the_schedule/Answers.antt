use Rattle.plan_replay.proofs.Maps.{same_map}
use Rattle.plan_replay.proofs.law.no_map_reveals_the_schedule.Goals as goal

pub returns : goal.returns
returns c = same_map
