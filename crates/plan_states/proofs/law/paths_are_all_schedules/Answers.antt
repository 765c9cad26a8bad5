use Rattle.plan_states.proofs.Schedules.{list_of_schedules}
use Rattle.plan_states.proofs.law.paths_are_all_schedules.Goals as goal

pub returns : goal.returns
returns c = λ plan graph left whole rule. list_of_schedules plan graph whole left rule
