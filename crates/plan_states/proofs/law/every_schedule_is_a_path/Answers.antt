use Rattle.plan_states.proofs.Schedules.{schedule_is_found, paths_are_schedules}
use Rattle.plan_states.proofs.law.every_schedule_is_a_path.Goals as goal

pub returns-clause-found : goal.returns-clause-found
returns-clause-found c = λ plan graph left whole rule. schedule_is_found plan graph whole left rule

pub returns-clause-no_others : goal.returns-clause-no_others
returns-clause-no_others c = λ plan graph left whole rule. paths_are_schedules plan graph whole left rule
