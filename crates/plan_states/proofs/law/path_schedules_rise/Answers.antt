use Rattle.plan_states.proofs.Paths.{before-self}
use Rattle.plan_states.proofs.Schedules.{paths_rise}
use Rattle.plan_states.proofs.law.path_schedules_rise.Goals as goal

pub returns-clause-rise : goal.returns-clause-rise
returns-clause-rise c = paths_rise

pub returns-clause-never_twice : goal.returns-clause-never_twice
returns-clause-never_twice c = before-self
