use Rattle.plan_states.proofs.Schedules.{each_step_ends}
use Rattle.plan_states.proofs.law.paths_end_each_step.Goals as goal

pub returns : goal.returns
returns c = each_step_ends
