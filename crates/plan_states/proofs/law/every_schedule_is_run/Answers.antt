use Rattle.plan_states.proofs.RunPaths.{run_on_path}
use Rattle.plan_states.proofs.Schedules.{schedule_is_found}
use Rattle.plan_states.proofs.law.every_schedule_is_run.Goals as goal

pub returns : goal.returns
returns c = λ plan graph left whole runs rule schedule is. run_on_path plan graph schedule runs (schedule_is_found plan graph whole left rule schedule is)
