use Rattle.view_program.proofs.Runs.{run_of_plan}
use Rattle.view_program.proofs.schedules.law.a_run_is_one_of_the_plan.Goals as goal

pub returns : goal.returns
returns c = run_of_plan
