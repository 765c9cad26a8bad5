use Rattle.plan_states.proofs.RunPaths.{run_of}
use Rattle.plan_states.proofs.law.runs_on_paths_are_runs.Goals as goal

pub returns : goal.returns
returns c = run_of
