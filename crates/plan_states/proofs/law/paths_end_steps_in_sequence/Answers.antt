use Rattle.plan_states.proofs.Schedules.{ends_in_sequence}
use Rattle.plan_states.proofs.law.paths_end_steps_in_sequence.Goals as goal

pub returns : goal.returns
returns c = ends_in_sequence
