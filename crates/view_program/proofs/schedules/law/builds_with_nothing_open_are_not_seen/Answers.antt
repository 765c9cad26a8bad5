use Rattle.plan_states.proofs.Unseen.{unseen}
use Rattle.view_program.proofs.schedules.law.builds_with_nothing_open_are_not_seen.Goals as goal

pub returns : goal.returns
returns c = unseen
