use Rattle.plan_states.proofs.Schedules.{turns_rule}
use Rattle.plan_states.proofs.law.single_turns_make_a_rule.Goals as goal

pub returns : goal.returns
returns c = turns_rule
