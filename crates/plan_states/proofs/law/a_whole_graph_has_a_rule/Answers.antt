use Rattle.plan_states.proofs.Schedules.{own_is_rule}
use Rattle.plan_states.proofs.law.a_whole_graph_has_a_rule.Goals as goal

pub returns : goal.returns
returns c = own_is_rule
