use Rattle.std.proofs.Common.{inl, subst}
use Rattle.realm_plan.specs.PlanView.{plan_view}
use Rattle.plan_states.specs.Exploration.{IsExploration}
use Rattle.plan_states.proofs.text.states_text.Goals as goal

pub returns-in_ok-graph_text-in-All-clause-ok : goal.returns-in_ok-graph_text-in-All-clause-ok
returns-in_ok-graph_text-in-All-clause-ok c =
    inl (c.in-All.graph, subst (IsExploration (plan_view c.args.plan.now) c.args.most) c.in-All.is c.in_ok-graph.ensures.ok, c.in_ok-graph_text-in-All.ensures)
