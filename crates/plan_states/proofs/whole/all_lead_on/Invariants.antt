use Rattle.std.proofs.Common.{◌≡◌, take, true}
use Rattle.std.specs.List.{list_all}
use Rattle.realm_plan.specs.PlanView.{plan_view}
use Rattle.plan_states.specs.Whole.{leads_on}
use Rattle.plan_states.proofs.whole.all_lead_on.Given as goal

abbrev pub invariant-loop-edge : goal.invariant-loop-edge
invariant-loop-edge l = list_all (leads_on (plan_view l.plan) l.ends l.map_count l.done l.next) (take l.edge-index l.edges) ≡ true
