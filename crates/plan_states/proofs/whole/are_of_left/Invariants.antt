use Rattle.std.specs.Prelude.{◌≡◌, ◌≤◌, filter, length, map, take}
use Rattle.realm_plan.specs.PlanView.{plan_view}
use Rattle.plan_states.specs.Whole.{has_step_left}
use Rattle.plan_states.proofs.whole.are_of_left.Given as goal

abbrev pub invariant-loop-build : goal.invariant-loop-build
invariant-loop-build l = record {
  inside : l.at ≤ length l.edges;
  same : map (λ edge. edge.label.build) (take l.at l.edges) ≡ filter (has_step_left (plan_view l.plan) l.done) (take l.build-index l.builds);
}
