use Rattle.std.proofs.Common.{ℕ, ◌+◌, ◌<◌, length}
use Rattle.realm_plan.specs.PlanView.{plan_view}
use Rattle.plan_states.specs.Whole.{states_at, layer_at, IsLayerWhole}
use Rattle.plan_states.proofs.whole.is_whole.Given as goal

abbrev pub invariant-loop-depth : goal.invariant-loop-depth
invariant-loop-depth l =
    (depth : ℕ) → depth < l.depth
    → IsLayerWhole (plan_view l.plan) l.graph.ends.items (length l.graph.maps.items) (states_at l.graph depth) (states_at l.graph (depth + 1)) (layer_at l.graph depth)
