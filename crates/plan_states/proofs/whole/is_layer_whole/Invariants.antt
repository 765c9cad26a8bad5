use Rattle.std.proofs.Common.{ℕ, ◌<◌, [], map}
use Rattle.std.specs.Prelude.{slice_index_or, vec_items}
use Rattle.realm_plan.specs.PlanView.{plan_view}
use Rattle.plan_states.specs.Whole.{IsStateWhole}
use Rattle.plan_states.proofs.whole.is_layer_whole.Given as goal

abbrev pub invariant-loop-place : goal.invariant-loop-place
invariant-loop-place l =
    (place : ℕ) → place < l.place
    → IsStateWhole (plan_view l.plan) l.ends l.map_count (slice_index_or l.states place []) l.next (slice_index_or (map vec_items l.layer) place [])
