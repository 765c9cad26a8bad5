use Rattle.std.proofs.Common.{ℕ, ◌<◌}
use Rattle.plan_states.specs.Distinct.{IsNewMap}
use Rattle.plan_states.proofs.distinct.are_maps_distinct.Given as goal

abbrev pub invariant-loop-place : goal.invariant-loop-place
invariant-loop-place l = (place : ℕ) → place < l.place → IsNewMap l.maps place
