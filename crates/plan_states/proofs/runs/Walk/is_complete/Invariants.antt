use Rattle.std.proofs.Common.{ℕ, ◌<◌, [], map, length}
use Rattle.std.specs.Prelude.{slice_index_or, vec_items}
use Rattle.plan_states.specs.RunLog.{AreEdgesLogged}
use Rattle.plan_states.specs.Whole.{layer_at}
use Rattle.plan_states.proofs.runs.Walk.is_complete.Given as goal

abbrev pub invariant-loop-depth : goal.invariant-loop-depth
invariant-loop-depth l =
    (depth : ℕ) → depth < l.depth → (state : ℕ) → state < length (layer_at l.graph depth)
    → AreEdgesLogged l.self.log.turns.items l.self.visits.items depth state (slice_index_or (map vec_items (layer_at l.graph depth)) state [])
