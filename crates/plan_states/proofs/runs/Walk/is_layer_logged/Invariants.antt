use Rattle.std.proofs.Common.{ℕ, ◌<◌, [], map}
use Rattle.std.specs.Prelude.{slice_index_or, vec_items}
use Rattle.plan_states.specs.RunLog.{AreEdgesLogged}
use Rattle.plan_states.proofs.runs.Walk.is_layer_logged.Given as goal

abbrev pub invariant-loop-state : goal.invariant-loop-state
invariant-loop-state l =
    (state : ℕ) → state < l.state
    → AreEdgesLogged l.self.log.turns.items l.self.visits.items l.depth state (slice_index_or (map vec_items l.layer) state [])
