use Rattle.std.proofs.Common.{ℕ, ◌+◌, ◌<◌, get_or}
use Rattle.schedule_graph.specs.declared.graph.Edge.{Edge}
use Rattle.plan_states.specs.RunLog.{snapshot_at, IsEdgeLogged}
use Rattle.plan_states.specs.declared.edges.Label.{Label}
use Rattle.plan_states.proofs.runs.Walk.are_logged.Given as goal

abbrev pub invariant-loop-place : goal.invariant-loop-place
invariant-loop-place l =
    (place : ℕ) (other : Edge Label) → place < l.place
    → IsEdgeLogged l.self.log.turns.items (snapshot_at l.self.visits.items l.depth l.state)
    (snapshot_at l.self.visits.items (l.depth + 1) (get_or l.edges place other).to) (get_or l.edges place other).label
