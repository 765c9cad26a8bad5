-- Correctness and completeness of a run log: each logged turn is a turn of the plan, and each edge of the state graph
-- has its logged turn.
use Rattle.std.specs.Prelude.{◌≡◌, ◌<◌, ◌+◌, ℕ, List, [], All, map, length, Option, Some, Vec, vec_items, option_and_then, slice_get, slice_index_or}
use Rattle.std.specs.declared.alloc.Global.{Global}
use Rattle.std.specs.declared.string.String.{String}
use Rattle.realm_plan.specs.Plan.{Plan}
use Rattle.plan_replay.specs.Run.{Position, start}
use Rattle.realm_program.specs.Replay.{opening_host}
use Rattle.schedule_graph.specs.declared.graph.Edge.{Edge}
use Rattle.plan_states.specs.Reached.{IsReached}
use Rattle.plan_states.specs.Runs.{IsLabelled}
use Rattle.plan_states.specs.Snapshots.{AreBuildsAt, AreSameBuilds, IsOfHost}
use Rattle.plan_states.specs.Whole.{layer_at}
use Rattle.plan_states.specs.declared.edges.Label.{Label}
use Rattle.plan_states.specs.declared.graph.Graph.{Graph}
use Rattle.plan_states.specs.declared.run_log.LoggedTurn.{LoggedTurn}
use Rattle.plan_states.specs.declared.run_log.RunLog.{RunLog}
use Rattle.plan_states.specs.declared.running.Running.{Running}
use Rattle.plan_states.specs.declared.runs.Visit.{Visit}
use Rattle.plan_states.specs.declared.snapshot.Snapshot.{Snapshot}
use Rattle.plan_states.specs.declared.step_end.EndOfStep.{EndOfStep}

abbrev pub position_of : Running → Position
position_of running = record { host = running.host; places = running.places }

-- the snapshot shows the position, and a run of the plan leads from boot to that position
pub record IsSnapshotOfRun (plan : Plan) (it : Snapshot) (at : Position) : Type 0 where
  pub schedule : List ℕ
  pub reached : IsReached plan schedule at
  pub of_host : IsOfHost at
  pub builds : AreBuildsAt at 8 it.builds.items

-- the snapshot with this number shows the position, which a run of the plan reaches from boot
pub record IsShownBy (plan : Plan) (snapshots : List Snapshot) (number : ℕ) (at : Position) : Type 0 where
  pub it : Snapshot
  pub is_there : slice_get snapshots number ≡ Some it
  pub shown : IsSnapshotOfRun plan it at

-- the snapshot with this number shows the position
pub record IsAtSnapshot (snapshots : List Snapshot) (number : ℕ) (at : Position) : Type 0 where
  pub it : Snapshot
  pub is_there : slice_get snapshots number ≡ Some it
  pub of_host : IsOfHost at
  pub builds : AreBuildsAt at 8 it.builds.items

-- the snapshot with this number agrees with the given one on all eight builds
pub record IsSnapshotNumber (snapshots : List Snapshot) (number : ℕ) (snapshot : Snapshot) : Type 0 where
  pub it : Snapshot
  pub is_there : slice_get snapshots number ≡ Some it
  pub same : AreSameBuilds 8 it.builds.items snapshot.builds.items

-- a turn that fits the logged label leads from a position with snapshot `from` to one with snapshot `to`
pub record IsLogged (plan : Plan) (ends : List EndOfStep) (held : List (List ℕ)) (maps : List (String Global)) (snapshots : List Snapshot) (turn : LoggedTurn) : Type 0 where
  pub at : Position
  pub to : Position
  pub before : IsShownBy plan snapshots turn.from at
  pub labelled : IsLabelled plan ends held maps at turn.label to
  pub after : IsShownBy plan snapshots turn.to to

-- Snapshot 0 shows the position at boot, and each logged turn leads from its snapshot `from` to its snapshot `to`.
pub record IsLog (plan : Plan) (ends : List EndOfStep) (held : List (List ℕ)) (maps : List (String Global)) (log : RunLog) : Type 0 where
  pub boot : IsShownBy plan log.snapshots.items 0 (start (opening_host plan))
  pub turns : All (IsLogged plan ends held maps log.snapshots.items) log.turns.items

-- ---- the edges that were run

-- the number of a state's snapshot, if the state has a snapshot
abbrev pub snapshot_at : List (Vec Visit Global) → ℕ → ℕ → Option ℕ
snapshot_at visits depth state =
    option_and_then (λ (visit : Visit). visit.snapshot) (slice_get (slice_index_or (map vec_items visits) depth []) state)

-- a logged turn has the label, and leads from snapshot `from` to snapshot `to`
pub record IsEdgeLogged (turns : List LoggedTurn) (from to : Option ℕ) (label : Label) : Type 0 where
  pub number : ℕ
  pub turn : LoggedTurn
  pub is_there : slice_get turns number ≡ Some turn
  pub same : turn.label ≡ label
  pub leaves : from ≡ Some turn.from
  pub leads : to ≡ Some turn.to

-- each edge from a state is logged as a turn between the snapshots of the two states that it joins
abbrev pub AreEdgesLogged : List LoggedTurn → List (Vec Visit Global) → ℕ → ℕ → List (Edge Label) → Type 0
AreEdgesLogged turns visits depth state edges =
    All (λ edge. IsEdgeLogged turns (snapshot_at visits depth state) (snapshot_at visits (depth + 1) edge.to) edge.label) edges

-- The first state has snapshot 0, and each edge of the graph is logged as a turn.
pub record IsComplete (graph : Graph) (turns : List LoggedTurn) (visits : List (Vec Visit Global)) : Type 0 where
  pub start : snapshot_at visits 0 0 ≡ Some 0
  pub edges : (depth : ℕ) → depth < length graph.layers.items → (state : ℕ) → state < length (layer_at graph depth)
      → AreEdgesLogged turns visits depth state (slice_index_or (map vec_items (layer_at graph depth)) state [])
