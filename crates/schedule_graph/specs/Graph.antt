-- The condition that a layered graph has positions of a plan's runs as its states, and turns of the plan as its edges.
use Rattle.std.specs.Prelude.{◌≡◌, ℕ, List, [], ◌∷◌, map, Some, slice_get}
use Rattle.std.specs.List.{AllByRecursion}
use Rattle.realm_plan.specs.Plan.{Plan}
use Rattle.plan_replay.specs.Run.{Position, Turn, IsTurn, AreTurns}
use Rattle.schedule_graph.specs.Paths.{Layer, Path}
use Rattle.schedule_graph.specs.State.{AreOneState}
use Rattle.schedule_graph.specs.declared.graph.Edge.{Edge}

-- The turn of an edge can be taken at a position, and leads to the state of the next layer that the edge names.
pub record IsEdge (plan : Plan) (at : Position) (next : List Position) (edge : Edge Turn) : Type 0 where
  pub to : Position
  pub is_turn : IsTurn plan at edge.label to
  pub state : Position
  pub is_there : slice_get next edge.to ≡ Some state
  pub same : AreOneState to state

-- each edge of each state of a layer is a turn to a state of the next layer
abbrev pub AreEdges : Plan → List Position → List Position → Layer Turn → Type 0
AreEdges plan states next layer =
    (number : ℕ) (at : Position) (edges : List (Edge Turn))
    → slice_get states number ≡ Some at → slice_get layer number ≡ Some edges → AllByRecursion (IsEdge plan at next) edges

-- the states of the first layer, or none if there is no layer
abbrev pub first_of : List (List Position) → List Position
first_of [] = []
first_of (states ∷ rest) = states

-- The edges of the layers are turns of the plan between states, and each state is given by one position.
abbrev pub IsGraph : Plan → List (List Position) → List (Layer Turn) → Type 0
IsGraph plan [] [] = Unit {0}
IsGraph plan (states ∷ rest) (layer ∷ layers) = AreEdges plan states (first_of rest) layer × IsGraph plan rest layers
IsGraph plan _ _ = ⊥

-- the schedule of a path: the build of each of its turns
abbrev pub schedule_of : Path Turn → List ℕ
schedule_of path = map (λ edge. edge.label.build) path

-- the turns of a path
abbrev pub turns_of : Path Turn → List Turn
turns_of path = map (λ edge. edge.label) path

-- From a given position, the plan can be run in the schedule of a path, with the answers that the path has.
pub record IsPathRun (plan : Plan) (from : Position) (path : Path Turn) : Type 0 where
  pub to : Position
  pub are_turns : AreTurns plan (schedule_of path) from (turns_of path) to
