-- Whole state graphs, in which each build with a step left in a state has exactly one edge from that state.
use Rattle.std.specs.Prelude.{◌≡◌, ℕ, ◌+◌, ◌<◌, ◌==◌, ◌&&◌, nat_lt, Bool, true, false, not, List, [], map, filter, length, Option, Some, None, is_some, Vec, vec_items, slice_get, slice_index_or, if◌then◌else◌}
use Rattle.std.specs.List.{list_all, range_with_len}
use Rattle.std.specs.declared.alloc.Global.{Global}
use Rattle.realm_plan.specs.Plan.{Plan}
use Rattle.realm_plan.specs.declared.step.PlanStep.{PlanStep}
use Rattle.plan_replay.specs.Place.{number_after}
use Rattle.plan_replay.specs.Run.{step_after}
use Rattle.plan_replay.specs.Turn.{undoes_many}
use Rattle.schedule_graph.specs.declared.graph.Edge.{Edge}
use Rattle.plan_states.specs.declared.edges.Label.{Label}
use Rattle.plan_states.specs.declared.graph.Graph.{Graph}
use Rattle.plan_states.specs.declared.step_end.EndOfStep.{EndOfStep}

-- ---- how far builds are

-- The number of steps that a build has done, given the list of these numbers for all builds. The abort of giving up has
-- a number beyond the steps.
abbrev pub done_of : List ℕ → ℕ → ℕ
done_of done build = slice_index_or done build 0

abbrev pub has_step_left : Plan → List ℕ → ℕ → Bool
has_step_left plan done build = is_some (step_after plan build (done_of done build))

abbrev pub are_over : Plan → List ℕ → Bool
are_over plan done = list_all (λ build. not (has_step_left plan done build)) (range_with_len 0 8)

abbrev pub is_fresh : List ℕ → Bool
is_fresh done = list_all (λ build. done_of done build == 0) (range_with_len 0 8)

-- there is exactly one state, and no step is done in it
abbrev pub is_at_start : List (List ℕ) → Bool
is_at_start states = length states == 1 && is_fresh (slice_index_or states 0 [])

-- ---- turns

-- there is an outcome, and it belongs to this step of the build
abbrev pub is_end_of : ℕ → ℕ → Option EndOfStep → Bool
is_end_of build step None = false
is_end_of build step (Some end) = end.build == build && end.step == step

-- the step may take more than one turn
abbrev pub takes_many : Option PlanStep → Bool
takes_many None = false
takes_many (Some step) = undoes_many step

-- the turn ends the build's next step, or leaves it under way if it may take several turns
abbrev pub uses_next : Plan → List EndOfStep → ℕ → ℕ → Option ℕ → Bool
uses_next plan ends build done None = takes_many (step_after plan build done)
uses_next plan ends build done (Some number) = is_end_of build done (slice_get ends number)

abbrev pub is_end_refused : Option EndOfStep → Bool
is_end_refused None = false
is_end_refused (Some end) = is_some end.refusal

-- the index of a build's next step after a turn of the build, given the outcome of the step that the turn ends, if it
-- ends one
abbrev pub number_with : Plan → List EndOfStep → ℕ → Option ℕ → ℕ
number_with plan ends done None = done
number_with plan ends done (Some number) = number_after plan.gives_up (is_end_refused (slice_get ends number)) done

-- the index of a build's next step after a turn of any build
abbrev pub number_by : Plan → List EndOfStep → ℕ → ℕ → Label → ℕ
number_by plan ends build done label = if build == label.build then number_with plan ends done label.end else done

abbrev pub done_after : Plan → List EndOfStep → List ℕ → Label → ℕ → ℕ
done_after plan ends done label build = number_by plan ends build (done_of done build) label

abbrev pub are_done_after : Plan → List EndOfStep → List ℕ → Label → List ℕ → Bool
are_done_after plan ends done label after = list_all (λ build. done_of after build == done_after plan ends done label build) (range_with_len 0 8)

-- a turn's label names a map, with an index below `maps`, exactly if no build has a step left after the turn
abbrev pub has_map : ℕ → Bool → Option ℕ → Bool
has_map maps over None = not over
has_map maps over (Some number) = over && nat_lt number maps

-- a turn with this label leads from progress `done` to progress `after`
abbrev pub leads_to_state : Plan → List EndOfStep → ℕ → List ℕ → Label → List ℕ → Bool
leads_to_state plan ends maps done label after =
    uses_next plan ends label.build (done_of done label.build) label.end
    && (are_done_after plan ends done label after && has_map maps (are_over plan after) label.map)

abbrev pub leads_if_there : Plan → List EndOfStep → ℕ → List ℕ → Label → Option (List ℕ) → Bool
leads_if_there plan ends maps done label None = false
leads_if_there plan ends maps done label (Some after) = leads_to_state plan ends maps done label after

-- the edge leads to a state of the next layer that fits the edge's turn
abbrev pub leads_on : Plan → List EndOfStep → ℕ → List ℕ → List (List ℕ) → Edge Label → Bool
leads_on plan ends maps done next edge = leads_if_there plan ends maps done edge.label (slice_get next edge.to)

-- ---- states

-- there is an edge, and it is a turn of the build
abbrev pub is_of_build : ℕ → Option (Edge Label) → Bool
is_of_build build None = false
is_of_build build (Some edge) = edge.label.build == build

-- The state has one edge for each build with a step left, from the lowest build on. Each edge leads to a state of the
-- next layer that fits the edge's turn.
pub record IsStateWhole (plan : Plan) (ends : List EndOfStep) (maps : ℕ) (done : List ℕ) (next : List (List ℕ)) (edges : List (Edge Label)) : Type 0 where
  pub builds : map (λ edge. edge.label.build) edges ≡ filter (has_step_left plan done) (range_with_len 0 8)
  pub lead_on : list_all (leads_on plan ends maps done next) edges ≡ true

-- The layer has at least one state, and each of its states is whole, with one edge for each build that has a step left.
pub record IsLayerWhole (plan : Plan) (ends : List EndOfStep) (maps : ℕ) (states next : List (List ℕ)) (layer : List (Vec (Edge Label) Global)) : Type 0 where
  pub some : 0 < length states
  pub as_many : length states ≡ length layer
  pub each : (place : ℕ) → place < length states
      → IsStateWhole plan ends maps (slice_index_or states place []) next (slice_index_or (map vec_items layer) place [])

-- the states of a layer, each given by the numbers of steps that the builds have done
abbrev pub states_at : Graph → ℕ → List (List ℕ)
states_at graph depth = slice_index_or (map vec_items graph.progress.items) depth []

abbrev pub layer_at : Graph → ℕ → List (Vec (Edge Label) Global)
layer_at graph depth = slice_index_or (map vec_items graph.layers.items) depth []

-- The first layer has only the state in which no step is done, and each state has one edge for each build that has a
-- step left. The graph gives the progress of each layer, and has at least one map.
pub record IsWholeGraph (plan : Plan) (graph : Graph) : Type 0 where
  pub as_many : length graph.progress.items ≡ length graph.layers.items
  pub start : is_at_start (states_at graph 0) ≡ true
  pub maps : 0 < length graph.maps.items
  pub layers : (depth : ℕ) → depth < length graph.layers.items
      → IsLayerWhole plan graph.ends.items (length graph.maps.items) (states_at graph depth) (states_at graph (depth + 1)) (layer_at graph depth)
