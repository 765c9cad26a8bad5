-- The condition that the paths of a state graph are runs of the plan.
use Rattle.std.specs.Prelude.{◌≡◌, ℕ, List, [], ◌∷◌, All, Contains, Option, Some, None, option_map, slice_get, string_bytes}
use Rattle.std.specs.declared.alloc.Global.{Global}
use Rattle.std.specs.declared.string.String.{String}
use Rattle.realm_plan.specs.Plan.{Plan}
use Rattle.plan_replay.specs.Run.{Position, start, map_text}
use Rattle.realm_program.specs.Replay.{opening_host}
use Rattle.schedule_graph.specs.Paths.{Path}
use Rattle.plan_states.specs.Questions.{pages_of_builds}
use Rattle.plan_states.specs.Reached.{IsReached, IsTurnAt, AreOver}
use Rattle.plan_states.specs.Tallies.{builds_of_path, paths_of}
use Rattle.plan_states.specs.Turned.{Taken, end_of}
use Rattle.plan_states.specs.declared.edges.Label.{Label}
use Rattle.plan_states.specs.declared.graph.Graph.{Graph}
use Rattle.plan_states.specs.declared.step_end.EndOfStep.{EndOfStep}

-- the step outcome that a label names, if it names one
abbrev pub end_named : List EndOfStep → Option ℕ → Option EndOfStep
end_named ends None = None
end_named ends (Some number) = slice_get ends number

-- If a label names a map, no build has a step left at the position, and the map is that of the position's host.
abbrev pub IsMapNamed : Plan → List (String Global) → Option ℕ → Position → Type 0
IsMapNamed plan maps None at = Unit {0}
IsMapNamed plan maps (Some number) at = AreOver plan at.places × (option_map string_bytes (slice_get maps number) ≡ Some (map_text at.host))

-- A turn leads from one position to the other, with the build, the step outcome, the page counts and the map that the
-- label names. The turn ends its step with that outcome, or leaves the step under way if the label names none. If the
-- label names a map, it is that of the host after the turn.
pub record IsLabelled (plan : Plan) (ends : List EndOfStep) (held : List (List ℕ)) (maps : List (String Global)) (at : Position) (label : Label) (to : Position) : Type 0 where
  pub taken : Taken
  pub is_taken : IsTurnAt plan at label.build taken to
  pub is_end : end_of taken ≡ end_named ends label.end
  pub is_held : slice_get held label.held ≡ Some (pages_of_builds to.host)
  pub is_map : IsMapNamed plan maps label.map to

-- The plan can be run from a position along a path, one turn after the other, with the step outcomes and the map that
-- the path names.
abbrev pub IsRunAlong : Plan → List EndOfStep → List (List ℕ) → List (String Global) → Position → Path Label → Type 0
IsRunAlong plan ends held maps at [] = Unit {0}
IsRunAlong plan ends held maps at (edge ∷ path) =
    (to : Position) × IsLabelled plan ends held maps at edge.label to × IsRunAlong plan ends held maps to path

-- The plan can be run along the path from boot, with the step outcomes and the map that the path names.
abbrev pub IsRunFromBoot : Plan → Graph → Path Label → Type 0
IsRunFromBoot plan graph path = IsRunAlong plan graph.ends.items graph.held.items graph.maps.items (start (opening_host plan)) path

-- Each path of the graph is a run of the plan from boot, with the step outcomes and the map that the path names.
abbrev pub ArePathsRuns : Plan → Graph → Type 0
ArePathsRuns plan graph = All (IsRunFromBoot plan graph) (paths_of graph)

-- ---- schedules

-- a path of the graph has this schedule, and the plan can be run along the path from boot
pub record IsRunOnPath (plan : Plan) (graph : Graph) (schedule : List ℕ) : Type 0 where
  pub path : Path Label
  pub is_path : Contains (paths_of graph) path
  pub is_schedule : builds_of_path path ≡ schedule
  pub is_run : IsRunFromBoot plan graph path

-- the map in the label of a path's last turn, as an index, or `before` if the path is empty
abbrev pub last_map : Option ℕ → Path Label → Option ℕ
last_map before [] = before
last_map before (edge ∷ path) = last_map edge.label.map path

-- A run of the plan from boot has the schedule of the path, and ends with the map in the label of the path's last turn,
-- if any.
pub record IsRunOf (plan : Plan) (graph : Graph) (path : Path Label) : Type 0 where
  pub at : Position
  pub reached : IsReached plan (builds_of_path path) at
  pub is_map : IsMapNamed plan graph.maps.items (last_map None path) at
