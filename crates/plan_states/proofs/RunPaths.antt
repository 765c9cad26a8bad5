-- Proofs that each run along a path of a state graph is a run of the plan with the path's schedule.
use Rattle.std.proofs.Common.{ℕ, List, [], ◌∷◌, map, Option, None, refl}
use Rattle.std.specs.Prelude.{Contains}
use Rattle.std.specs.declared.alloc.Global.{Global}
use Rattle.std.specs.declared.string.String.{String}
use Rattle.std.proofs.lemmas.List.Elements.{All-contains}
use Rattle.realm_plan.specs.Plan.{Plan}
use Rattle.realm_program.specs.Replay.{opening_host}
use Rattle.plan_replay.specs.Run.{Position, Turn, start, AreTurns}
use Rattle.schedule_graph.specs.Paths.{Path}
use Rattle.plan_states.specs.Runs.{last_map, ArePathsRuns, IsMapNamed, IsRunFromBoot, IsRunAlong, IsRunOf, IsRunOnPath}
use Rattle.plan_states.specs.Tallies.{builds_of_path, paths_of}
use Rattle.plan_states.specs.declared.edges.Label.{Label}
use Rattle.plan_states.specs.declared.graph.Graph.{Graph}
use Rattle.plan_states.specs.declared.step_end.EndOfStep.{EndOfStep}
use Rattle.plan_states.proofs.Members.{contains_in, in_contains, of_map}

record TurnsAlong (plan : Plan) (maps : List (String Global)) (before : Option ℕ) (from : Position) (path : Path Label) : Type 0 where
  at : Position
  turns : List Turn
  are_turns : AreTurns plan (builds_of_path path) from turns at
  is_map : IsMapNamed plan maps (last_map before path) at

turns_along : (plan : Plan) (ends : List EndOfStep) (held : List (List ℕ)) (maps : List (String Global)) (before : Option ℕ) (from : Position) (path : Path Label)
    → IsMapNamed plan maps before from → IsRunAlong plan ends held maps from path → TurnsAlong plan maps before from path
turns_along plan ends held maps before from [] is_map run = record { at = from; turns = []; are_turns = refl; is_map = is_map }
turns_along plan ends held maps before from (edge ∷ path) is_map (to, labelled, run) =
    let rest = turns_along plan ends held maps edge.label.map to path labelled.is_map run in
    let is = labelled.is_taken in
    record {
      at = rest.at;
      turns = labelled.taken.turn ∷ rest.turns;
      are_turns = (is.of_build, to, is.is_turn, rest.are_turns);
      is_map = rest.is_map;
    }

pub run_of : (plan : Plan) (graph : Graph) (path : Path Label) → IsRunFromBoot plan graph path → IsRunOf plan graph path
run_of plan graph path run =
    let it = turns_along plan graph.ends.items graph.held.items graph.maps.items None (start (opening_host plan)) path tt run in
    record { at = it.at; reached = record { turns = it.turns; are_turns = it.are_turns }; is_map = it.is_map }

pub run_on_path : (plan : Plan) (graph : Graph) (schedule : List ℕ) → ArePathsRuns plan graph → Contains (map builds_of_path (paths_of graph)) schedule
    → IsRunOnPath plan graph schedule
run_on_path plan graph schedule runs there =
    let it = of_map builds_of_path schedule (paths_of graph) (in_contains schedule (map builds_of_path (paths_of graph)) there) in
    let is_path = contains_in it.one (paths_of graph) it.is_in in
    record {
      path = it.one;
      is_path = is_path;
      is_schedule = it.made;
      is_run = All-contains (IsRunFromBoot plan graph) (paths_of graph) it.one runs is_path;
    }
