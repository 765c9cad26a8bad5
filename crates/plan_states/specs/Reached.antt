-- The runs of a plan from boot, with the step outcomes and the final maps of these runs.
use Rattle.std.specs.Prelude.{◌≡◌, ◌<◌, ℕ, Bool, false, List, Some, is_some}
use Rattle.realm_plan.specs.Plan.{Plan}
use Rattle.plan_replay.specs.Run.{Position, Turn, start, place_of, step_after, map_text, IsTurn, AreTurns}
use Rattle.plan_replay.specs.declared.place.PlanCursor.{PlanCursor}
use Rattle.realm_program.specs.Replay.{opening_host}
use Rattle.plan_states.specs.Turned.{Taken, end_of}
use Rattle.plan_states.specs.declared.step_end.EndOfStep.{EndOfStep}

-- a run of the plan from boot, with this schedule, leads to the position
pub record IsReached (plan : Plan) (schedule : List ℕ) (at : Position) : Type 0 where
  pub turns : List Turn
  pub are_turns : AreTurns plan schedule (start (opening_host plan)) turns at

-- `taken` leads from `at` to `to` as a turn of the build, and has the build's progress before and after the turn
pub record IsTurnAt (plan : Plan) (at : Position) (build : ℕ) (taken : Taken) (to : Position) : Type 0 where
  pub of_build : taken.turn.build ≡ build
  pub is_turn : IsTurn plan at taken.turn to
  pub before : taken.before ≡ (place_of at.places build).done
  pub after : taken.after ≡ (place_of to.places build).done

-- in a run of the plan, a turn ends a step with this outcome
pub record IsEndOfRun (plan : Plan) (end : EndOfStep) : Type 0 where
  pub schedule : List ℕ
  pub at : Position
  pub reached : IsReached plan schedule at
  pub taken : Taken
  pub to : Position
  pub is_taken : IsTurnAt plan at end.build taken to
  pub is_end : end_of taken ≡ Some end

abbrev pub is_left : Plan → List PlanCursor → ℕ → Bool
is_left plan places build = is_some (step_after plan build (place_of places build).done)

-- no build has a step left
abbrev pub AreOver : Plan → List PlanCursor → Type 0
AreOver plan places = (build : ℕ) → build < 8 → is_left plan places build ≡ false

-- a run of the plan, after which no build has a step left, ends with this map
pub record IsMapOfRun (plan : Plan) (map : List ℕ) : Type 0 where
  pub schedule : List ℕ
  pub at : Position
  pub reached : IsReached plan schedule at
  pub over : AreOver plan at.places
  pub is_map : map ≡ map_text at.host
