-- The runs of a plan in schedules that are chosen turn by turn.
use Rattle.std.specs.Prelude.{◌≡◌, ℕ, ◌==◌, if◌then◌else◌, Bool, true, false, List, [], ◌∷◌, ◌++◌, map, All, Option, Some, None, is_some, slice_index_or}
use Rattle.std.specs.List.{find, range_with_len}
use Rattle.host_ledger.specs.View.{HostView}
use Rattle.host_commands.specs.declared.refusal.Refusal.{Refusal}
use Rattle.realm_plan.specs.declared.step.PlanStep.{PlanStep}
use Rattle.realm_plan.specs.Plan.{Plan}
use Rattle.plan_replay.specs.Run.{Position, Turn, start, place_of, step_after, IsTurn}
use Rattle.plan_replay.specs.declared.answer.TurnAnswer.{TurnAnswer}
use Rattle.plan_replay.specs.declared.answer.TurnAnswer.TheVariants.{Refused}
use Rattle.plan_replay.specs.declared.place.PlanCursor.{PlanCursor}
use Rattle.view_program.specs.declared.schedules.choice.Choice.{Choice}
use Rattle.plan_states.specs.declared.step_end.EndOfStep.{EndOfStep}

-- ---- the possible choices

-- the build can have the turn: the flags, one for each build, say that the build has a step left
abbrev pub could : List Bool → ℕ → Bool
could left build = slice_index_or left build false

abbrev pub has_left : Plan → List PlanCursor → ℕ → Bool
has_left plan places build = is_some (step_after plan build (place_of places build).done)

-- for each of eight builds, whether it has a step left
unfoldable pub builds_left : Plan → List PlanCursor → List Bool
builds_left plan places = map (has_left plan places) (range_with_len 0 8)

-- the lowest-numbered build that has a step left, if there is one
unfoldable pub lowest_of : List Bool → Option ℕ
lowest_of left = find (could left) (range_with_len 0 8)

-- The choice's flags say which builds have a step left at these cursors, and the chosen build is one of them.
pub record IsOpen (plan : Plan) (places : List PlanCursor) (choice : Choice) : Type 0 where
  pub left : choice.left ≡ builds_left plan places
  pub could : could choice.left choice.build ≡ true

-- ---- steps

-- The position of a run, and the outcomes of the steps that are finished.
pub record Stage : Type 0 where
  pub at : Position
  pub ends : List EndOfStep

abbrev pub stage_at : HostView → List PlanCursor → List EndOfStep → Stage
stage_at host places ends = record { at = record { host = host; places = places }; ends = ends }

abbrev pub refusal_in : TurnAnswer → Option Refusal
refusal_in (Refused refusal) = Some refusal
refusal_in _ = None

abbrev pub refusal_of_turn : Option (PlanStep × TurnAnswer) → Option Refusal
refusal_of_turn None = None
refusal_of_turn (Some told) = refusal_in told.1

-- the outcome of a turn's step if the turn finishes the step, and otherwise nothing
abbrev pub ended : Turn → ℕ → ℕ → List EndOfStep
ended turn before after =
    if before == after then [] else record { build = turn.build; step = before; refusal = refusal_of_turn turn.told } ∷ []

-- A turn of the build leads from stage `from` to stage `to`.
pub record IsStageTurn (plan : Plan) (from : Stage) (build : ℕ) (to : Stage) : Type 0 where
  pub turn : Turn
  pub of_build : turn.build ≡ build
  pub is_turn : IsTurn plan from.at turn to.at
  pub noted : to.ends ≡ from.ends ++ ended turn (place_of from.at.places build).done (place_of to.at.places build).done

-- ---- runs

-- The turns of the chosen builds, one after another, lead from stage `from` to stage `to`.
abbrev pub AreChosen : Plan → Stage → List Choice → Stage → Type 0
AreChosen plan from [] to = to ≡ from
AreChosen plan from (choice ∷ choices) to =
    IsOpen plan from.at.places choice × (between : Stage) × IsStageTurn plan from choice.build between × AreChosen plan between choices to

-- the stage before the first turn
abbrev pub first_stage : HostView → Stage
first_stage host = record { at = start host; ends = [] }

-- A run of the plan whose turns go to the chosen builds leads from `from` to `to`, and no build has a step left at the
-- run's end. The outcomes of the run's steps are `noted`.
pub record IsChosenRun (plan : Plan) (from : HostView) (choices : List Choice) (to : HostView) (noted : List EndOfStep) : Type 0 where
  pub last : Stage
  pub chosen : AreChosen plan (first_stage from) choices last
  pub whole : lowest_of (builds_left plan last.at.places) ≡ None
  pub host : last.at.host ≡ to
  pub ends : last.ends ≡ noted

-- From this stage on, each turn goes to the lowest-numbered build with a step left, until no build has a step left.
-- `choices` is `front`, and then the choices of these turns.
pub record GoesOnTo (plan : Plan) (from : Stage) (front choices : List Choice) (to : Stage) : Type 0 where
  pub more : List Choice
  pub appended : choices ≡ front ++ more
  pub lowest : All (λ choice. lowest_of choice.left ≡ Some choice.build) more
  pub chosen : AreChosen plan from more to
  pub whole : lowest_of (builds_left plan to.at.places) ≡ None
