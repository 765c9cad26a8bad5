-- The runs of a plan as sequences of turns, and the printed text of a run.
use Rattle.std.specs.Prelude.{◌≡◌, ℕ, List, [], ◌∷◌, ◌++◌, length, replicate, sum, Option, Some, None, slice_get, slice_index, slice_index_or, slice_set, option_and_then, nat_le, take, ◌==◌, ◌&&◌, Bool, if◌then◌else◌}
use Rattle.std.specs.List.{flat_map, range_with_len}
use Rattle.host_commands.specs.declared.cmd.Step.TheVariants.{Abort}
use Rattle.host_ledger.specs.View.{HostView, world_of, pages_of_build}
use Rattle.realm_host.specs.Readings.{realm_at}
use Rattle.realm_model.specs.Machine.{cell_at}
use Rattle.realm_model.specs.World.{free_set}
use Rattle.realm_model.specs.declared.states.RealmState.{RealmState}
use Rattle.realm_plan.specs.Asked.{asked}
use Rattle.realm_plan.specs.Lines.{idle_line, page_line, realm_line, free_line}
use Rattle.realm_plan.specs.declared.step.PlanStep.{PlanStep}
use Rattle.realm_plan.specs.declared.step.PlanStep.TheVariants.{Whole}
use Rattle.realm_plan.specs.Plan.{Plan}
use Rattle.plan_replay.specs.Place.{first_place, giving_up, moved_on}
use Rattle.plan_replay.specs.Text.{turn_line}
use Rattle.plan_replay.specs.Turn.{IsStepTurn}
use Rattle.plan_replay.specs.declared.answer.TurnAnswer.{TurnAnswer}
use Rattle.plan_replay.specs.declared.place.PlanCursor.{PlanCursor}

-- ---- runs

-- The state of a run: the host, and each build's cursor in the plan.
pub record Position : Type 0 where
  pub host : HostView
  pub places : List PlanCursor

-- A turn as its output line shows it: the build, and the step with the answer, or nothing if the build has no step
-- left.
pub record Turn : Type 0 where
  pub build : ℕ
  pub told : Option (PlanStep × TurnAnswer)

-- the state at the start of a run: no build has done a step
abbrev pub start : HostView → Position
start host = record { host = host; places = replicate 8 first_place }

abbrev pub place_of : List PlanCursor → ℕ → PlanCursor
place_of places build = slice_index_or places build first_place

-- The step with this number after a build gave up: the abort at number `giving_up`, and none at any other number.
abbrev pub given_up : ℕ → Option PlanStep
given_up number = if number == giving_up then Some (Whole Abort) else None

-- the build's step with this number, if there is one
abbrev pub step_numbered : Bool → List PlanStep → ℕ → Option PlanStep
step_numbered gives_up steps number = if gives_up && nat_le giving_up number then given_up number else slice_get steps number

-- the next step of a build that has done `done` steps, if there is one
abbrev pub step_after : Plan → ℕ → ℕ → Option PlanStep
step_after plan build done = option_and_then (λ steps. step_numbered plan.gives_up steps done) (slice_get plan.builds build)

-- A turn of the given step leads from one position to the other; without a step, the turn changes nothing. The turn has
-- an answer that the host may give. The step is done once no undo of it is left. Until then the build's next turn takes
-- the same step again. A refusal may lead to giving up.
abbrev pub IsTurnOf : Bool → Option PlanStep → Position → Turn → Position → Type 0
IsTurnOf gives_up None from turn to = (turn.told ≡ None) × (to ≡ from)
IsTurnOf gives_up (Some step) from turn to =
    (answer : TurnAnswer)
    × (after : PlanCursor)
    × (turn.told ≡ Some (step, answer))
    × IsStepTurn from.host turn.build (place_of from.places turn.build) (asked step) answer to.host after
    × (to.places ≡ slice_set from.places turn.build (moved_on gives_up answer after))

abbrev pub IsTurn : Plan → Position → Turn → Position → Type 0
IsTurn plan from turn to = IsTurnOf plan.gives_up (step_after plan turn.build (place_of from.places turn.build).done) from turn to

-- The turns, one for each entry of the schedule in sequence, lead from one position to the other.
abbrev pub AreTurns : Plan → List ℕ → Position → List Turn → Position → Type 0
AreTurns plan [] from [] to = to ≡ from
AreTurns plan (build ∷ order) from (turn ∷ turns) to =
    (turn.build ≡ build) × (between : Position) × IsTurn plan from turn between × AreTurns plan order between turns to
AreTurns plan _ from _ to = ⊥

-- ---- the text of a run

-- the output line of a turn: the build with its step and the answer, or with `idle` if it has no step left
abbrev pub reported_text : ℕ → Option (PlanStep × TurnAnswer) → List ℕ
reported_text build None = idle_line build
reported_text build (Some told) = turn_line build told.0 told.1

abbrev pub turn_text : Turn → List ℕ
turn_text turn = reported_text turn.build turn.told

-- the line of the map for a build's page
abbrev pub page_text : HostView → ℕ → ℕ → List ℕ
page_text host build page =
    let cell = cell_at (world_of host).machine (slice_index (pages_of_build host build) page) in
    page_line build page cell.state (sum cell.bytes)

-- the lines of the map for a build's pages, in rising order of the pages' numbers
abbrev pub pages_text : HostView → ℕ → List ℕ
pages_text host build = flat_map (page_text host build) (range_with_len 0 (length (pages_of_build host build)))

-- the line of the map for a build's realm, if the build has a realm
abbrev pub realm_text : ℕ → Option (RealmState × ℕ) → List ℕ
realm_text build None = []
realm_text build (Some realm) = realm_line build realm.0 realm.1

abbrev pub build_text : HostView → ℕ → List ℕ
build_text host build = pages_text host build ++ realm_text build (realm_at (world_of host) build)

-- The text of the map: for each build the lines of its pages and of its realm, and at the end the number of granules
-- that no build leases.
abbrev pub map_text : HostView → List ℕ
map_text host = flat_map (build_text host) (range_with_len 0 8) ++ free_line (length (free_set (world_of host)))

-- A turn of the build leads from one position to the other.
pub record IsTurnOfBuild (plan : Plan) (from : Position) (build : ℕ) (to : Position) : Type 0 where
  pub turn : Turn
  pub of_build : turn.build ≡ build
  pub is_turn : IsTurn plan from turn to

-- A turn of the build leads from one position to the other, and the turn's line is appended to a text.
pub record IsReportedTurn (plan : Plan) (from : Position) (build : ℕ) (to : Position) (old new : List ℕ) : Type 0 where
  pub turn : Turn
  pub of_build : turn.build ≡ build
  pub is_turn : IsTurn plan from turn to
  pub appended : new ≡ old ++ turn_text turn

-- A run of all turns of the plan leads from one host to the other, and the lines of the turns are appended to a text.
-- Each answer is one that the host may give.
pub record IsReportedRun (plan : Plan) (from to : HostView) (old new : List ℕ) : Type 0 where
  pub turns : List Turn
  pub end : Position
  pub is_run : AreTurns plan plan.order (start from) turns end
  pub host : end.host ≡ to
  pub appended : new ≡ old ++ flat_map turn_text turns

-- A run of the plan's first turns, however many, leads from one host to the other.
pub record IsRunBegun (plan : Plan) (from to : HostView) : Type 0 where
  pub done : ℕ
  pub turns : List Turn
  pub end : Position
  pub is_run : AreTurns plan (take done plan.order) (start from) turns end
  pub host : end.host ≡ to
