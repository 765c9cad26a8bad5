-- The reports on a plan's run, turn by turn: each turn's line, and the checks of a refused step up to the first failed
-- check.
use Rattle.std.specs.Prelude.{◌≡◌, ℕ, Bool, List, [], ◌∷◌, cond, map, string_bytes, Option, Some, None, option_map}
use Rattle.host_ledger.specs.View.{HostView}
use Rattle.host_commands.specs.declared.cmd.Step.{Step}
use Rattle.realm_plan.specs.Asked.{asked}
use Rattle.realm_plan.specs.Lines.{idle_line}
use Rattle.realm_plan.specs.declared.step.PlanStep.{PlanStep}
use Rattle.realm_plan.specs.Plan.{Plan}
use Rattle.plan_replay.specs.Place.{moved_on}
use Rattle.plan_replay.specs.Run.{Position, Turn, start, place_of, IsTurn, turn_text}
use Rattle.plan_replay.specs.Text.{turn_line}
use Rattle.plan_replay.specs.Turn.{IsStepTurn}
use Rattle.plan_replay.specs.declared.answer.TurnAnswer.{TurnAnswer}
use Rattle.plan_replay.specs.declared.answer.TurnAnswer.TheVariants.{Refused}
use Rattle.plan_replay.specs.declared.place.PlanCursor.{PlanCursor}
use Rattle.explain.specs.Steps.{step_checks}
use Rattle.explain.specs.declared.check.Check.{Check}
use Rattle.explain.specs.declared.explained.ExplainedTurn.{ExplainedTurn}
use Rattle.explain.specs.declared.explained.Explanation.{Explanation}

-- ---- what is reported of a turn

-- The report of a turn, with the line that a replay prints and the reason for a refusal. The reason is the step that
-- the build asked for, with its checks up to the first that fails.
pub record TurnReport : Type 0 where
  pub line : List ℕ
  pub reason : Option (Step × List Check)

abbrev pub report_of_reason : Explanation → Step × List Check
report_of_reason reason = (reason.step, reason.checks.items)

-- the report of an explained turn, without the error and the help message
abbrev pub report_of : ExplainedTurn → TurnReport
report_of turn = record { line = string_bytes turn.line; reason = option_map report_of_reason turn.reason }

-- ---- what there is to report

-- the checks up to and including the first that fails; all of them if none does
abbrev pub up_to_failing : List Check → List Check
up_to_failing [] = []
up_to_failing (check ∷ checks) = check ∷ cond check.fails [] (up_to_failing checks)

-- if the answer is a refusal, the step with the checks up to the first that fails; none otherwise
abbrev pub reason_for : TurnAnswer → Step → List Check → Option (Step × List Check)
reason_for (Refused refusal) step checks = Some (step, up_to_failing checks)
reason_for _ step checks = None

abbrev pub reason_of_step : HostView → ℕ → PlanCursor → PlanStep → TurnAnswer → Option (Step × List Check)
reason_of_step host build place step answer = reason_for answer (asked step) (step_checks host build place (asked step))

abbrev pub reason_of : Position → ℕ → Option (PlanStep × TurnAnswer) → Option (Step × List Check)
reason_of at build None = None
reason_of at build (Some done) = reason_of_step at.host build (place_of at.places build) done.0 done.1

-- a turn of a run, with the position before the turn
pub record Explained : Type 0 where
  pub at : Position
  pub turn : Turn

abbrev pub report_at : Explained → TurnReport
report_at e = record { line = turn_text e.turn; reason = reason_of e.at e.turn.build e.turn.told }

-- the report of a turn whose build has no step left
abbrev pub idle_report : ℕ → TurnReport
idle_report build = record { line = idle_line build; reason = None }

-- ---- turns and runs

-- A turn that takes the step leads to this new host and cursor, and has this report. The plan's `gives_up` decides
-- where the cursor is after a refusal.
pub record IsExplainedStep (gives_up : Bool) (host : HostView) (build : ℕ) (place : PlanCursor) (step : PlanStep) (new : HostView) (after : PlanCursor) (report : TurnReport) : Type 0 where
  pub answer : TurnAnswer
  pub left : PlanCursor
  pub is_turn : IsStepTurn host build place (asked step) answer new left
  pub moved : after ≡ moved_on gives_up answer left
  pub reported : report ≡ record { line = turn_line build step answer; reason = reason_of_step host build place step answer }

-- A turn of the build leads from the position `from` to `to`, and has this report.
pub record IsExplainedTurn (plan : Plan) (from : Position) (build : ℕ) (to : Position) (report : TurnReport) : Type 0 where
  pub turn : Turn
  pub of_build : turn.build ≡ build
  pub is_turn : IsTurn plan from turn to
  pub reported : report ≡ report_at (record { at = from; turn = turn })

-- The explained turns are turns of these builds, in sequence, and lead from the one position to the other.
abbrev pub AreExplained : Plan → List ℕ → Position → List Explained → Position → Type 0
AreExplained plan [] from [] to = to ≡ from
AreExplained plan (build ∷ order) from (e ∷ rest) to =
    (e.at ≡ from) × (e.turn.build ≡ build) × (between : Position) × IsTurn plan from e.turn between × AreExplained plan order between rest to
AreExplained plan _ from _ to = ⊥

-- Some run of the plan leads from one host to the other, with these reports of its turns.
pub record IsExplainedRun (plan : Plan) (from to : HostView) (reports : List TurnReport) : Type 0 where
  pub turns : List Explained
  pub end : Position
  pub is_run : AreExplained plan plan.order (start from) turns end
  pub host : end.host ≡ to
  pub reported : reports ≡ map report_at turns
