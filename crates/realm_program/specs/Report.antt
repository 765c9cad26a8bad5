-- The text of a worker's report: a line for each answer, in the form of the line that a run prints for a turn.
use Rattle.std.specs.Prelude.{ℕ, ◌==◌, Bool, true, false, not, ◌&&◌, if◌then◌else◌, List, [], ◌∷◌, ◌++◌, Option, Some, None, slice_get}
use Rattle.host_commands.specs.declared.cmd.Cmd.TheVariants.{Exit}
use Rattle.host_commands.specs.declared.cmd.Step.TheVariants.{Ask, Undo}
use Rattle.realm_plan.specs.declared.step.PlanStep.{PlanStep}
use Rattle.realm_plan.specs.declared.step.PlanStep.TheVariants.{Whole}
use Rattle.build_seats.specs.declared.report.Asked.{Asked}
use Rattle.build_seats.specs.declared.report.Asked.TheVariants as asked
use Rattle.build_seats.specs.declared.report.Answer.{Answer}
use Rattle.build_seats.specs.declared.report.Answer.TheVariants as answer
use Rattle.build_seats.specs.declared.report.ReportLine.{ReportLine}
use Rattle.plan_replay.specs.Text.{turn_line}
use Rattle.plan_replay.specs.Turn.{undoes_many}
use Rattle.plan_replay.specs.declared.answer.TurnAnswer.{TurnAnswer}
use Rattle.plan_replay.specs.declared.answer.TurnAnswer.TheVariants as tells

-- The step that a report's line shows: the plan's step at the index that the line has, if the plan has such a step. A
-- question after a refusal is written as the step that would ask it.
abbrev pub step_of_line : List PlanStep → Asked → Option PlanStep
step_of_line steps (asked.Step place) = slice_get steps place
step_of_line steps (asked.Exit number) = Some (Whole (Ask (Exit number)))
step_of_line steps asked.Undo = Some (Whole Undo)

-- two requests of a build are for the same step of its plan
abbrev pub is_same_step : Asked → Asked → Bool
is_same_step (asked.Step place) (asked.Step other) = place == other
is_same_step _ _ = false

-- A line is the last line of its step: the next line is not for the same step, or there is no next line.
abbrev pub ends_step : Asked → Option ReportLine → Bool
ends_step this None = true
ends_step this (Some next) = not (is_same_step this next.asked)

-- The answer that the text of a report line shows, given the worker's answer. `ends` is whether the line is the last
-- one of an abort or a `back`.
abbrev pub answer_of_line : Answer → Bool → TurnAnswer
answer_of_line (answer.Replied reply) ends = tells.Replied reply
answer_of_line (answer.Undone undone) ends = if ends then tells.Ended undone.kind else tells.Undone undone.kind
answer_of_line (answer.Marked length) ends = tells.Marked length
answer_of_line answer.Nothing ends = tells.Nothing
answer_of_line (answer.Refused refusal) ends = tells.Refused refusal

-- The text of a line, given its step and the next line. A line without a step has no text.
abbrev pub line_text : ℕ → Option PlanStep → ReportLine → Option ReportLine → List ℕ
line_text build None line next = []
line_text build (Some step) line next =
    turn_line build step (answer_of_line line.answer (undoes_many step && ends_step line.asked next))

-- the text of a build's report: the texts of its lines, one after another
abbrev pub report_text : ℕ → List PlanStep → List ReportLine → List ℕ
report_text build steps [] = []
report_text build steps (line ∷ more) =
    line_text build (step_of_line steps line.asked) line (slice_get more 0) ++ report_text build steps more
