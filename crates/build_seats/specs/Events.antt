-- The condition that a worker's report records as accepted exactly the worker's accepted commands and undos, in
-- sequence.
use Rattle.std.specs.Prelude.{◌≡◌, Bool, true, false, List, filter, Option, Some, slice_get, option_map}
use Rattle.std.specs.List.{AllZip}
use Rattle.host_commands.specs.declared.cmd.Cmd.TheVariants as cmd
use Rattle.host_commands.specs.declared.cmd.Step.{Step}
use Rattle.host_commands.specs.declared.cmd.Step.TheVariants as step
use Rattle.build_seats.specs.Asked.{told, question_of}
use Rattle.build_seats.specs.Exchange.{Exchange, is_event}
use Rattle.build_seats.specs.Report.{IsWorkerReport}
use Rattle.build_seats.specs.Standing.{StandingView}
use Rattle.build_seats.specs.declared.report.Asked.{Asked}
use Rattle.build_seats.specs.declared.report.Asked.TheVariants as asked
use Rattle.build_seats.specs.declared.report.Answer.{Answer}
use Rattle.build_seats.specs.declared.report.Answer.TheVariants.{Replied, Undone, Marked, Nothing, Refused}
use Rattle.build_seats.specs.declared.report.ReportLine.{ReportLine}
use Rattle.build_seats.specs.declared.ask.Question.{Question}
use Rattle.build_seats.specs.declared.ask.Question.TheVariants as question

-- The answer says that a command was accepted, or that an operation was undone. Setting a mark is not an event, and
-- neither is an undo of nothing.
abbrev pub is_done : Answer → Bool
is_done (Replied reply) = true
is_done (Undone undone) = true
is_done (Marked length) = false
is_done Nothing = false
is_done (Refused refusal) = false

abbrev pub is_accepted : ReportLine → Bool
is_accepted line = is_done line.answer

-- The question to which a report line of a step has the answer. For an abort or a `back` step, the question is a
-- request for an undo.
abbrev pub question_of_step : Step → Question
question_of_step (step.Ask cmd) = question.Do cmd
question_of_step step.Undo = question.Undo
question_of_step step.Abort = question.Undo
question_of_step step.Mark = question.Mark
question_of_step step.Back = question.Undo

-- The question that a line of a worker's report answers, given the build's steps; none if the line has a step number
-- that the build lacks.
abbrev pub question_at : List Step → Asked → Option Question
question_at steps (asked.Step place) = option_map question_of_step (slice_get steps place)
question_at steps (asked.Exit number) = Some (question.Do (cmd.Exit number))
question_at steps asked.Undo = Some question.Undo

-- The report line and the exchange have the same question and the same answer.
pub record IsLineOf (steps : List Step) (line : ReportLine) (exchange : Exchange) : Type 0 where
  pub asks : question_of exchange ≡ question_at steps line.asked
  pub tells : line.answer ≡ told exchange

-- If the lines are a worker's report on the exchanges, the report records as accepted exactly the events among the
-- exchanges, in sequence. Each accepted line has the question and the answer of its event.
abbrev pub AcceptedMatchEvents : StandingView → List Step → List Exchange → List ReportLine → Bool → Type 0
AcceptedMatchEvents standing steps exchanges lines ended =
    IsWorkerReport 0 standing steps exchanges lines ended → AllZip (IsLineOf steps) (filter is_accepted lines) (filter is_event exchanges)
