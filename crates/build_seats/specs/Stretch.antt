-- Stretches of a worker's run, each with the exchanges and the report lines of successive questions.
use Rattle.std.specs.Prelude.{◌≡◌, ℕ, ◌<◌, ◌≤◌, List, [], ◌∷◌, ◌++◌, Some}
use Rattle.build_seats.specs.Asked.{told, question_of}
use Rattle.build_seats.specs.Exchange.{Exchange}
use Rattle.build_seats.specs.Standing.{StandingView, after_exchange, standing_after}
use Rattle.build_seats.specs.declared.report.Answer.{Answer}
use Rattle.build_seats.specs.declared.report.ReportLine.{ReportLine}
use Rattle.build_seats.specs.declared.ask.Question.{Question}
use Rattle.build_seats.specs.declared.ask.Ending.{Ending}
use Rattle.build_seats.specs.declared.ask.Ending.TheVariants as ending

-- A question was asked and counted as a turn, and `answer` was its answer.
pub record IsExchange (before after : List Exchange → Type 0) (question : Question) (old new : StandingView) (answer : Answer) : Type 0 where
  pub exchange : Exchange
  pub of_question : question_of exchange ≡ Some question
  pub told_after : (earlier : List Exchange) → before earlier → after (earlier ++ exchange ∷ [])
  pub counted : new ≡ after_exchange exchange old
  pub answer_is : answer ≡ told exchange

-- The exchanges took place, the gate gave a turn for each, and the lines were added to the report. `AreThose` holds of
-- the exchanges and the lines.
pub record IsStretch (before after : List Exchange → Type 0) (passes stops : ℕ → Type 0) (old new : StandingView) (old_lines new_lines : List ReportLine)
    (end : Ending) (AreThose : List Exchange → List ReportLine → Type 0) : Type 0 where
  pub exchanges : List Exchange
  pub lines : List ReportLine
  pub told : (earlier : List Exchange) → before earlier → after (earlier ++ exchanges)
  pub passed : (turn : ℕ) → old.turn ≤ turn → turn < new.turn → passes turn
  pub stopped : end ≡ ending.Cut → stops new.turn
  pub counted : new ≡ standing_after exchanges old
  pub added : new_lines ≡ old_lines ++ lines
  pub are_those : AreThose exchanges lines
