-- The condition that exchanges and report lines are those of a worker that performs its build's steps.
use Rattle.std.specs.Prelude.{◌≡◌, ℕ, zero, suc, ◌+◌, ◌<◌, min, Bool, true, false, List, [], ◌∷◌, ◌++◌, length, map, replicate, Option, Some, None, Ok, Err, if◌then◌else◌}
use Rattle.host_ledger.specs.declared.mark.Mark.{Mark}
use Rattle.host_commands.specs.declared.cmd.Cmd.TheVariants as cmd
use Rattle.host_commands.specs.declared.cmd.Step.{Step}
use Rattle.host_commands.specs.declared.cmd.Step.TheVariants as step
use Rattle.host_commands.specs.declared.refusal.Refusal.{Refusal}
use Rattle.host_commands.specs.declared.refusal.Refusal.TheVariants.{NothingToUndo, RecRunning}
use Rattle.build_seats.specs.Asked.{is_refused, line, ArePut}
use Rattle.build_seats.specs.Exchange.{Exchange, CheckedBack}
use Rattle.build_seats.specs.Standing.{StandingView, first_standing, standing_after}
use Rattle.build_seats.specs.declared.report.Asked.{Asked}
use Rattle.build_seats.specs.declared.report.Asked.TheVariants as asked
use Rattle.build_seats.specs.declared.report.Answer.{Answer}
use Rattle.build_seats.specs.declared.report.Answer.TheVariants.{Nothing, Refused}
use Rattle.build_seats.specs.declared.report.ReportLine.{ReportLine}
use Rattle.build_seats.specs.declared.ask.Question.{Question}
use Rattle.build_seats.specs.declared.ask.Question.TheVariants as question
use Rattle.build_seats.specs.declared.ask.Ending.{Ending}
use Rattle.build_seats.specs.declared.ask.Ending.TheVariants as ending

-- ---- the report of one step

-- the outcome of a question with the given answer, either refused or done
abbrev pub ending_of : Answer → Ending
ending_of answer = if is_refused answer then ending.Refused else ending.Done

-- Nothing is asked of the teller, and the step's one report line has the given answer.
pub record IsAnswerReported (place : ℕ) (answer : Answer) (exchanges : List Exchange) (lines : List ReportLine) (end : Ending) : Type 0 where
  pub nothing_asked : exchanges ≡ []
  pub line_is : lines ≡ line (asked.Step place) answer ∷ []
  pub end_is : end ≡ ending_of answer

-- A step asks one question, and its report line has the answer; if the gate withholds the turn, nothing is asked or
-- reported.
abbrev pub IsQuestionAsked : ℕ → Question → List Exchange → List ReportLine → Ending → Type 0
IsQuestionAsked place question exchanges lines end = ArePut ((asked.Step place, question) ∷ []) exchanges lines end

-- A step asks for up to the given number of undos, with a report line for each. If the number is 0, the step's one line
-- says so.
abbrev pub AreUndone : ℕ → ℕ → List Exchange → List ReportLine → Ending → Type 0
AreUndone place zero exchanges lines end = IsAnswerReported place Nothing exchanges lines end
AreUndone place (suc more) exchanges lines end =
    ArePut (replicate (suc more) (asked.Step place, question.Undo)) exchanges lines end

-- An abort asks to undo all open operations, but if a REC runs, it asks nothing and is refused.
abbrev pub IsAbort : ℕ → List ℕ → ℕ → List Exchange → List ReportLine → Ending → Type 0
IsAbort place [] journal exchanges lines end = AreUndone place journal exchanges lines end
IsAbort place (number ∷ numbers) journal exchanges lines end = IsAnswerReported place (Refused RecRunning) exchanges lines end

-- A `back` step asks whether the build can go back to its mark, and then asks for the undos that lead there. The undos
-- are as many as the answer says, but no more than the build has open operations.
pub data IsWayBack (place : ℕ) (mark : Mark) (journal : ℕ) : List Exchange → List ReportLine → Ending → Type 0 where
  cut_short : IsWayBack place mark journal [] [] ending.Cut
  refused : (refusal : Refusal)
      → IsWayBack place mark journal (CheckedBack mark (Err refusal) ∷ []) (line (asked.Step place) (Refused refusal) ∷ []) ending.Refused
  opened : (count : ℕ) {exchanges : List Exchange} {lines : List ReportLine} {end : Ending}
      → AreUndone place (min count journal) exchanges lines end
      → IsWayBack place mark journal (CheckedBack mark (Ok count) ∷ exchanges) lines end

-- A `back` step goes back to the build's mark; without a mark, it asks nothing and is refused.
abbrev pub IsStepBack : ℕ → Option Mark → ℕ → List Exchange → List ReportLine → Ending → Type 0
IsStepBack place None journal exchanges lines end = IsAnswerReported place (Refused NothingToUndo) exchanges lines end
IsStepBack place (Some mark) journal exchanges lines end = IsWayBack place mark journal exchanges lines end

-- A step with the given index has these exchanges, these report lines and this outcome.
abbrev pub IsStepReported : ℕ → StandingView → Step → List Exchange → List ReportLine → Ending → Type 0
IsStepReported place standing (step.Ask cmd) exchanges lines end = IsQuestionAsked place (question.Do cmd) exchanges lines end
IsStepReported place standing step.Undo exchanges lines end = IsQuestionAsked place question.Undo exchanges lines end
IsStepReported place standing step.Abort exchanges lines end = IsAbort place standing.running standing.journal exchanges lines end
IsStepReported place standing step.Mark exchanges lines end = IsQuestionAsked place question.Mark exchanges lines end
IsStepReported place standing step.Back exchanges lines end = IsStepBack place standing.mark standing.journal exchanges lines end

-- ---- the report of all steps

-- the question that asks for a REC's exit after a refusal, with the `Asked` of its report line
abbrev pub exit_of : ℕ → Asked × Question
exit_of number = (asked.Exit number, question.Do (cmd.Exit number))

-- The questions that a worker asks after a refusal: for the exit of each running REC, and then for the undo of each
-- open operation. The lowest REC number comes first.
abbrev pub clearing : StandingView → List (Asked × Question)
clearing standing = map exit_of standing.running ++ replicate standing.journal (asked.Undo, question.Undo)

-- the asking of questions ended because all were accepted or one was refused, and not for lack of a turn
abbrev pub is_over : Ending → Bool
is_over ending.Done = true
is_over ending.Refused = true
is_over ending.Cut = false

-- The exchanges and lines are a worker's report on the steps from an index on, given the build's state before these
-- steps. The steps are taken in sequence, and after the first refusal the build is cleared.
pub data IsWorkerReport : ℕ → StandingView → List Step → List Exchange → List ReportLine → Bool → Type 0 where
  no_step_left : {place : ℕ} {standing : StandingView} → IsWorkerReport place standing [] [] [] true
  accepted : {place : ℕ} {standing : StandingView} {step : Step} {steps : List Step} {exchanges : List Exchange} {lines : List ReportLine} {ended : Bool}
      (first more : List Exchange) (its its_more : List ReportLine)
      → IsStepReported place standing step first its ending.Done
      → IsWorkerReport (place + 1) (standing_after first standing) steps more its_more ended
      → exchanges ≡ first ++ more
      → lines ≡ its ++ its_more
      → IsWorkerReport place standing (step ∷ steps) exchanges lines ended
  refused : {place : ℕ} {standing : StandingView} {step : Step} {steps : List Step} {exchanges : List Exchange} {lines : List ReportLine} {end : Ending}
      (first more : List Exchange) (its its_more : List ReportLine)
      → IsStepReported place standing step first its ending.Refused
      → ArePut (clearing (standing_after first standing)) more its_more end
      → exchanges ≡ first ++ more
      → lines ≡ its ++ its_more
      → IsWorkerReport place standing (step ∷ steps) exchanges lines (is_over end)
  cut_short : {place : ℕ} {standing : StandingView} {step : Step} {steps : List Step} {exchanges : List Exchange} {lines : List ReportLine}
      → IsStepReported place standing step exchanges lines ending.Cut
      → IsWorkerReport place standing (step ∷ steps) exchanges lines false

-- A worker's run has ended, or has stopped at a turn that the gate withholds. The teller was asked just these
-- questions, the gate gave a turn for each, and the report has the answers.
pub record IsWork (before after : List Exchange → Type 0) (passes stops : ℕ → Type 0) (steps : List Step) (lines : List ReportLine) (ended : Bool) : Type 0 where
  pub exchanges : List Exchange
  pub told : (earlier : List Exchange) → before earlier → after (earlier ++ exchanges)
  pub passed : (turn : ℕ) → turn < length exchanges → passes turn
  pub stopped : ended ≡ false → stops (length exchanges)
  pub is_report : IsWorkerReport 0 first_standing steps exchanges lines ended
