-- The questions that a worker asks in sequence, and the report lines with their answers.
use Rattle.std.specs.Prelude.{◌≡◌, Bool, true, false, List, [], ◌∷◌, Option, Some, None, Result, Ok, Err}
use Rattle.host_commands.specs.declared.refusal.Refusal.{Refusal}
use Rattle.build_seats.specs.Exchange.{Exchange, Did, Undid, KeptMark, CheckedBack}
use Rattle.build_seats.specs.declared.report.Asked.{Asked}
use Rattle.build_seats.specs.declared.report.Answer.{Answer}
use Rattle.build_seats.specs.declared.report.Answer.TheVariants.{Replied, Undone, Marked, Nothing, Refused}
use Rattle.build_seats.specs.declared.report.ReportLine.{ReportLine}
use Rattle.build_seats.specs.declared.ask.Question.{Question}
use Rattle.build_seats.specs.declared.ask.Question.TheVariants as question
use Rattle.build_seats.specs.declared.ask.Ending.{Ending}
use Rattle.build_seats.specs.declared.ask.Ending.TheVariants as ending

-- The teller's answer in an exchange, in the form that a report line has. An accepted request for the number of
-- operations since a mark has the answer Nothing, which is reported only if a `back` step has nothing to undo.
abbrev pub told : Exchange → Answer
told (Did cmd (Ok reply)) = Replied reply
told (Did cmd (Err refusal)) = Refused refusal
told (Undid (Ok undone)) = Undone undone
told (Undid (Err refusal)) = Refused refusal
told (KeptMark (Ok mark)) = Marked mark.length
told (KeptMark (Err refusal)) = Refused refusal
told (CheckedBack mark (Ok count)) = Nothing
told (CheckedBack mark (Err refusal)) = Refused refusal

-- the answer that a result holds, or the result's refusal as an answer
abbrev pub answer_of : Result Answer Refusal → Answer
answer_of (Ok answer) = answer
answer_of (Err refusal) = Refused refusal

abbrev pub is_refused : Answer → Bool
is_refused (Replied reply) = false
is_refused (Undone undone) = false
is_refused (Marked length) = false
is_refused Nothing = false
is_refused (Refused refusal) = true

-- The question of an exchange in which a worker asks for a command, an undo or a mark; None for any other exchange. A
-- request for the number of operations since a mark is not a `Question`.
abbrev pub question_of : Exchange → Option Question
question_of (Did cmd result) = Some (question.Do cmd)
question_of (Undid result) = Some question.Undo
question_of (KeptMark result) = Some question.Mark
question_of (CheckedBack mark result) = None

abbrev pub line : Asked → Answer → ReportLine
line asked answer = record { asked = asked; answer = answer }

-- Questions are asked in sequence, with a report line for each, up to the first that is refused, or until the gate
-- withholds a turn.
pub data ArePut : List (Asked × Question) → List Exchange → List ReportLine → Ending → Type 0 where
  all_put : ArePut [] [] [] ending.Done
  cut_short : {question : Asked × Question} {questions : List (Asked × Question)}
      → ArePut (question ∷ questions) [] [] ending.Cut
  refused : {question : Asked × Question} {questions : List (Asked × Question)} {exchange : Exchange}
      → question_of exchange ≡ Some question.1
      → is_refused (told exchange) ≡ true
      → ArePut (question ∷ questions) (exchange ∷ []) (line question.0 (told exchange) ∷ []) ending.Refused
  accepted : {question : Asked × Question} {questions : List (Asked × Question)} {exchange : Exchange} {exchanges : List Exchange} {lines : List ReportLine} {end : Ending}
      → question_of exchange ≡ Some question.1
      → is_refused (told exchange) ≡ false
      → ArePut questions exchanges lines end
      → ArePut (question ∷ questions) (exchange ∷ exchanges) (line question.0 (told exchange) ∷ lines) end
