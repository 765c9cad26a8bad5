-- The verdict on a line of a trace: the same answer, an allowed refusal, a wrong answer, or not compared.
use Rattle.std.specs.Prelude.{ℕ, ◌==◌, nat_le, Bool, true, false, not, ◌&&◌, ◌||◌, if◌then◌else◌, List, [], ◌∷◌, codes, Option, Some, None, unwrap_or}
use Rattle.std.specs.List.{list_any}
use Rattle.std.specs.Str.{bytes_eq}
use Rattle.command_line.specs.declared.rmitrace.Comparison.{Comparison}
use Rattle.command_line.specs.declared.rmitrace.NameSet.{NameSet}
use Rattle.command_line.specs.Rmitrace.{is_name_in}
use Rattle.rmm_model.specs.Machine.{Machine}
use Rattle.rmm_trace.specs.declared.line.RmmTraceLine.{RmmTraceLine}
use Rattle.rmm_trace.specs.declared.line.LineKind.{LineKind}
use Rattle.rmm_trace.specs.declared.line.LineKind.TheVariants.{Remark, Question, Neither}
use Rattle.rmm_trace.specs.declared.place.TheConstants.{FIRST_CHECK, REPEAT}
use Rattle.rmm_trace.specs.declared.word.Atom.{Atom}
use Rattle.rmm_trace.specs.declared.word.Atom.TheVariants.{Name}
use Rattle.rmm_trace.specs.declared.word.TraceWord.{TraceWord}
use Rattle.rmm_answers.specs.declared.judging.Verdict.{Verdict}
use Rattle.rmm_answers.specs.declared.judging.Verdict.TheVariants as answer
use Rattle.rmm_answers.specs.declared.place.TheConstants.{NO, COMMAND}
use Rattle.rmm_answers.specs.declared.reply.TraceReply.{TraceReply}
use Rattle.rmm_answers.specs.Judging.{judged}
use Rattle.trace_program.specs.declared.counts.LineVerdict.{LineVerdict}
use Rattle.trace_program.specs.declared.counts.LineVerdict.TheVariants.{NotCompared, Same, Allowed, Wrong}
use Rattle.trace_program.specs.LineText.{name_place, raw_call, read}

-- ---- lines that are no command

-- a word's value is the name with the given index in the table of names
abbrev pub is_name_place : Atom → ℕ → Bool
is_name_place (Name place) name = place == name
is_name_place _ name = false

abbrev pub is_name : TraceWord → ℕ → Bool
is_name w name = is_name_place w.value name

abbrev pub are_no_command : List TraceWord → Bool
are_no_command [] = false
are_no_command (w ∷ []) = false
are_no_command (w ∷ v ∷ []) = is_name w NO && is_name v COMMAND
are_no_command (w ∷ v ∷ u ∷ ws) = false

-- the answer is `no command`, as for a line that is not a command
unfoldable pub is_no_command : TraceReply → Bool
is_no_command reply = are_no_command reply.words.items

-- ---- names of lines

-- the atom is the name of a check, and the set has this name
abbrev pub is_check_in : NameSet → Atom → Bool
is_check_in set (Name place) = nat_le FIRST_CHECK place && is_name_in set place
is_check_in set _ = false

abbrev pub has_check : NameSet → List TraceWord → Bool
has_check set words = list_any (λ w. is_check_in set w.value) words

abbrev pub has_check_written : NameSet → Option (List TraceWord) → Bool
has_check_written set (Some words) = has_check set words
has_check_written set None = false

-- the call or the fill inside a `repeat`, or the given words if they are no `repeat`
abbrev pub repeated : List TraceWord → List TraceWord
repeated [] = []
repeated (w ∷ []) = w ∷ []
repeated (w ∷ times ∷ ws) = if is_name w REPEAT then ws else w ∷ times ∷ ws

abbrev pub call_place : Option (List TraceWord) → List TraceWord → ℕ
call_place (Some call) question = name_place call
call_place None question = name_place (repeated question)

-- the index, in the table of names, of a line's first word, of the command or `fill` inside a `repeat`, or of the
-- command that an `smc` call makes
unfoldable pub command_place : List TraceWord → ℕ
command_place question = call_place (raw_call question) question

-- The set has the first word of a trace line, the line's command (or `fill` in a `repeat`), or a check that one of the
-- line's answers names.
unfoldable pub is_named : NameSet → List TraceWord → List ℕ → TraceReply → Bool
is_named set question written reply =
    is_name_in set (name_place question) || is_name_in set (command_place question) || has_check set reply.words.items || has_check_written set (read written)

-- ---- lines that are compared

-- the line has one of the names that are asked for, or no names are asked for
abbrev pub is_asked_for : Option NameSet → List TraceWord → List ℕ → TraceReply → Bool
is_asked_for None question written reply = true
is_asked_for (Some only) question written reply = is_named only question written reply

abbrev pub is_left_out : Option NameSet → List TraceWord → List ℕ → TraceReply → Bool
is_left_out None question written reply = false
is_left_out (Some skip) question written reply = is_named skip question written reply

-- A line is compared if it passes `is_asked_for`, and has none of the names that are left out.
unfoldable pub is_compared : Comparison → List TraceWord → List ℕ → TraceReply → Bool
is_compared asked question written reply =
    is_asked_for asked.only question written reply && not (is_left_out asked.skip question written reply)

-- ---- verdicts

-- the verdict on a line, given the verdict on its answer
abbrev pub as_line_verdict : Verdict → LineVerdict
as_line_verdict answer.Same = Same
as_line_verdict answer.Allowed = Allowed
as_line_verdict answer.Wrong = Wrong

abbrev pub answer_verdict : Comparison → Option Machine → List TraceWord → List ℕ → TraceReply → LineVerdict
answer_verdict asked m question written reply =
    if is_compared asked question written reply then as_line_verdict (judged m question written reply) else NotCompared

-- the verdict on a line that is not a command: `Same` if the written answer is `no command`, and otherwise `Wrong`
abbrev pub no_command_verdict : Option (List ℕ) → LineVerdict
no_command_verdict (Some written) = if bytes_eq written (codes "no command") then Same else Wrong
no_command_verdict None = Wrong

-- the verdict on the written answer of a `Question` line; a line of another kind, or without a written answer, is not
-- compared
abbrev pub question_verdict : Comparison → Option Machine → LineKind → List TraceWord → Option (List ℕ) → TraceReply → LineVerdict
question_verdict asked m Question q (Some written) reply = answer_verdict asked m q written reply
question_verdict asked m kind q written reply = NotCompared

abbrev pub verdict_by : Bool → Comparison → Option Machine → RmmTraceLine → Option (List ℕ) → TraceReply → LineVerdict
verdict_by true asked m line written reply = no_command_verdict written
verdict_by false asked m line written reply = question_verdict asked m line.kind line.words.items written reply

abbrev pub kind_verdict : LineKind → LineVerdict → LineVerdict
kind_verdict Remark verdict = NotCompared
kind_verdict _ verdict = verdict

-- The verdict on a line's written answer, given the model's answer and the machine after the line.
unfoldable pub line_verdict : Comparison → Option Machine → Option (List ℕ) → RmmTraceLine → TraceReply → LineVerdict
line_verdict asked m written line reply = kind_verdict line.kind (verdict_by (is_no_command reply) asked m line written reply)
