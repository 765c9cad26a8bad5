-- The text printed for a trace line: the line with the model's answer, or with names in place of a raw SMC call's
-- numbers.
use Rattle.std.specs.Prelude.{ℕ, ◌==◌, if◌then◌else◌, List, [], ◌∷◌, ◌++◌, codes, drop, length, Option, Some, None, option_and_then}
use Rattle.std.specs.List.{slice_split}
use Rattle.rmm_trace.specs.declared.line.RmmTraceLine.{RmmTraceLine}
use Rattle.rmm_trace.specs.declared.line.LineKind.{LineKind}
use Rattle.rmm_trace.specs.declared.line.LineKind.TheVariants.{Remark, Question, Neither}
use Rattle.rmm_trace.specs.declared.table.TheConstants.{GROUPS, START}
use Rattle.rmm_trace.specs.declared.place.TheConstants.{DASH, SMC}
use Rattle.rmm_trace.specs.declared.word.TraceWord.{TraceWord}
use Rattle.rmm_trace.specs.Compare.{place_of}
use Rattle.rmm_trace.specs.Lines.{bare_text, before_answer, answer_in, line_in}
use Rattle.rmm_trace.specs.Sentences.{sentence_text, words_in}
use Rattle.rmm_answers.specs.declared.reply.TraceReply.{TraceReply}
use Rattle.rmm_answers.specs.Replies.{reply_text, is_unanswered}
use Rattle.rmm_answers.specs.Naming.{named_question, named_answer}

abbrev pub trace_line_of : List ℕ → RmmTraceLine
trace_line_of bytes = line_in GROUPS START bytes

abbrev pub question_in_line : List ℕ → List ℕ
question_in_line bytes = before_answer (bare_text bytes)

-- the written answer of a line, if it has one
abbrev pub written_in : List ℕ → Option (List ℕ)
written_in bytes = answer_in (bare_text bytes)

-- the words of a text, if it can be read as words
abbrev pub read : List ℕ → Option (List TraceWord)
read text = words_in 64 (slice_split (λ b. b == 32) text)

-- the bytes of a line after its question and its answer: a comment, and the blanks before it
unfoldable pub tail_of : List ℕ → List ℕ
tail_of bytes = drop (length (bare_text bytes)) bytes

-- ---- answers

-- an answer after an equals sign, or nothing if there is no answer
abbrev pub sign_and_answer : TraceReply → List ℕ
sign_and_answer reply = if is_unanswered reply then [] else codes " = " ++ reply_text reply

abbrev pub answered_text_by : LineKind → List ℕ → TraceReply → List ℕ
answered_text_by Remark bytes reply = bytes ++ 10 ∷ []
answered_text_by _ bytes reply = question_in_line bytes ++ sign_and_answer reply ++ (tail_of bytes ++ 10 ∷ [])

-- The text of a line with the model's answer in place of any written one. A remark is as it was.
unfoldable pub answered_text : List ℕ → RmmTraceLine → TraceReply → List ℕ
answered_text bytes line reply = answered_text_by line.kind bytes reply

-- ---- names

-- the index of the name that is the first word of a trace line, or `DASH` if there is no such name
abbrev pub name_place : List TraceWord → ℕ
name_place [] = DASH
name_place (w ∷ ws) = place_of w.value

-- the given words rewritten with the command's name, if they are an `smc` call of a command
abbrev pub raw_call : List TraceWord → Option (List TraceWord)
raw_call question = if name_place question == SMC then named_question question else None

abbrev pub question_named_by : LineKind → List TraceWord → Option (List TraceWord)
question_named_by Question q = raw_call q
question_named_by _ q = None

-- the words of a trace line rewritten with the command's name, if the line is an `smc` call of a command
abbrev pub question_named : RmmTraceLine → Option (List TraceWord)
question_named line = question_named_by line.kind line.words.items

abbrev pub answer_named_by : LineKind → List TraceWord → List ℕ → Option (List TraceWord)
answer_named_by Question q written = option_and_then (named_answer q) (read written)
answer_named_by _ q written = None

-- the written answer to an `smc` call, rewritten with the names of the outputs, if this is possible
abbrev pub answer_named : RmmTraceLine → List ℕ → Option (List TraceWord)
answer_named line written = answer_named_by line.kind line.words.items written

-- the text of the answer rewritten with names if it could be rewritten, and otherwise the written answer
abbrev pub named_or_written : Option (List TraceWord) → List ℕ → List ℕ
named_or_written (Some answer) written = sentence_text answer
named_or_written None written = written

abbrev pub sign_and_named : RmmTraceLine → Option (List ℕ) → List ℕ
sign_and_named line (Some written) = codes " = " ++ named_or_written (answer_named line written) written
sign_and_named line None = []

abbrev pub named_by : List ℕ → RmmTraceLine → Option (List TraceWord) → List ℕ
named_by bytes line (Some question) = sentence_text question ++ sign_and_named line (written_in bytes) ++ (tail_of bytes ++ 10 ∷ [])
named_by bytes line None = bytes ++ 10 ∷ []

-- The text of a trace line, with an `smc` call rewritten with the names of its command and outputs. A line that cannot
-- be rewritten so is as it was.
unfoldable pub named_text : List ℕ → RmmTraceLine → List ℕ
named_text bytes line = named_by bytes line (question_named line)
