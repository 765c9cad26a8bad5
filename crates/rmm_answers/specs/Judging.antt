-- The verdict on an answer written in a trace: it is the model's answer, an allowed refusal by another check, or wrong.
-- RMM 1.0, failure conditions of RMI commands, whose ordering is partial.
use Rattle.std.specs.Prelude.{ℕ, ◌+◌, ◌-◌, ◌*◌, ◌%◌, ◌==◌, nat_le, nat_lt, Bool, false, not, ◌&&◌, ◌||◌, if◌then◌else◌, List, [], ◌∷◌, Option, Some, None, option_and_then}
use Rattle.std.specs.List.{list_any, slice_split}
use Rattle.rmi_abi.specs.declared.word.Word.{Word}
use Rattle.rmi_abi.specs.Word.{number, word_of}
use Rattle.rmm_checks.specs.declared.evaluated.CheckOutcome.{CheckOutcome}
use Rattle.rmm_checks.specs.declared.evaluated.CheckOutcome.TheVariants.{Failed}
use Rattle.rmm_checks.specs.declared.evaluated.EvaluatedCheck.{EvaluatedCheck}
use Rattle.rmm_checks.specs.Evaluated as evaluated
use Rattle.rmm_model.specs.declared.answer.FailedCondition.{FailedCondition}
use Rattle.rmm_model.specs.Machine.{Machine}
use Rattle.rmm_trace.specs.declared.place.TheConstants.{DASH, RMI_SUCCESS}
use Rattle.rmm_trace.specs.declared.word.Atom.{Atom}
use Rattle.rmm_trace.specs.declared.word.Atom.TheVariants.{Name, Decimal, Hexadecimal}
use Rattle.rmm_trace.specs.declared.word.TraceWord.{TraceWord}
use Rattle.rmm_trace.specs.Sentences.{words_in}
use Rattle.rmm_answers.specs.declared.judging.Verdict.{Verdict}
use Rattle.rmm_answers.specs.declared.judging.Verdict.TheVariants.{Same, Allowed, Wrong}
use Rattle.rmm_answers.specs.declared.reply.TraceReply.{TraceReply}
use Rattle.rmm_answers.specs.Answering.{refused_checks}
use Rattle.rmm_answers.specs.Replies.{is_written}

-- ---- result words that the checks allow

-- there is a result word, and the checks allow it
abbrev pub allows : List EvaluatedCheck → Option Word → Bool
allows rows (Some w) = evaluated.is_allowed rows w
allows rows None = false

-- a failed check is given, and X0 is its result word
abbrev pub is_word_of : ℕ → Option FailedCondition → Bool
is_word_of x0 (Some failed) = number failed.answer.word == x0
is_word_of x0 None = false

abbrev pub is_ours : List EvaluatedCheck → ℕ → Bool
is_ours rows x0 = is_word_of x0 (evaluated.first_failed rows)

-- X0 is a result word that the checks allow, and is not the word of the first failed check
abbrev pub allows_number : List EvaluatedCheck → ℕ → Bool
allows_number rows x0 = allows rows (word_of x0) && not (is_ours rows x0)

-- the outcome is a failure whose result word has the given status, and is not the word of the first failed check
abbrev pub has_status : List EvaluatedCheck → ℕ → CheckOutcome → Bool
has_status rows status (Failed answer) = number answer.word % 256 == status && not (is_ours rows (number answer.word))
has_status rows status _ = false

abbrev pub allows_index : List EvaluatedCheck → ℕ → ℕ → Bool
allows_index rows status index = nat_lt index 256 && allows_number rows (status + 256 * index)

-- a refusal with the status, and with the index that the trace gives, is allowed; `-` means any index
abbrev pub allows_index_in : List EvaluatedCheck → ℕ → Atom → Bool
allows_index_in rows status (Name place) =
    if place == DASH then list_any (λ row. has_status rows status row.outcome) rows else allows_index rows status 0
allows_index_in rows status (Decimal index) = allows_index rows status index
allows_index_in rows status (Hexadecimal index) = allows_index rows status index

-- a refusal with the status, and with the index that the trace gives, is allowed; an omitted index is 0
abbrev pub allows_written : List EvaluatedCheck → ℕ → List TraceWord → Bool
allows_written rows status [] = allows_index rows status 0
allows_written rows status (w ∷ ws) = allows_index_in rows status w.value

abbrev pub allows_name : List EvaluatedCheck → ℕ → List TraceWord → Bool
allows_name rows place ws =
    if nat_le place RMI_SUCCESS || nat_le (RMI_SUCCESS + 5) place then false else allows_written rows (place - RMI_SUCCESS) ws

abbrev pub allows_first : List EvaluatedCheck → Atom → List TraceWord → Bool
allows_first rows (Name place) ws = allows_name rows place ws
allows_first rows (Decimal x0) ws = not (x0 == 0) && allows_number rows x0
allows_first rows (Hexadecimal x0) ws = not (x0 == 0) && allows_number rows x0

-- A written answer is a refusal with a result word that the checks allow and that is not the word of the first failed
-- check.
abbrev pub is_refusal_allowed : List TraceWord → List EvaluatedCheck → Bool
is_refusal_allowed [] rows = false
is_refusal_allowed (w ∷ ws) rows = allows_first rows w.value ws

-- ---- verdicts

-- a written answer could be read as words, and is an allowed refusal
abbrev pub are_words_allowed : Option (List TraceWord) → List EvaluatedCheck → Bool
are_words_allowed (Some ws) rows = is_refusal_allowed ws rows
are_words_allowed None rows = false

abbrev pub is_text_allowed : List ℕ → Option (List EvaluatedCheck) → Bool
is_text_allowed written (Some rows) = are_words_allowed (words_in 64 (slice_split (λ b. b == 32) written)) rows
is_text_allowed written None = false

-- The verdict on a written answer: it is the model's answer, an allowed refusal by another check of the refused call,
-- or wrong.
unfoldable pub judged : Option Machine → List TraceWord → List ℕ → TraceReply → Verdict
judged m question written reply =
    if is_written question written reply then Same
    else (if is_text_allowed written (option_and_then (refused_checks question reply) m) then Allowed else Wrong)
