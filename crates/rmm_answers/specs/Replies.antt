-- The model's reply to a question of a trace, and the comparison of a written answer with the reply.
use Rattle.std.specs.Prelude.{ℕ, ◌&&◌, Bool, true, false, if◌then◌else◌, List, [], ◌∷◌, Option, Some, None, ◌==◌}
use Rattle.std.specs.Str.{bytes_eq}
use Rattle.std.specs.List.{slice_split}
use Rattle.hex.specs.Hex.{encode_lower}
use Rattle.rmm_trace.specs.declared.compare.TheConstants.{UNSURE}
use Rattle.rmm_trace.specs.declared.word.Atom.TheVariants.{Name}
use Rattle.rmm_trace.specs.declared.word.TraceWord.{TraceWord}
use Rattle.rmm_trace.specs.declared.place.TheConstants.{SMC}
use Rattle.rmm_trace.specs.Access.{operand_at}
use Rattle.rmm_trace.specs.Compare.{is_same, rest_of}
use Rattle.rmm_trace.specs.Sentences.{sentence_text, words_in}
use Rattle.rmm_answers.specs.declared.place.TheConstants.{NO, COMMAND}
use Rattle.rmm_answers.specs.declared.reply.Digest.{Digest}
use Rattle.rmm_answers.specs.declared.reply.Digest.TheVariants.{Sha256, Sha512}
use Rattle.rmm_answers.specs.declared.reply.TraceReply.{TraceReply}
use Rattle.rmm_answers.specs.Outputs.{command_place}
use Rattle.rmm_answers.specs.Put.{◌▷◌, put_word}
use Rattle.rmm_answers.specs.Registers.{registers_agree}
use Rattle.rmm_answers.specs.Words.{first_place}

-- the answer that consists of these words and is not the refusal of a call
abbrev pub of_words : List TraceWord → TraceReply
of_words ws = record { words = record { items = ws }; rim = None; refused = None }

-- the empty answer, which a `platform` question gets if it opens a machine
abbrev pub no_answer : TraceReply
no_answer = of_words []

-- the answer `no command` to a line that is not a command
unfoldable pub no_command : TraceReply
no_command = of_words ([] ▷ put_word (Name NO) ▷ put_word (Name COMMAND))

-- a digest as text, with two lower-case hexadecimal digits for each byte
abbrev pub digest_text : Digest → List ℕ
digest_text (Sha256 bytes) = encode_lower bytes
digest_text (Sha512 bytes) = encode_lower bytes

abbrev pub text_by : Option Digest → List TraceWord → List ℕ
text_by (Some digest) ws = digest_text digest
text_by None ws = sentence_text ws

abbrev pub is_none_left : List TraceWord → Bool
is_none_left [] = true
is_none_left (w ∷ ws) = false

abbrev pub is_absent : Option Digest → Bool
is_absent None = true
is_absent (Some digest) = false

-- the reply has neither words nor a measurement, and is therefore empty
abbrev pub is_unanswered : TraceReply → Bool
is_unanswered reply = is_none_left reply.words.items && is_absent reply.rim

-- a reply as text: the digits of the reply's measurement if there is one, and otherwise the reply's words
abbrev pub reply_text : TraceReply → List ℕ
reply_text reply = text_by reply.rim reply.words.items

-- A written answer agrees with the model's answer to the same question of a trace. Answers to raw calls are compared by
-- registers.
abbrev pub is_same_answer : List TraceWord → List TraceWord → List TraceWord → Bool
is_same_answer question written ours =
    if first_place question == SMC then registers_agree (command_place (operand_at (rest_of question) 0 0)) written ours
    else is_same UNSURE question written ours

abbrev pub are_same : List TraceWord → Option (List TraceWord) → List TraceWord → Bool
are_same question (Some written) ours = is_same_answer question written ours
are_same question None ours = false

-- the text, read as words, agrees with the model's answer
abbrev pub are_words : List TraceWord → List ℕ → List TraceWord → Bool
are_words question written ours = are_same question (words_in 64 (slice_split (λ b. b == 32) written)) ours

abbrev pub is_written_by : List TraceWord → List ℕ → Option Digest → List TraceWord → Bool
is_written_by question written (Some digest) ours = bytes_eq written (digest_text digest)
is_written_by question written None ours = are_words question written ours

-- A written answer agrees with the reply: with the digits of its digest, or with its words.
unfoldable pub is_written : List TraceWord → List ℕ → TraceReply → Bool
is_written question written reply = is_written_by question written reply.rim reply.words.items
