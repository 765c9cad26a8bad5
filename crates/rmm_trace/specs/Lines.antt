-- The split of a trace line into question, answer and comment, and the kind of the line.
use Rattle.std.specs.Prelude.{ℕ, ◌==◌, nat_eq, nat_lt, Bool, ◌&&◌, ◌||◌, if◌then◌else◌, List, [], ◌∷◌, codes, drop, length, Option, Some, None, option_and_then}
use Rattle.std.specs.List.{slice_split, starts_with}
use Rattle.arrayvec.specs.ArrayVec.{ArrayVec}
use Rattle.rmm_trace.specs.declared.word.TraceWord.{TraceWord}
use Rattle.rmm_trace.specs.declared.grammar.Group.{Group}
use Rattle.rmm_trace.specs.declared.grammar.Place.{Place}
use Rattle.rmm_trace.specs.declared.line.RmmTraceLine.{RmmTraceLine}
use Rattle.rmm_trace.specs.declared.line.LineKind.{LineKind}
use Rattle.rmm_trace.specs.declared.line.LineKind.TheVariants.{Remark, Question, Neither}
use Rattle.rmm_trace.specs.Cuts.{before_mark}
use Rattle.rmm_trace.specs.Sentences.{words_in}
use Rattle.rmm_trace.specs.Consistent.{is_consistent}
use Rattle.rmm_trace.specs.Grammar.{accepts}

-- the byte is a space or a carriage return
abbrev pub is_blank : ℕ → Bool
is_blank b = b == 32 || b == 13

-- the byte followed by the text; nothing if the byte is blank and the text is empty
abbrev pub before_trimmed : ℕ → List ℕ → List ℕ
before_trimmed b [] = if is_blank b then [] else b ∷ []
before_trimmed b (c ∷ bs) = b ∷ c ∷ bs

-- the text without blanks at its end
abbrev pub trimmed : List ℕ → List ℕ
trimmed [] = []
trimmed (b ∷ bs) = before_trimmed b (trimmed bs)

-- the text of a line before its comment, without blanks at its end
abbrev pub bare_text : List ℕ → List ℕ
bare_text line = trimmed (before_mark 35 line)

-- the text before the first ` = `; the whole text if there is no ` = `
abbrev pub before_answer : List ℕ → List ℕ
before_answer [] = []
before_answer (b ∷ bs) = if starts_with nat_eq (b ∷ bs) (codes " = ") then [] else b ∷ before_answer bs

-- the text after the first ` = `, if there is one
abbrev pub answer_in : List ℕ → Option (List ℕ)
answer_in [] = None
answer_in (b ∷ bs) = if starts_with nat_eq (b ∷ bs) (codes " = ") then Some (drop 3 (b ∷ bs)) else answer_in bs

-- the grammar accepts the words, and their numbers are consistent with each other
abbrev pub is_question : List Group → Place → List TraceWord → Bool
is_question groups start ws = accepts groups (Some start) ws && is_consistent ws

-- the words in an `ArrayVec`, if `is_question` holds of them
abbrev pub as_question : List Group → Place → List TraceWord → Option (ArrayVec TraceWord)
as_question groups start ws = if is_question groups start ws then Some (record { items = ws }) else None

abbrev pub question_in : List Group → Place → List ℕ → Option (ArrayVec TraceWord)
question_in groups start text = option_and_then (as_question groups start) (words_in 64 (slice_split (λ b. b == 32) text))

abbrev pub without_words : LineKind → RmmTraceLine
without_words kind = record { kind = kind; words = record { items = [] } }

abbrev pub question_of : ArrayVec TraceWord → RmmTraceLine
question_of words = record { kind = Question; words = words }

abbrev pub as_line : Option (ArrayVec TraceWord) → RmmTraceLine
as_line (Some words) = question_of words
as_line None = without_words Neither

abbrev pub line_of_question : List Group → Place → List ℕ → ℕ → RmmTraceLine
line_of_question groups start [] bytes = without_words Remark
line_of_question groups start (b ∷ bs) bytes =
    if nat_lt 65536 bytes then without_words Neither else as_line (question_in groups start (b ∷ bs))

abbrev pub line_in : List Group → Place → List ℕ → RmmTraceLine
line_in groups start line = line_of_question groups start (before_answer (bare_text line)) (length line)
