-- Functions that append words, and names with or without a value, to an answer in a trace.
use Rattle.std.specs.Prelude.{ℕ, List, [], ◌∷◌, ◌++◌}
use Rattle.rmm_trace.specs.declared.word.Atom.{Atom}
use Rattle.rmm_trace.specs.declared.word.Atom.TheVariants.{Name}
use Rattle.rmm_trace.specs.declared.word.TraceWord.{TraceWord}
use Rattle.rmm_trace.specs.Answers.{plain, output_atom, with_comma}

-- the words `ws`, with what `f` appends to them
infixl 10 ◌▷◌
abbrev pub ◌▷◌ : List TraceWord → (List TraceWord → List TraceWord) → List TraceWord
ws ▷ f = f ws

abbrev pub put_word : Atom → List TraceWord → List TraceWord
put_word a ws = ws ++ plain a ∷ []

-- begins a further part of an answer: appends a comma and the part's first word
abbrev pub put_part : Atom → List TraceWord → List TraceWord
put_part a ws = with_comma ws ++ plain a ∷ []

-- appends a name alone, as a further part of an answer
abbrev pub put_flag : ℕ → List TraceWord → List TraceWord
put_flag name ws = put_part (Name name) ws

-- appends a name with a value, as a further part of an answer
unfoldable pub put_value : ℕ → Atom → List TraceWord → List TraceWord
put_value name a ws = ws ▷ put_part (Name name) ▷ put_word a

abbrev pub put_output : ℕ → ℕ → List TraceWord → List TraceWord
put_output name v ws = put_value name (output_atom name v) ws
