-- The text of a list of trace words separated by single spaces, and the words that are read from such a text.
use Rattle.std.specs.Prelude.{ℕ, zero, suc, ◌<◌, ◌≤◌, Bool, true, false, List, [], ◌∷◌, ◌++◌, length, Option, Some, None, option_map, option_and_then}
use Rattle.std.specs.List.{flat_map, AllByRecursion}
use Rattle.rmm_trace.specs.declared.word.TraceWord.{TraceWord}
use Rattle.rmm_trace.specs.Words.{word_text, word_in, IsWord}

-- the text of words, with one space before each
abbrev pub spaced : List TraceWord → List ℕ
spaced ws = flat_map (λ w. 32 ∷ word_text w) ws

abbrev pub sentence_text : List TraceWord → List ℕ
sentence_text [] = []
sentence_text (w ∷ ws) = word_text w ++ spaced ws

-- the words that the texts spell, if each text spells one word and there are at most `most` texts
abbrev pub words_in : ℕ → List (List ℕ) → Option (List TraceWord)
words_in most [] = Some []
words_in zero (text ∷ texts) = None
words_in (suc most) (text ∷ texts) = option_and_then (λ w. option_map (λ ws. w ∷ ws) (words_in most texts)) (word_in text)

-- the words that were read, if reading succeeded
abbrev pub if_read : Bool → List TraceWord → Option (List TraceWord)
if_read true ws = Some ws
if_read false ws = None

-- the words are a sentence that can be written: at least 1 and at most 64 words, each of which can be written
pub record IsSentence (ws : List TraceWord) : Type 0 where
  pub some : 0 < length ws
  pub few : length ws ≤ 64
  pub words : AllByRecursion (λ w. IsWord w) ws
