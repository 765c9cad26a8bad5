-- Definitions of texts that consist of a name and decimal numbers, and of the value that such a text means.
use Rattle.std.specs.Prelude.{ℕ, ◌==◌, List, [], ◌∷◌, ◌++◌, Option, None, option_and_then}
use Rattle.std.specs.List.{slice_split}
use Rattle.decimal_text.specs.Numbers.{spelled_numbers, numbers_of_digits}

-- a word and its numbers as text: the word, and then each number in decimal after one space
abbrev pub spelled : List ℕ → List ℕ → List ℕ
spelled word numbers = word ++ spelled_numbers numbers

-- the value, if any, that `meaning` gives to a text's fields: the first field is a word, and the others are its numbers
abbrev pub meaning_of_fields : {A : Type 0} → (List ℕ → List ℕ → Option A) → List (List ℕ) → Option A
meaning_of_fields meaning [] = None
meaning_of_fields meaning (word ∷ fields) = option_and_then (meaning word) (numbers_of_digits fields)

abbrev pub meaning_of_text : {A : Type 0} → (List ℕ → List ℕ → Option A) → List ℕ → Option A
meaning_of_text meaning text = meaning_of_fields meaning (slice_split (λ b. b == 32) text)
