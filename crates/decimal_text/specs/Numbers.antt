-- Decimal numbers in a text: their spelling with one space before each, and the numbers that a text spells.
use Rattle.std.specs.Prelude.{◌≡◌, ◌≢◌, ℕ, ◌<◌, ◌≤◌, ◌^◌, ◌==◌, nat_lt, ◌&&◌, if◌then◌else◌, List, [], ◌∷◌, length, slice_index, Option, Some, None, option_map, option_and_then}
use Rattle.std.specs.List.{flat_map, AllByRecursion}
use Rattle.std.specs.Fmt.{decimal}
use Rattle.std.specs.Str.{bytes_eq}
use Rattle.std.specs.Str.Parse.{digits_value}

-- the text does not begin with `+`, and begins with 0 only if it is `0`
abbrev pub IsPlain : List ℕ → Type 0
IsPlain bytes = (slice_index bytes 0 ≢ 43) × (slice_index bytes 0 ≡ 48 → length bytes ≡ 1)

-- the text of a list of numbers, each in decimal after one space
abbrev pub spelled_numbers : List ℕ → List ℕ
spelled_numbers ns = flat_map (λ n. 32 ∷ decimal n) ns

-- the list has at most a given number of items, each below 2^32
abbrev pub AreNumbers : ℕ → List ℕ → Type 0
AreNumbers most ns = (length ns ≤ most) × AllByRecursion (λ n. n < 2 ^ 32) ns

-- the part of a text before its first space, or the whole text if it has none
abbrev pub before_space : List ℕ → List ℕ
before_space [] = []
before_space (b ∷ bs) = if b == 32 then [] else b ∷ before_space bs

-- the rest of a text, from its first space on; empty if the text has no space
abbrev pub from_space : List ℕ → List ℕ
from_space [] = []
from_space (b ∷ bs) = if b == 32 then b ∷ bs else from_space bs

-- the number below 2^32 that the field spells in decimal, if there is one
abbrev pub number_of_digits : List ℕ → Option ℕ
number_of_digits field =
    let n = digits_value 10 field in
    if nat_lt n (2 ^ 32) && bytes_eq (decimal n) field then Some n else None

abbrev pub numbers_of_digits : List (List ℕ) → Option (List ℕ)
numbers_of_digits [] = Some []
numbers_of_digits (field ∷ fields) = option_and_then (λ n. option_map (λ ns. n ∷ ns) (numbers_of_digits fields)) (number_of_digits field)
