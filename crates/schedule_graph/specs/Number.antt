-- The number that a list of decimal digits represents, and the decimal digits of a number.
use Rattle.std.specs.Prelude.{ℕ, zero, suc, ◌+◌, ◌*◌, ◌/◌, ◌%◌, ◌==◌, if◌then◌else◌, List, [], ◌∷◌, map, reverse}

-- the number that a list of digits represents, the lowest digit first
unfoldable pub number_of : List ℕ → ℕ
number_of [] = 0
number_of (digit ∷ digits) = digit + 10 * number_of digits

-- a list of decimal digits, the lowest first, without the zeros at its end
abbrev pub trimmed : List ℕ → List ℕ
trimmed [] = []
trimmed (digit ∷ digits) = if number_of (digit ∷ digits) == 0 then [] else digit ∷ trimmed digits

-- the decimal digits of a number, the lowest first, up to a given count of digits
abbrev pub digits_of : ℕ → ℕ → List ℕ
digits_of zero n = []
digits_of (suc most) n = if n == 0 then [] else n % 10 ∷ digits_of most (n / 10)

-- a number of any size in decimal, as `{}` writes it
unfoldable pub numeral : ℕ → List ℕ
numeral n = if n == 0 then 48 ∷ [] else map (λ digit. 48 + digit) (reverse (digits_of n n))
