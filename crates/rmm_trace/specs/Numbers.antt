-- The 64-bit number that a text of digits spells; leading zeros are not allowed.
use Rattle.std.specs.Prelude.{ℕ, ◌+◌, ◌-◌, ◌*◌, ◌^◌, ◌==◌, nat_le, nat_lt, Bool, true, false, not, ◌&&◌, if◌then◌else◌, List, [], ◌∷◌, Option, Some, None}

-- the value of a digit, `0` to `9` or `a` to `f`; 16 for any other byte
abbrev pub digit_of : ℕ → ℕ
digit_of b =
    if nat_le 48 b && nat_le b 57 then b - 48
    else (if nat_le 97 b && nat_le b 102 then b - 97 + 10 else 16)

-- the number whose digits are those of `n` and then the given bytes; none if a byte is no digit of the base, or the
-- number exceeds 64 bits
abbrev pub value_after : ℕ → ℕ → List ℕ → Option ℕ
value_after base n [] = Some n
value_after base n (b ∷ bs) =
    if nat_lt (digit_of b) base && nat_lt (n * base + digit_of b) (2 ^ 64) then value_after base (n * base + digit_of b) bs else None

-- there is at least one digit, and a leading zero only if it is the only digit
abbrev pub is_plain : List ℕ → Bool
is_plain [] = false
is_plain (b ∷ []) = true
is_plain (b ∷ c ∷ bs) = not (b == 48)

abbrev pub plain_value : ℕ → List ℕ → Option ℕ
plain_value base digits = if is_plain digits then value_after base 0 digits else None
