-- Definitions of a word with its numbers and their maxima, and of the greatest 8-bit, 16-bit and 32-bit numbers.
use Rattle.std.specs.Prelude.{ℕ, List}

-- a word and its numbers, with the maximum of each number
pub record Written : Type 0 where
  pub word : List ℕ
  pub numbers : List ℕ
  pub maxima : List ℕ

abbrev pub written : List ℕ → List ℕ → List ℕ → Written
written word numbers maxima = record { word = word; numbers = numbers; maxima = maxima }

-- the greatest 8-bit number
abbrev pub u8 : ℕ
u8 = 255

-- the greatest 16-bit number
abbrev pub u16 : ℕ
u16 = 65535

-- the greatest 32-bit number
abbrev pub u32 : ℕ
u32 = 4294967295
