-- The bytes that the program keeps of an input, and a bound on the number of read calls.
use Rattle.std.specs.Prelude.{ℕ, ◌+◌, ◌≤◌, List, length, take, Option, IfSome}

-- The first 1,048,577 bytes of an input, or all bytes of a shorter one. A plan has at most 1,048,576 bytes.
unfoldable pub kept_of : List ℕ → List ℕ
kept_of bytes = take 1048577 bytes

-- there is at most one read for each byte of a known input, and one for its end
abbrev pub ReadsOnce : Option (List ℕ) → (old new : ℕ) → Type 0
ReadsOnce input old new = IfSome input (λ bytes. new ≤ old + (length bytes + 1))
