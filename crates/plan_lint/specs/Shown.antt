-- Definitions of the line of text that shows arbitrary bytes, and of an excerpt with carets. The line has no ASCII
-- control characters and no invalid UTF-8.
use Rattle.std.specs.Prelude.{◌≡◌, ℕ, ◌==◌, ◌||◌, nat_lt, max, List, [], ◌∷◌, ◌++◌, map, replicate, if◌then◌else◌}
use Rattle.std.specs.Str.Lossy.{utf8_lossy}

-- a space for an ASCII control character, and any other byte as it is
abbrev pub shown_byte : ℕ → ℕ
shown_byte byte = if nat_lt byte 32 || byte == 127 then 32 else byte

-- the bytes as text, with a space for each ASCII control character, and with U+FFFD for invalid UTF-8
abbrev pub plain_text : List ℕ → List ℕ
plain_text bytes = utf8_lossy (map shown_byte bytes)

abbrev pub plain_line : List ℕ → List ℕ
plain_line bytes = plain_text bytes ++ 10 ∷ []

-- ---- an excerpt

-- a line of `before` spaces followed by `count` carets
abbrev pub caret_line : ℕ → ℕ → List ℕ
caret_line before count = replicate before 32 ++ (replicate count 94 ++ 10 ∷ [])

-- The text is a line of some bytes, and below it a caret for each marked character, or one caret if none is marked. No
-- definition says which bytes these are, or which characters are marked.
pub record IsExcerpt (text : List ℕ) : Type 0 where
  pub front : List ℕ
  pub back : List ℕ
  pub before : ℕ
  pub marked : ℕ
  pub whole : text ≡ plain_text front ++ (plain_text back ++ 10 ∷ caret_line before (max marked 1))
