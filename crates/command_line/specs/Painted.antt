-- The coloured form of a text for a terminal, with escape sequences around its pieces.
use Rattle.std.specs.Prelude.{◌≡◌, ℕ, List, [], ◌∷◌, ◌++◌, codes, Option, Some, None}
use Rattle.command_line.specs.declared.paint.Colour.{Colour}
use Rattle.command_line.specs.declared.paint.Colour.TheVariants.{Error, Red, Green, Yellow, Cyan}

-- the terminal escape sequence that has these parameters between ESC [ and m
abbrev pub escape : List ℕ → List ℕ
escape number = 27 ∷ 91 ∷ number ++ codes "m"

abbrev pub code_of : Colour → List ℕ
code_of Error = escape (codes "1;31")
code_of Red = escape (codes "31")
code_of Green = escape (codes "32")
code_of Yellow = escape (codes "33")
code_of Cyan = escape (codes "36")

abbrev pub reset : List ℕ
reset = escape (codes "0")

-- a piece of a text, with its colour if it has one
abbrev pub Piece : Type 0
Piece = Option Colour × List ℕ

abbrev pub shown_by : Option Colour → List ℕ → List ℕ
shown_by None bytes = bytes
shown_by (Some colour) bytes = code_of colour ++ bytes ++ reset

-- the text that the pieces form, without their colours
abbrev pub bytes_of_pieces : List Piece → List ℕ
bytes_of_pieces [] = []
bytes_of_pieces (piece ∷ more) = piece.1 ++ bytes_of_pieces more

-- the text that the pieces form, each piece in its colour if it has one
abbrev pub painted_pieces : List Piece → List ℕ
painted_pieces [] = []
painted_pieces (piece ∷ more) = shown_by piece.0 piece.1 ++ painted_pieces more

-- `text` is appended to `old` in pieces, each bare or in a colour, and the result is `new`
pub record AddsPainted (old text new : List ℕ) : Type 0 where
  pub pieces : List Piece
  pub whole : bytes_of_pieces pieces ≡ text
  pub added : new ≡ old ++ painted_pieces pieces

-- the output is the text with nothing added but colours
abbrev pub IsPainted : List ℕ → List ℕ → Type 0
IsPainted text out = AddsPainted [] text out
