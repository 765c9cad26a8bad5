-- The text of a trace word, and the trace word that is read from a text.
use Rattle.std.specs.Prelude.{ℕ, ◌<◌, ◌^◌, nat_eq, Bool, true, false, if◌then◌else◌, List, [], ◌∷◌, ◌++◌, codes, drop, length, Option, Some, None, IfSome, option_map, option_and_then}
use Rattle.std.specs.Option.{option_or}
use Rattle.std.specs.List.{starts_with, position_from}
use Rattle.std.specs.Str.{bytes_eq}
use Rattle.std.specs.Fmt.{decimal, digits}
use Rattle.rmm_trace.specs.declared.word.Atom.{Atom}
use Rattle.rmm_trace.specs.declared.word.Atom.TheVariants.{Name, Decimal, Hexadecimal}
use Rattle.rmm_trace.specs.declared.word.TraceWord.{TraceWord}
use Rattle.rmm_trace.specs.Cuts.{before_mark, after_mark}
use Rattle.rmm_trace.specs.Names.{names, nth_text}
use Rattle.rmm_trace.specs.Numbers.{plain_value}

-- ---- words as they are written

-- the text of a name or a number; a hexadecimal number begins with `0x`
abbrev pub atom_text : Atom → List ℕ
atom_text (Name place) = nth_text place names
atom_text (Decimal n) = decimal n
atom_text (Hexadecimal n) = codes "0x" ++ digits 16 false n

abbrev pub tail_text : List ℕ → Option Atom → List ℕ
tail_text mark None = []
tail_text mark (Some a) = mark ++ atom_text a

abbrev pub comma_text : Bool → List ℕ
comma_text is_listed = if is_listed then codes "," else []

-- the text of a word: its value and, if it has them, its mask after `/`, its step after `+`, and its comma
abbrev pub word_text : TraceWord → List ℕ
word_text w = atom_text w.value ++ tail_text (codes "/") w.mask ++ tail_text (codes "+") w.step ++ comma_text w.is_listed

-- ---- words as they are read

-- the decimal or hexadecimal number that a text spells, if any
abbrev pub number_in : List ℕ → Option Atom
number_in bs =
    if starts_with nat_eq bs (codes "0x") then option_map (λ n. Hexadecimal n) (plain_value 16 (drop 2 bs))
    else option_map (λ n. Decimal n) (plain_value 10 bs)

abbrev pub atom_in : List ℕ → Option Atom
atom_in bs = option_or (number_in bs) (option_map (λ place. Name place) (position_from (bytes_eq bs) 0 names))

abbrev pub tail_in : Option (List ℕ) → Option (Option Atom)
tail_in None = Some None
tail_in (Some bs) = option_map (λ a. Some a) (atom_in bs)

abbrev pub comma_in : Option (List ℕ) → Option Bool
comma_in None = Some false
comma_in (Some []) = Some true
comma_in (Some (b ∷ bs)) = None

-- the word that a text spells, if any; the text is cut at its comma, its `+` and its `/`
abbrev pub word_in : List ℕ → Option TraceWord
word_in bs =
    let front = before_mark 44 bs in
    let value = before_mark 43 front in
    option_and_then (λ a. option_and_then (λ mask. option_and_then (λ step. option_map (λ is_listed.
    record { value = a; mask = mask; step = step; is_listed = is_listed })
    (comma_in (after_mark 44 bs))) (tail_in (after_mark 43 front))) (tail_in (after_mark 47 value))) (atom_in (before_mark 47 value))

-- ---- words that can be written

-- the name is in the table of names, or the number fits in 64 bits
abbrev pub IsAtom : Atom → Type 0
IsAtom (Name place) = place < length names
IsAtom (Decimal n) = n < 2 ^ 64
IsAtom (Hexadecimal n) = n < 2 ^ 64

pub record IsWord (w : TraceWord) : Type 0 where
  pub value : IsAtom w.value
  pub mask : IfSome w.mask IsAtom
  pub step : IfSome w.step IsAtom
