-- The words that make up an answer in a trace: the status and index in X0, output values, and commas between parts.
use Rattle.std.specs.Prelude.{ℕ, ◌+◌, ◌/◌, ◌%◌, ◌==◌, nat_le, nat_lt, Bool, true, false, not, ◌&&◌, ◌||◌, if◌then◌else◌, List, [], ◌∷◌, Option, Some, None}
use Rattle.rmm_trace.specs.declared.place.TheConstants.{AFTER, COUNT, EMPTY, EXIT, LEVEL, RIPAS_OUTPUT, RMI_SUCCESS, RUNNING, STATE, SYNC, UNASSIGNED}
use Rattle.rmm_trace.specs.declared.word.Atom.{Atom}
use Rattle.rmm_trace.specs.declared.word.Atom.TheVariants.{Name, Decimal, Hexadecimal}
use Rattle.rmm_trace.specs.declared.word.TraceWord.{TraceWord}

abbrev pub plain : Atom → TraceWord
plain a = record { value = a; mask = None; step = None; is_listed = false }

-- X0 has no RMI status: its bits 7:0 are not a status, or a bit above the index in bits 15:8 is set. RMM 1.0,
-- RmiCommandReturnCode
abbrev pub has_no_status : ℕ → Bool
has_no_status x0 = nat_le 0x10000 x0 || nat_lt 4 (x0 % 256)

abbrev pub status_of : ℕ → Atom
status_of x0 =
    if x0 == 0xFFFFFFFFFFFFFFFE then Name RUNNING
    else (if has_no_status x0 then Hexadecimal x0 else Name (RMI_SUCCESS + x0 % 256))

-- the index in X0, if the answer shows it: the index is not 0, or the status is RMI_ERROR_RTT
abbrev pub index_of : ℕ → Option Atom
index_of x0 =
    if has_no_status x0 then None
    else (if (x0 / 256 == 0) && not (x0 % 256 == 4) then None else Some (Decimal (x0 / 256)))

abbrev pub output_atom : ℕ → ℕ → Atom
output_atom name value =
    if name == LEVEL || name == COUNT || name == AFTER then Decimal value
    else (if name == STATE && nat_lt value 3 then Name (UNASSIGNED + value)
    else (if name == RIPAS_OUTPUT && nat_lt value 3 then Name (EMPTY + value)
    else (if name == EXIT && nat_lt value 7 then Name (SYNC + value) else Hexadecimal value)))

-- the words with a comma after the last one, so that a further part can follow
abbrev pub with_comma : List TraceWord → List TraceWord
with_comma [] = []
with_comma (w ∷ []) = record w { is_listed = true } ∷ []
with_comma (w ∷ v ∷ ws) = w ∷ with_comma (v ∷ ws)

abbrev pub listed : Bool → List TraceWord → List TraceWord
listed is_part ws = if is_part then with_comma ws else ws
