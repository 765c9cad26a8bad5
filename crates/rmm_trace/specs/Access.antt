-- The values that are read from a trace line before its ` = `: operands by index, words after a name, and the registers
-- of a call.
use Rattle.std.specs.Prelude.{ℕ, zero, suc, ◌+◌, ◌*◌, ◌%◌, ◌^◌, ◌==◌, nat_lt, Bool, false, if◌then◌else◌, List, [], ◌∷◌, slice_index, Option, Some, None}
use Rattle.std.specs.Option.{unwrap_or}
use Rattle.rmm_trace.specs.declared.access.TheConstants.{FUNCTIONS}
use Rattle.rmm_trace.specs.declared.place.TheConstants.{PLATFORM, SMC}
use Rattle.rmm_trace.specs.declared.word.Atom.{Atom}
use Rattle.rmm_trace.specs.declared.word.Atom.TheVariants.{Name}
use Rattle.rmm_trace.specs.declared.word.TraceWord.{TraceWord}
use Rattle.rmm_trace.specs.Compare.{atom_number}

abbrev pub number_or_zero : Option Atom → ℕ
number_or_zero None = 0
number_or_zero (Some a) = unwrap_or (atom_number a) 0

-- the value of a word in a round of a `repeat`; each round adds the word's step, the number after `+`
abbrev pub number_at : TraceWord → ℕ → ℕ
number_at w round = (number_or_zero (Some w.value) + number_or_zero w.step * round % 2 ^ 64) % 2 ^ 64

-- the value of the operand at an index, in a round of a `repeat`; 0 if there is no such operand
abbrev pub operand_at : List TraceWord → ℕ → ℕ → ℕ
operand_at [] place round = 0
operand_at (w ∷ ws) zero round = number_at w round
operand_at (w ∷ ws) (suc place) round = operand_at ws place round

abbrev pub is_name : ℕ → Atom → Bool
is_name name (Name place) = place == name
is_name name _ = false

-- the words after the first occurrence of this name; none if it does not occur
abbrev pub after_name : ℕ → List TraceWord → List TraceWord
after_name name [] = []
after_name name (w ∷ ws) = if is_name name w.value then ws else after_name name ws

-- the values of the `count` operands from index `place` on, in a round of a `repeat`
abbrev pub operands : ℕ → ℕ → List TraceWord → ℕ → List ℕ
operands zero place ws round = []
operands (suc count) place ws round = operand_at ws place round ∷ operands count (place + 1) ws round

-- the registers X0 to X6 of a call, given the index of its name: a command's function identifier and operands, or the
-- operands of `smc`; none for any other name
abbrev pub registers_by : ℕ → List TraceWord → ℕ → Option (List ℕ)
registers_by place ws round =
    if nat_lt place PLATFORM then Some (slice_index FUNCTIONS place ∷ operands 6 0 ws round)
    else (if place == SMC then Some (operands 7 0 ws round) else None)

abbrev pub registers_from : Atom → List TraceWord → ℕ → Option (List ℕ)
registers_from (Name place) ws round = registers_by place ws round
registers_from _ ws round = None

abbrev pub call_registers : List TraceWord → ℕ → Option (List ℕ)
call_registers [] round = None
call_registers (w ∷ ws) round = registers_from w.value ws round
