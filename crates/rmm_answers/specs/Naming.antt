-- The raw `smc` calls of a trace and their answers, rewritten with the names of commands and outputs.
use Rattle.std.specs.Prelude.{ℕ, zero, suc, ◌==◌, nat_lt, if◌then◌else◌, List, [], ◌∷◌, slice_index, slice_index_or, Option, Some, None}
use Rattle.rmm_trace.specs.declared.place.TheConstants.{PLATFORM, PSCI_DENIED, PSCI_SUCCESS}
use Rattle.rmm_trace.specs.declared.word.Atom.{Atom}
use Rattle.rmm_trace.specs.declared.word.Atom.TheVariants.{Name, Decimal, Hexadecimal}
use Rattle.rmm_trace.specs.declared.word.TraceWord.{TraceWord}
use Rattle.rmm_trace.specs.Access.{operand_at}
use Rattle.rmm_trace.specs.Compare.{atom_number, rest_of}
use Rattle.rmm_answers.specs.declared.naming.OperandForm.{OperandForm}
use Rattle.rmm_answers.specs.declared.naming.OperandForm.TheVariants.{Absent, Decimal as InDecimal, Hexadecimal as InHexadecimal, Psci}
use Rattle.rmm_answers.specs.declared.naming.TheConstants.{OPERANDS, NO_OPERANDS}
use Rattle.rmm_answers.specs.Outputs.{command_place, outputs_of, put_returned, put_status}
use Rattle.rmm_answers.specs.Put.{◌▷◌, put_word}

-- ---- calls

-- a PSCI status as a word of a trace, by name if it is SUCCESS or DENIED, and otherwise by number
abbrev pub psci_atom : ℕ → Atom
psci_atom v = if v == 0 then Name PSCI_SUCCESS else (if v == 0xFFFFFFFFFFFFFFFD then Name PSCI_DENIED else Hexadecimal v)

-- appends an operand in the given notation, and nothing if the notation is `Absent`
unfoldable pub put_operand : OperandForm → ℕ → List TraceWord → List TraceWord
put_operand Absent v ws = ws
put_operand InDecimal v ws = put_word (Decimal v) ws
put_operand InHexadecimal v ws = put_word (Hexadecimal v) ws
put_operand Psci v ws = put_word (psci_atom v) ws

-- the call of a command by name, with the operands that a raw `smc` call gives in X1 to X5
unfoldable pub named_call : ℕ → List TraceWord → List TraceWord
named_call place ws =
    let forms = slice_index_or OPERANDS place NO_OPERANDS in
    [] ▷ put_word (Name place) ▷ put_operand (slice_index_or forms 0 Absent) (operand_at ws 1 0) ▷ put_operand (slice_index_or forms 1 Absent) (operand_at ws 2 0)
    ▷ put_operand (slice_index_or forms 2 Absent) (operand_at ws 3 0) ▷ put_operand (slice_index_or forms 3 Absent) (operand_at ws 4 0)
    ▷ put_operand (slice_index_or forms 4 Absent) (operand_at ws 5 0)

-- A raw `smc` call rewritten as a call by name; none if no command has its function identifier.
unfoldable pub named_question : List TraceWord → Option (List TraceWord)
named_question question =
    let ws = rest_of question in
    let place = command_place (operand_at ws 0 0) in
    if nat_lt place PLATFORM then Some (named_call place ws) else None

-- ---- answers

-- the number that the answer to a raw `smc` call gives for register `k`; none if the register is omitted or `-`
abbrev pub written_number : List TraceWord → ℕ → Option ℕ
written_number [] k = None
written_number (w ∷ ws) zero = atom_number w.value
written_number (w ∷ ws) (suc k) = written_number ws k

unfoldable pub put_written : ℕ → ℕ → ℕ → Option ℕ → List TraceWord → List TraceWord
put_written place x0 name (Some v) ws = put_returned place x0 name v ws
put_written place x0 name None ws = ws

-- a command's answer with names, from X0 and the registers that answer a raw `smc` call: the status and the returned
-- outputs
unfoldable pub answer_by : ℕ → ℕ → List TraceWord → List TraceWord
answer_by place x0 written =
    let names = outputs_of place in
    [] ▷ put_status x0 ▷ put_written place x0 (slice_index names 0) (written_number written 1)
    ▷ put_written place x0 (slice_index names 1) (written_number written 2) ▷ put_written place x0 (slice_index names 2) (written_number written 3)
    ▷ put_written place x0 (slice_index names 3) (written_number written 4)

abbrev pub answer_of : ℕ → Option ℕ → List TraceWord → Option (List TraceWord)
answer_of place (Some x0) written = Some (answer_by place x0 written)
answer_of place None written = None

-- The answer to a raw `smc` call, rewritten with the names of its status and outputs; none if the answer gives no
-- number for X0.
unfoldable pub named_answer : List TraceWord → List TraceWord → Option (List TraceWord)
named_answer question written = answer_of (command_place (operand_at (rest_of question) 0 0)) (written_number written 0) written
