-- The outputs that each RMI command returns with each status, and the words that show them in a trace's answer.
-- RMM 1.0, RMI commands: outputs.
use Rattle.std.specs.Prelude.{ℕ, ◌%◌, ◌==◌, Bool, false, ◌&&◌, ◌||◌, if◌then◌else◌, List, slice_index, slice_index_or, Option, Some, None, unwrap_or}
use Rattle.std.specs.List.{position_from}
use Rattle.rmi_abi.specs.declared.registers.Registers.{Registers}
use Rattle.rmm_trace.specs.declared.access.TheConstants.{FUNCTIONS}
use Rattle.rmm_trace.specs.declared.place.TheConstants.{PLATFORM, RMI_DATA_DESTROY, RMI_RTT_DESTROY, RMI_RTT_UNMAP_UNPROTECTED, RMI_VERSION}
use Rattle.rmm_trace.specs.declared.word.Atom.{Atom}
use Rattle.rmm_trace.specs.declared.word.Atom.TheVariants.{Hexadecimal}
use Rattle.rmm_trace.specs.declared.word.TraceWord.{TraceWord}
use Rattle.rmm_trace.specs.Answers.{status_of, index_of}
use Rattle.rmm_answers.specs.declared.outputs.TheConstants.{OUTPUTS, NO_OUTPUT, NO_OUTPUTS}
use Rattle.rmm_answers.specs.declared.place.TheConstants.{TOP}
use Rattle.rmm_answers.specs.Put.{◌▷◌, put_word, put_output}

-- the names of the outputs X1 to X4 of the command at this index in the table of names; no names if no command is there
unfoldable pub outputs_of : ℕ → List ℕ
outputs_of place = slice_index_or OUTPUTS place NO_OUTPUTS

-- the index, in the table of names, of the command with this function identifier; for any other number, the index after
-- the last command
unfoldable pub command_place : ℕ → ℕ
command_place function = unwrap_or (position_from (λ f. f == function) 0 FUNCTIONS) PLATFORM

-- the command returns the output `top` together with RMI_ERROR_RTT
abbrev pub has_top : ℕ → Bool
has_top place = place == RMI_RTT_DESTROY || place == RMI_DATA_DESTROY || place == RMI_RTT_UNMAP_UNPROTECTED

-- The command returns the output if X0 has this value. All outputs come with RMI_SUCCESS. Those of RMI_VERSION come
-- with any X0, and the `top` of three commands comes with RMI_ERROR_RTT too.
unfoldable pub is_returned : ℕ → ℕ → ℕ → Bool
is_returned place x0 name =
    if name == NO_OUTPUT then false
    else (x0 == 0 || place == RMI_VERSION || (x0 % 256 == 4 && name == TOP && has_top place))

unfoldable pub put_returned : ℕ → ℕ → ℕ → ℕ → List TraceWord → List TraceWord
put_returned place x0 name v ws = if is_returned place x0 name then put_output name v ws else ws

abbrev pub put_index : Option Atom → List TraceWord → List TraceWord
put_index (Some a) ws = put_word a ws
put_index None ws = ws

-- appends X0 as `status_of` shows it, and then the index in X0 if `index_of` gives one
unfoldable pub put_status : ℕ → List TraceWord → List TraceWord
put_status x0 ws = ws ▷ put_word (status_of x0) ▷ put_index (index_of x0)

-- appends the outputs that a command returns, each with its name
unfoldable pub put_outputs : ℕ → Registers → List TraceWord → List TraceWord
put_outputs place after ws =
    let names = outputs_of place in
    ws ▷ put_returned place after.x0 (slice_index names 0) after.x1 ▷ put_returned place after.x0 (slice_index names 1) after.x2
    ▷ put_returned place after.x0 (slice_index names 2) after.x3 ▷ put_returned place after.x0 (slice_index names 3) after.x4

unfoldable pub put_register : ℕ → ℕ → List TraceWord → List TraceWord
put_register name v ws = if name == NO_OUTPUT then ws else put_word (Hexadecimal v) ws

-- appends X0, and the registers in which a command has an output
unfoldable pub put_registers : ℕ → Registers → List TraceWord → List TraceWord
put_registers place after ws =
    let names = outputs_of place in
    ws ▷ put_word (Hexadecimal after.x0) ▷ put_register (slice_index names 0) after.x1 ▷ put_register (slice_index names 1) after.x2
    ▷ put_register (slice_index names 2) after.x3 ▷ put_register (slice_index names 3) after.x4
