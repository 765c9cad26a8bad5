-- The encoding of an RMI answer in the registers X0 to X4, and the registers after a call of an unknown function. RMM
-- 1.0, RMI command outputs; SMCCC 1.2.
use Rattle.std.specs.Prelude.{◌-◌, ◌^◌}
use Rattle.rmi_abi.specs.declared.registers.SmcResult.{SmcResult}
use Rattle.rmi_abi.specs.declared.registers.Registers.{Registers}
use Rattle.rmi_abi.specs.declared.word.Word.{Word}
use Rattle.rmi_abi.specs.declared.word.Word.TheVariants.{Success, ErrorInput, ErrorRtt}
use Rattle.rmi_abi.specs.Word.{number}

-- an answer with the given result word, and 0 in all outputs
abbrev pub only : Word → SmcResult
only word = record { word = word; x1 = 0; x2 = 0; x3 = 0; x4 = 0 }

-- the registers with an answer in X0 to X4
abbrev pub with_answer : Registers → SmcResult → Registers
with_answer r answer = record r { x0 = number answer.word; x1 = answer.x1; x2 = answer.x2; x3 = answer.x3; x4 = answer.x4 }

-- the registers after a call of an unknown function: X0 is -1, NOT_SUPPORTED
abbrev pub not_supported : Registers → Registers
not_supported r = record r { x0 = 2 ^ 64 - 1 }
