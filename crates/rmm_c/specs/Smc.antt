-- The registers that an SMC call returns, and the machine of the C handle after the call.
use Rattle.std.specs.Prelude.{Option, Some, None}
use Rattle.rmi_abi.specs.declared.registers.Registers.{Registers}
use Rattle.rmi_abi.specs.Answer.{not_supported}
use Rattle.rmm_model.specs.Call.{rmi}
use Rattle.rmm_model.specs.Machine.{Machine}
use Rattle.rmm_c.specs.declared.smc.SmcRegisters.{SmcRegisters}

-- the registers of the C struct, in the RMM's form
abbrev pub call_of : SmcRegisters → Registers
call_of r = record { x0 = r.x0; x1 = r.x1; x2 = r.x2; x3 = r.x3; x4 = r.x4; x5 = r.x5; x6 = r.x6 }

-- the RMM's registers, in the form of the C struct
abbrev pub smc_registers : Registers → SmcRegisters
smc_registers r = record { x0 = r.x0; x1 = r.x1; x2 = r.x2; x3 = r.x3; x4 = r.x4; x5 = r.x5; x6 = r.x6 }

-- The registers and the machine after an SMC call. A closed handle has no RMM: no function is supported.
abbrev pub on_smc : SmcRegisters → Option Machine → SmcRegisters × Option Machine
on_smc r (Some m) = (smc_registers (rmi (call_of r) m).0, Some (rmi (call_of r) m).1)
on_smc r None = (smc_registers (not_supported (call_of r)), None)
