-- The values that an operation has beyond its granules and its command's operands: a VMID, a REC number, or a byte that
-- was read.
use Rattle.std.specs.Prelude.{ℕ}
use Rattle.host_commands.specs.declared.reply.Allocated.{Allocated}
use Rattle.realm_model.specs.declared.act.Act.{Act}
use Rattle.realm_model.specs.declared.act.Act.TheVariants.{Peek, Realm, Rec}

abbrev pub allocation : ℕ → ℕ → ℕ → Allocated
allocation vmid number byte = record { vmid = vmid; number = number; byte = byte }

-- the values that were allocated for an operation, with defaults for those that it does not hold
abbrev pub allocated_in : Act → Allocated
allocated_in (Realm rd root vmid) = allocation vmid 0 0
allocated_in (Rec granule auxiliaries number) = allocation 1 number 0
allocated_in (Peek granule offset byte) = allocation 1 0 byte
allocated_in _ = allocation 1 0 0
