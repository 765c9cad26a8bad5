-- A command's operation and its outcome, and the values that are allocated for the command.
use Rattle.std.specs.Prelude.{◌≡◌, ℕ, List, ◌∷◌, map, Option, Err, unwrap_or, slice_index}
use Rattle.std.specs.List.{filter_map}
use Rattle.realm_model.specs.declared.act.Act.{Act}
use Rattle.realm_model.specs.declared.rmi.Rmi.{Rmi}
use Rattle.realm_model.specs.Command.Granule.{host_peek}
use Rattle.realm_model.specs.Machine.{seen, cell_at}
use Rattle.realm_model.specs.Update.{Outcome}
use Rattle.realm_model.specs.World.{realm_of}
use Rattle.realm_model.specs.Step.{used_vmids}
use Rattle.realm_model.specs.Running.{next_number}
use Rattle.host_commands.specs.declared.cmd.Cmd.{Cmd}
use Rattle.host_commands.specs.declared.cmd.Cmd.TheVariants.{Peek}
use Rattle.host_commands.specs.declared.reply.Allocated.{Allocated}
use Rattle.host_commands.specs.Needs.{operands}
use Rattle.host_commands.specs.Acts.{act_of}
use Rattle.host_commands.specs.Laws.{outcome_of_act}
use Rattle.host_ledger.specs.View.{HostView, world_of, granule_of_page}
use Rattle.host_ledger.specs.Vmids.{lowest_vmid}

-- the granules of the pages that a command names, in sequence
abbrev pub granules_named : HostView → ℕ → Cmd → List ℕ
granules_named host build cmd = filter_map (λ page. granule_of_page host build page) (operands cmd)

-- the byte that a Peek reads; 0 for any other command
abbrev pub byte_read : HostView → Cmd → List ℕ → ℕ
byte_read host (Peek page offset) (granule ∷ others) = slice_index (cell_at (world_of host).machine granule).bytes offset
byte_read host _ _ = 0

-- The values that are allocated for a command: the lowest free VMID, the next REC number of the realm, and the byte
-- that a Peek reads. A value that does not exist is replaced by a number that does not matter.
abbrev pub allocated_for : HostView → ℕ → Cmd → List ℕ → Allocated
allocated_for host build cmd granules = record {
  vmid = unwrap_or (lowest_vmid host) 1;
  number = next_number (realm_of build (world_of host));
  byte = byte_read host cmd granules;
}

-- the operation, if any, that a command other than a Take asks for, with page numbers turned into the build's granules
abbrev pub act_asked : HostView → ℕ → Cmd → Option Act
act_asked host build cmd =
    act_of cmd (granules_named host build cmd) (allocated_for host build cmd (granules_named host build cmd))

-- what the model does for a build's command in the host's world: its updates, or its refusal; the command is not a Take
abbrev pub outcome_asked : HostView → ℕ → Cmd → Outcome
outcome_asked host build cmd =
    outcome_of_act host.limits (used_vmids (world_of host).machine) (act_asked host build cmd) (realm_of build (world_of host))
    (map (seen (world_of host).machine) (granules_named host build cmd))

-- the command is a Peek, and the RMM refuses to read its byte with the given error
abbrev pub IsPeekRefused : HostView → Cmd → List ℕ → Rmi → Type 0
IsPeekRefused host (Peek page offset) (granule ∷ others) rmi = host_peek (seen (world_of host).machine granule) ≡ Err rmi
IsPeekRefused host _ _ rmi = ⊥
