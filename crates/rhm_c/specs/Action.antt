-- The C form of the operations that a host performs on an RMM.
use Rattle.std.specs.Prelude.{ℕ, List, [], ◌∷◌, length, map, replicate, Option, Some, None, slice_get, slice_index_or}
use Rattle.std.specs.List.{range_with_len}
use Rattle.rmi_abi.specs.Call.{registers_of}
use Rattle.rmi_abi.specs.declared.call.Call.{Call}
use Rattle.rmi_abi.specs.declared.call.Call.TheVariants.{RecEnter}
use Rattle.rmi_abi.specs.declared.registers.Registers.{Registers}
use Rattle.history_calls.specs.declared.action.HostAction.{HostAction}
use Rattle.history_calls.specs.declared.action.HostAction.TheVariants as host
use Rattle.rhm_c.specs.declared.action.RawAction.{RawAction}
use Rattle.rhm_c.specs.declared.action.RawActions.{RawActions}

-- an operation of the given kind, with the registers of a call and 0 in all other fields
abbrev pub with_registers : ℕ → Registers → RawAction
with_registers kind r = record {
  kind = kind;
  x0 = r.x0;
  x1 = r.x1;
  x2 = r.x2;
  x3 = r.x3;
  x4 = r.x4;
  x5 = r.x5;
  x6 = r.x6;
  address = 0;
  count = 0;
  value = 0;
  ipa = 0;
  vmid = 0;
  tables = 0;
  output = 0;
  has_output = 0;
  aux = replicate 16 0;
}

-- an operation of a kind on an address, with 0 in all other fields
abbrev pub plain_action : ℕ → ℕ → RawAction
plain_action kind address =
    record (with_registers kind (record { x0 = 0; x1 = 0; x2 = 0; x3 = 0; x4 = 0; x5 = 0; x6 = 0 })) { address = address }

-- the first 16 addresses of auxiliary granules, padded with zeros if there are fewer
abbrev pub padded : List ℕ → List ℕ
padded auxiliaries = map (λ place. slice_index_or auxiliaries place 0) (range_with_len 0 16)

-- the C form of an RMI call, with the output that is expected in X1, if the output is known
abbrev pub call_action : Call → Option ℕ → RawAction
call_action call (Some x1) = record (with_registers 5 (registers_of call)) { output = x1; has_output = 1 }
call_action call None = with_registers 5 (registers_of call)

abbrev pub rec_action : HostAction → RawAction
rec_action (host.Enter rec run) = record (with_registers 6 (registers_of (RecEnter rec run))) { address = rec }
rec_action (host.Interrupt rec) = plain_action 7 rec
rec_action (host.Write rec ipa value) = record (plain_action 8 rec) { ipa = ipa; value = value }
rec_action (host.Spin rec) = plain_action 9 rec
rec_action (host.Saw rec) = plain_action 10 rec
rec_action _ = plain_action 0 0

-- The C form of an operation that a host performs on an RMM.
abbrev pub raw_action : HostAction → RawAction
raw_action (host.Fill address granules value) = record (plain_action 1 address) { count = granules; value = value }
raw_action (host.Load address byte) = plain_action 2 address
raw_action (host.RealmParams page width vmid tables count) = record (plain_action 3 page) { count = count; value = width; vmid = vmid; tables = tables }
raw_action (host.RecParams page mpidr auxiliaries) =
    record (plain_action 4 page) { count = length auxiliaries.items; value = mpidr; aux = padded auxiliaries.items }
raw_action (host.Call call x1) = call_action call x1
raw_action action = rec_action action

abbrev pub raw_at : List HostAction → ℕ → RawAction
raw_at actions place = elim (slice_get actions place) [ Some action ↦ raw_action action | None ↦ plain_action 0 0 ]

-- The C form of a list of operations: their number, the X0 that the model predicts, and the first five operations.
abbrev pub raw_actions : ℕ → List HostAction → RawActions
raw_actions expected actions = record {
  count = length actions;
  expected = expected;
  actions = raw_at actions 0 ∷ raw_at actions 1 ∷ raw_at actions 2 ∷ raw_at actions 3 ∷ raw_at actions 4 ∷ [];
}
