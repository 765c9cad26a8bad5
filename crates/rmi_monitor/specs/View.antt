-- The view that a contract has of an RMM, and of its answers.
use Rattle.std.specs.Prelude.{◌≡◌, ◌≢◌, ℕ, ◌+◌, ◌^◌, ◌<◌, ◌≤◌, Bool, true, false, List, length, map, replicate, Option, Some, option_and_then, Result, Ok, Err}
use Rattle.std.specs.FinMap.{get}
use Rattle.granule_addr.specs.Root.{starting_tables}
use Rattle.granule_addr.specs.declared.width.Root.{Root}
use Rattle.page_arena.specs.Page.{is_free}
use Rattle.page_arena.specs.Block.{IsTakenBlock, with_run, with_taken, with_given}
use Rattle.realm_model.specs.declared.rmi.Rmi.{Rmi}
use Rattle.realm_model.specs.declared.states.GranuleState.TheVariants.{Rtt}
use Rattle.realm_model.specs.Machine.{RealmRow, RecRow, Cell, Machine, Seen, seen, blank, cell_at}
use Rattle.realm_model.specs.Update.{Outcome, machine_after_command}
use Rattle.realm_model.specs.Command.Check.{error_input, is_undelegated}
use Rattle.realm_model.specs.Command.Realm.{realm_create}
use Rattle.realm_model.specs.Step.{used_vmids}
use Rattle.rmi_monitor.specs.Attributes.{RealmAttributes}

-- An RMM's numbers of VMIDs and of auxiliary granules per REC, its machine, and for each granule whether it is free.
pub record MonitorView : Type 0 where
  pub vmids : ℕ
  pub aux : ℕ
  pub machine : Machine
  pub free : List Bool

-- the granule is inside the machine, and not free
pub record IsTaken (monitor : MonitorView) (granule : ℕ) : Type 0 where
  pub inside : granule < length monitor.machine
  pub taken : is_free monitor.free granule ≡ false

-- the machine has `count` granules, and none of them is free
pub record AreAllTaken (monitor : MonitorView) (count : ℕ) : Type 0 where
  pub size : length monitor.machine ≡ count
  pub each : (granule : ℕ) → granule < count → IsTaken monitor granule

-- the number of a granule and its cell in the machine, as a command sees them
abbrev pub seen_in : MonitorView → ℕ → Seen
seen_in monitor granule = seen monitor.machine granule

-- The answer is a success if the command's outcome is one, and otherwise the error in the outcome.
abbrev pub Answers : {A : Type 0} → Result A Rmi → Outcome → Type 0
Answers (Ok value) (Ok updates) = Unit {0}
Answers (Ok value) (Err rmi) = ⊥
Answers (Err refusal) (Ok updates) = ⊥
Answers (Err refusal) (Err rmi) = refusal ≡ rmi

-- the RMM after a command with the given outcome
abbrev pub after_command : Outcome → MonitorView → MonitorView
after_command outcome monitor = record monitor { machine = machine_after_command outcome monitor.machine }

-- ---- realms

-- the outcome of RMI_REALM_CREATE on an RMM, for the given RD, starting tables and VMID
abbrev pub make_realm : MonitorView → ℕ → Root → ℕ → Outcome
make_realm monitor rd root vmid =
    realm_create monitor.vmids (used_vmids monitor.machine) (seen_in monitor rd) (map (seen_in monitor) (starting_tables root)) root vmid

-- a realm's own attributes, from its record
abbrev pub attributes_of : RealmRow → RealmAttributes
attributes_of realm = record {
  state = realm.state;
  vmid = realm.vmid;
  root = realm.root;
  next = realm.next;
  measurement = realm.measurement;
}

-- the granule holds the REC with the given number in the realm whose RD is `rd`
pub record IsRec (machine : Machine) (rd number granule : ℕ) : Type 0 where
  pub realm : RealmRow
  pub there : (cell_at machine rd).descriptor ≡ Some realm
  pub rec : RecRow
  pub numbered : get realm.recs number ≡ Some rec
  pub is : rec.granule ≡ granule

-- the REC with the given number in the realm with the given RD, if there is one
abbrev pub rec_in : Machine → ℕ → ℕ → Option RecRow
rec_in machine rd number = option_and_then (λ realm. get realm.recs number) (cell_at machine rd).descriptor

-- A command on the REC in a granule has the outcome that its definition gives for the REC's realm and number. If the
-- granule is the REC of no realm, the command is refused with an input error and nothing changes.
pub record IsOnRec {A : Type 0} (command : Seen → ℕ → Outcome) (old : MonitorView) (granule : ℕ) (result : Result A Rmi) (new : MonitorView) : Type 0 where
  pub answer : (rd number : ℕ) → IsRec old.machine rd number granule → Answers result (command (seen_in old rd) number)
  pub machine : (rd number : ℕ) → IsRec old.machine rd number granule → new ≡ after_command (command (seen_in old rd) number) old
  pub none : ((rd number : ℕ) → ¬ (IsRec old.machine rd number granule)) → (result ≡ Err error_input) × (new ≡ old)

-- ---- blocks

-- the RMM after a block is taken
abbrev pub with_block : MonitorView → ℕ → ℕ → MonitorView
with_block monitor order first = record monitor { free = with_taken monitor.free order first }

-- granule `first` begins a block of 2^`order` granules, none of which is free, and all of which are UNDELEGATED
pub record IsGivable (monitor : MonitorView) (order first : ℕ) : Type 0 where
  pub taken : IsTakenBlock monitor.free order first
  pub undelegated : (granule : ℕ) → first ≤ granule → granule < first + 2 ^ order → is_undelegated (seen_in monitor granule) ≡ true

-- the RMM after a block is given back: the block's granules are then UNDELEGATED, zero and free
abbrev pub without_block : MonitorView → ℕ → ℕ → MonitorView
without_block monitor order first = record monitor {
  machine = with_run monitor.machine first (2 ^ order) blank;
  free = with_given monitor.free order first;
}

-- an RMM that has just been built, with `pages` granules
abbrev pub fresh : ℕ → ℕ → ℕ → MonitorView
fresh vmids aux pages = record { vmids = vmids; aux = aux; machine = replicate pages blank; free = replicate pages true }

-- the given bytes are those of the cell, unless the cell is that of a table
abbrev pub IsPageOf : Cell → List ℕ → Type 0
IsPageOf cell bytes = cell.state ≢ Rtt → bytes ≡ cell.bytes
