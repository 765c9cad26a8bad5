-- The updates of a command, each of one granule, and the machine after the updates in sequence.
use Rattle.std.specs.Prelude.{ℕ, List, [], ◌∷◌, Option, Some, None, Result, Ok, Err, slice_set}
use Rattle.realm_model.specs.declared.rmi.Rmi.{Rmi}
use Rattle.realm_model.specs.Machine.{Cell, Machine, blank, cell_at}

-- A change of one granule, which gets a new cell or a new byte, is leased, or is given back and becomes blank.
pub data Update : Type 0 where
  Put : (granule : ℕ) (cell : Cell) → Update
  PutByte : (granule : ℕ) (offset : ℕ) (value : ℕ) → Update
  Lease : (granule : ℕ) → Update
  Free : (granule : ℕ) → Update

-- The updates of a command, or its refusal by the first check that fails.
abbrev pub Outcome : Type 0
Outcome = Result (List Update) Rmi

abbrev pub granule_of : Update → ℕ
granule_of (Put granule cell) = granule
granule_of (PutByte granule offset value) = granule
granule_of (Lease granule) = granule
granule_of (Free granule) = granule

abbrev pub cell_after : Update → Cell → Cell
cell_after (Put granule cell) old = cell
cell_after (PutByte granule offset value) old = record old { bytes = slice_set old.bytes offset value }
cell_after (Lease granule) old = old
cell_after (Free granule) old = blank

-- the build that must lease the granule before an update, or None if the granule must be free
abbrev pub lease_before : ℕ → Update → Option ℕ
lease_before build (Put granule cell) = Some build
lease_before build (PutByte granule offset value) = Some build
lease_before build (Lease granule) = None
lease_before build (Free granule) = Some build

-- the build that leases the granule after an update, or None if the granule is then free
abbrev pub lease_after : ℕ → Update → Option ℕ
lease_after build (Put granule cell) = Some build
lease_after build (PutByte granule offset value) = Some build
lease_after build (Lease granule) = Some build
lease_after build (Free granule) = None

-- ---- a machine after updates

-- the machine after one update
abbrev pub machine_after : Update → Machine → Machine
machine_after update machine =
    slice_set machine (granule_of update) (cell_after update (cell_at machine (granule_of update)))

-- the machine after updates in sequence
unfoldable pub machine_after_all : List Update → Machine → Machine
machine_after_all [] machine = machine
machine_after_all (update ∷ updates) machine = machine_after_all updates (machine_after update machine)

-- The machine after a command, which does not change if the command is refused.
abbrev pub machine_after_command : Outcome → Machine → Machine
machine_after_command (Ok updates) machine = machine_after_all updates machine
machine_after_command (Err rmi) machine = machine
