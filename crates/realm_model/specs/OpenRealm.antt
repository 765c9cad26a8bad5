-- The conditions that a build's realm and the VMIDs in use come from open Realm operations, and a bound on REC numbers.
use Rattle.std.specs.Prelude.{◌≡◌, ◌≤◌, ◌↔◌, ◌==◌, ℕ, List, [], ◌∷◌, filter, length, Bool, true, false, IsTrue, Option, Some, None}
use Rattle.std.specs.List.{list_any, Contains}
use Rattle.realm_model.specs.declared.act.Act.{Act}
use Rattle.realm_model.specs.declared.act.Act.TheVariants.{Realm}
use Rattle.realm_model.specs.declared.act.Event.{Event}
use Rattle.realm_model.specs.Machine.{RealmRow, Seen}
use Rattle.realm_model.specs.World.{World, realm_of}
use Rattle.realm_model.specs.Step.{used_vmids}
use Rattle.realm_model.specs.History.{acts_of, open_entries}

-- the operation creates a realm
abbrev pub makes_realm : Act → Bool
makes_realm (Realm rd root vmid) = true
makes_realm _ = false

-- the operation that creates a realm with this RD, and with the starting tables and the VMID of the given realm
abbrev pub maker : ℕ → RealmRow → Act
maker rd realm = Realm rd realm.root realm.vmid

-- the operation that created the realm, alone in a list; the empty list if there is no realm
abbrev pub makers : Option Seen → List Act
makers None = []
makers (Some rd) = elim rd.cell.descriptor [ Some realm ↦ maker rd.number realm ∷ [] | None ↦ [] ]

-- A build has a realm exactly when it has a Realm operation open, and it has at most one open. The realm's RD, starting
-- tables and VMID are those of the operation.
abbrev pub RealmIsOpen : List Event → World → ℕ → Type 0
RealmIsOpen history world build = filter makes_realm (open_entries build history) ≡ makers (realm_of build world)

-- the operation creates a realm with the VMID
abbrev pub uses_vmid : ℕ → Act → Bool
uses_vmid vmid (Realm rd root v) = v == vmid
uses_vmid vmid _ = false

-- A VMID is in use exactly when some build has a Realm operation with that VMID open.
abbrev pub VmidIsOpen : List Event → World → ℕ → Type 0
VmidIsOpen history world vmid =
    Contains (used_vmids world.machine) vmid ↔ ((build : ℕ) × IsTrue (list_any (uses_vmid vmid) (open_entries build history)))

-- The next REC number of a build's realm is at most the count of the build's events.
abbrev pub NumbersAreFew : List Event → World → ℕ → Type 0
NumbersAreFew history world build =
    (rd : Seen) (realm : RealmRow) → realm_of build world ≡ Some rd → rd.cell.descriptor ≡ Some realm → realm.next ≤ length (acts_of build history)
