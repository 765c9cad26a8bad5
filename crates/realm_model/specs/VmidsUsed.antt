-- The VMIDs in use before an operation and after it. RMM 1.0, RMI_REALM_CREATE, RMI_REALM_DESTROY.
use Rattle.std.specs.Prelude.{◌≡◌, ◌≢◌, ℕ, List, Bool, true, false, Some}
use Rattle.realm_model.specs.declared.act.Act.{Act}
use Rattle.realm_model.specs.declared.act.Act.TheVariants.{Realm, UnRealm}
use Rattle.realm_model.specs.declared.act.Event.{Event}
use Rattle.realm_model.specs.Command.Check.{is_in}
use Rattle.realm_model.specs.Machine.{Limits, Machine}
use Rattle.realm_model.specs.World.{World}
use Rattle.realm_model.specs.Step.{step, used_vmids}
use Rattle.realm_model.specs.History.{IsInTurn}
use Rattle.realm_model.specs.Undoing.{by}

-- a realm of the machine has the VMID
abbrev pub is_vmid_used : Machine → ℕ → Bool
is_vmid_used machine vmid = is_in vmid (used_vmids machine)

-- in the new machine the VMID is in use exactly if `used` is true, and each other VMID is in use exactly if it was in
-- the old machine
pub record IsUsedNow (old new : Machine) (vmid : ℕ) (used : Bool) : Type 0 where
  pub one : is_vmid_used new vmid ≡ used
  pub others : (other : ℕ) → other ≢ vmid → is_vmid_used new other ≡ is_vmid_used old other

-- The creation of a realm puts the realm's VMID into use, and the destruction of the realm frees it. No other operation
-- changes which VMIDs are in use.
abbrev pub VmidsFollow : Act → Machine → Machine → Type 0
VmidsFollow (Realm rd root vmid) old new = IsUsedNow old new vmid true
VmidsFollow (UnRealm rd root vmid) old new = IsUsedNow old new vmid false
VmidsFollow _ old new = (vmid : ℕ) → is_vmid_used new vmid ≡ is_vmid_used old vmid

-- An accepted operation changes the VMIDs in use as `VmidsFollow` says. A reverse operation is required to undo its
-- build's newest open operation.
abbrev pub VmidsFollowSteps : Limits → List Event → World → ℕ → Act → World → Type 0
VmidsFollowSteps limits history world build act next =
    IsInTurn history (by build act) → step limits world (by build act) ≡ Some next → VmidsFollow act world.machine next.machine
