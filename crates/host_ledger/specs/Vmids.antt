-- The free VMIDs of a host, the lowest free VMID, and the VMIDs in use after an operation.
use Rattle.std.specs.Prelude.{◌≡◌, ℕ, Bool, true, false, Option, not, ◌&&◌, nat_le}
use Rattle.std.specs.List.{find, range_with_len}
use Rattle.build_journal.specs.Vmids.{Vmids, is_free, IsClaimed}
use Rattle.realm_model.specs.declared.act.Act.{Act}
use Rattle.realm_model.specs.declared.act.Act.TheVariants.{Realm, UnRealm}
use Rattle.realm_model.specs.VmidsUsed.{is_vmid_used}
use Rattle.host_ledger.specs.View.{HostView, world_of}

-- a realm may be created with the VMID: it is in range, and no realm has it
abbrev pub is_vmid_free : HostView → ℕ → Bool
is_vmid_free host vmid = nat_le 1 vmid && nat_le vmid host.limits.vmids && not (is_vmid_used (world_of host).machine vmid)

-- the lowest VMID with which a realm may be created, if there is one
abbrev pub lowest_vmid : HostView → Option ℕ
lowest_vmid host = find (is_vmid_free host) (range_with_len 1 host.limits.vmids)

-- ---- after an operation

-- if the operation creates a realm, the VMID of that realm is free
abbrev pub CanFollowVmids : Vmids → Act → Type 0
CanFollowVmids vmids (Realm rd root vmid) = is_free vmids vmid ≡ true
CanFollowVmids vmids _ = Unit {0}

-- the VMID of a created realm comes into use, the VMID of a destroyed realm becomes free, and all others stay as they
-- were
abbrev pub IsVmidsAfter : Act → Vmids → Vmids → Type 0
IsVmidsAfter (Realm rd root vmid) old new = IsClaimed old new vmid true
IsVmidsAfter (UnRealm rd root vmid) old new = IsClaimed old new vmid false
IsVmidsAfter _ old new = new ≡ old
