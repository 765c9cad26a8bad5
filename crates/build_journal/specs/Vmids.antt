-- The VMIDs of a machine, and which of them are in use. RMM 1.0, Realm attributes, VMID.
use Rattle.std.specs.Prelude.{◌≡◌, ℕ, ◌<◌, Bool, true, false, not, ◌&&◌, nat_le, List}
use Rattle.granule_addr.specs.Vmids.{is_used, IsMarked}

-- The greatest VMID that a realm may have, and, for each number, whether it is in use.
pub record Vmids : Type 0 where
  pub vmids : ℕ
  pub used : List Bool

-- the VMID is in range, and not in use
abbrev pub is_free : Vmids → ℕ → Bool
is_free pool vmid = nat_le 1 vmid && nat_le vmid pool.vmids && not (is_used pool.used vmid)

-- the VMID is free, and no lower one is
pub record IsLowestFree (pool : Vmids) (vmid : ℕ) : Type 0 where
  pub free : is_free pool vmid ≡ true
  pub lower : (other : ℕ) → other < vmid → is_free pool other ≡ false

-- in `new`, the VMID is in use if `used` is true, and not in use otherwise; the range and the other VMIDs are as in
-- `old`
pub record IsClaimed (old new : Vmids) (vmid : ℕ) (used : Bool) : Type 0 where
  pub range : new.vmids ≡ old.vmids
  pub marked : IsMarked old.used new.used vmid used
