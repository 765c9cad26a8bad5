-- Sets of VMIDs as lists of flags, which say for each number whether it is used. RMM 1.0, VMID.
use Rattle.std.specs.Prelude.{◌≡◌, ◌≢◌, ℕ, Bool, false, List, slice_index_or}

-- whether a VMID is used; a number without a flag is not used
abbrev pub is_used : List Bool → ℕ → Bool
is_used flags vmid = slice_index_or flags vmid false

-- the new flag of the VMID is `used`, and each other VMID keeps its flag
pub record IsMarked (old new : List Bool) (vmid : ℕ) (used : Bool) : Type 0 where
  pub one : is_used new vmid ≡ used
  pub others : (other : ℕ) → other ≢ vmid → is_used new other ≡ is_used old other
