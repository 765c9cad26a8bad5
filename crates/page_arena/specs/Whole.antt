-- The invariant of a machine's pages, which are kept in the slots of one allocation.
use Rattle.std.specs.Prelude.{◌≡◌, ℕ, ◌+◌, ◌≤◌, List, length, get_or}
use Rattle.granule_addr.specs.Page.{zero_page}
use denote.RawPtr.{Ptr}

-- The array of slots begins at `first`, was allocated by `alloc`, has capacity for one slot more than there are pages,
-- and holds the used slots. The first slot has zeros. There are 1 to 4,096 pages.
pub record IsWhole {A : Type 0} (first at : Ptr) (slots : List ℕ) (used room : ℕ) (items : List (List ℕ)) (alloc from : A) : Type 0 where
  pub place : at ≡ first
  pub owner : from ≡ alloc
  pub whole : room ≡ length slots + 1
  pub mark : used ≡ length items
  pub zeros : get_or items 0 zero_page ≡ zero_page
  pub some : 1 ≤ length slots
  pub few : length slots ≤ 4096
