-- Proofs about the page store's flags for free granules: a granule that is flagged as free is leased by no build, and a
-- leased granule is flagged as taken.
use Rattle.std.proofs.Common.{◌≡◌, ℕ, zero, suc, true, false, List, [], ◌∷◌, map, Option, Some, None, refl}
use Rattle.std.specs.Prelude.{is_none, slice_get}
use Rattle.page_arena.specs.Page.{is_free}

pub flag_free : (leases : List (Option ℕ)) (g : ℕ) → is_free (map is_none leases) g ≡ true → slice_get leases g ≡ Some None
flag_free [] g h = cc
flag_free (None ∷ leases) zero h = refl
flag_free (Some b ∷ leases) zero h = cc
flag_free (lease ∷ leases) (suc g) h = flag_free leases g h

pub taken_flag : (leases : List (Option ℕ)) (g b : ℕ) → slice_get leases g ≡ Some (Some b) → is_free (map is_none leases) g ≡ false
taken_flag [] g b h = cc
taken_flag (None ∷ leases) zero b h = cc
taken_flag (Some c ∷ leases) zero b h = refl
taken_flag (lease ∷ leases) (suc g) b h = taken_flag leases g b h
