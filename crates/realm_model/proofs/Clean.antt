-- The proof that updates preserve the invariant that free granules are blank: UNDELEGATED, zero and of no realm.
use Rattle.std.proofs.Common.{◌≡◌, ℕ, List, [], ◌∷◌, set, Option, Some, None, refl, sym, ap, ◌∙◌, subst}
use Rattle.std.specs.Prelude.{slice_get}
use Rattle.realm_model.specs.Machine.{Cell, blank, cell_at}
use Rattle.realm_model.specs.Update.{Update, Put, PutByte, Lease, Free, granule_of, cell_after, lease_after}
use Rattle.realm_model.specs.World.{World, each, updated, updated_all}
use Rattle.realm_model.proofs.Booleans.{guarded}
use Rattle.realm_model.proofs.Leases.{each-set, cell_at-each}

abbrev pub scrubbed : Option ℕ → Cell → Cell
scrubbed None cell = blank
scrubbed (Some build) cell = cell

abbrev pub IsClean : World → Type 0
IsClean w = each scrubbed w.leases w.machine ≡ w.machine

-- a free granule of a world that satisfies `IsClean` is blank
pub clean_at : (w : World) (g : ℕ) → IsClean w → slice_get w.leases g ≡ Some None → cell_at w.machine g ≡ blank
clean_at w g clean free = ap (λ m. cell_at m g) (sym clean) ∙ cell_at-each scrubbed w.leases w.machine g None refl free

scrubbed-after : (b : ℕ) (u : Update) (cell : Cell) → scrubbed (lease_after b u) (cell_after u cell) ≡ cell_after u cell
scrubbed-after b (Put g x) cell = refl
scrubbed-after b (PutByte g o v) cell = refl
scrubbed-after b (Lease g) cell = refl
scrubbed-after b (Free g) cell = refl

pub IsClean-updated : (b : ℕ) (u : Update) (w : World) → IsClean w → IsClean (updated b u w)
IsClean-updated b u w clean =
    each-set scrubbed w.leases w.machine (granule_of u) (lease_after b u) (cell_after u (cell_at w.machine (granule_of u)))
    ∙ ap (λ c. set (each scrubbed w.leases w.machine) (granule_of u) c) (scrubbed-after b u (cell_at w.machine (granule_of u)))
    ∙ ap (λ m. set m (granule_of u) (cell_after u (cell_at w.machine (granule_of u)))) clean

pub IsClean-updated_all : (b : ℕ) (us : List Update) (w v : World) → IsClean w → updated_all b us w ≡ Some v → IsClean v
unfolding updated_all
IsClean-updated_all b [] w v clean e = let same : w ≡ v = cc in subst IsClean same clean
IsClean-updated_all b (u ∷ us) w v clean e =
    let both = guarded _ _ _ e in IsClean-updated_all b us (updated b u w) v (IsClean-updated b u w clean) both.1
