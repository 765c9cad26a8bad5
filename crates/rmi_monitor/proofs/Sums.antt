-- Proofs that the byte sum of a granule can be read from the RMM's fields: the sum of its contents there, or 0 for a
-- table.
use Rattle.std.proofs.Common.{◌≡◌, ℕ, zero, suc, List, replicate, refl, sym, ap, ◌∙◌}
use Rattle.std.specs.Prelude.{sum}
use Rattle.rtt.specs.Granules.{granule_at}
use Rattle.page_arena.specs.Page.{page_at}
use Rattle.realm_model.specs.declared.states.GranuleState.{GranuleState}
use Rattle.realm_model.specs.declared.states.GranuleState.TheVariants.{Rtt}
use Rattle.granule_addr.specs.Page.{page_of, zero_page}
use Rattle.rmi_monitor.specs.Inside.{Fields, bytes_of, cell_of}

sum-zeros : (n : ℕ) → sum (replicate n 0) ≡ 0
sum-zeros zero = refl
sum-zeros (suc n) = sum-zeros n

sum-zero_page : sum zero_page ≡ 0
unfolding page_of
sum-zero_page = sum-zeros 4096

-- the bytes in a table's cell have the sum 0
pub sum-table : (fields : Fields) (g : ℕ) → (granule_at fields.granules g).state ≡ Rtt → 0 ≡ sum (cell_of fields g).bytes
sum-table fields g is = sym (ap (λ s. sum (bytes_of s (page_at fields.pages g))) is ∙ sum-zero_page)

pub sum-page : (fields : Fields) (g : ℕ) → ((granule_at fields.granules g).state ≡ Rtt → ⊥) → sum (page_at fields.pages g) ≡ sum (cell_of fields g).bytes
sum-page fields g not_table = same (granule_at fields.granules g).state not_table
  where
    page : List ℕ
    page = page_at fields.pages g

    same : (state : GranuleState) → (state ≡ Rtt → ⊥) → sum page ≡ sum (bytes_of state page)
    same Rtt h = absurd (h refl)
    same _ h = refl
