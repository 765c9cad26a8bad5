-- Proofs that two maps of RTT entries still differ at most in RIPAS after corresponding insertions or removals.
use Rattle.std.proofs.Common.{◌≡◌, ℕ, zero, suc, ◌+◌, ◌-◌, ◌*◌, true, false, cond, not, Some, None, Ordering, refl, sym, ap, ◌∙◌}
use Rattle.std.specs.Prelude.{option_map}
use Rattle.std.specs.Ordering.{eq_by_cmp}
use Rattle.std.specs.Cmp.{IsTotalOrder}
use Rattle.std.specs.FinMap.{FinMap, get, insert, remove, get-insert, get-remove}
use Rattle.granule_addr.specs.Ipa.{covered_count, first_covered}
use Rattle.realm_model.specs.declared.states.Ripas.{Ripas}
use Rattle.realm_model.specs.declared.states.Ripas.TheVariants.{Destroyed}
use Rattle.realm_model.specs.Rows.{Row, Rows, put_rows, drop_rows, put_row, table, unassigned, with_table, without_table}
use Rattle.realm_model.specs.Ownership.{mapping_of_row}
use Rattle.realm_model.specs.Sound.{mapping_at}
use Rattle.realm_model.proofs.Maps.{place_total}
use Rattle.realm_model.proofs.Rows.{get-drop_rows, is_among}

module _ {K X Y : Type 0} {R : K → K → Ordering} (total : IsTotalOrder R) (f : X → Y) (m n : FinMap R X) (same : (q : K) → option_map f (get m q) ≡ option_map f (get n q)) where
  pub both_insert : (k : K) (x y : X) → f x ≡ f y → (q : K) → option_map f (get (insert m k x) q) ≡ option_map f (get (insert n k y) q)
  both_insert k x y alike q =
      ap (option_map f) (get-insert total m k x q)
      ∙ elim (eq_by_cmp R q k) as (λ t. option_map f (cond t (Some x) (get m q)) ≡ option_map f (cond t (Some y) (get n q))) [ true ↦ ap Some alike | false ↦ same q ]
      ∙ sym (ap (option_map f) (get-insert total n k y q))

  pub both_remove : (k q : K) → option_map f (get (remove m k) q) ≡ option_map f (get (remove n k) q)
  both_remove k q =
      ap (option_map f) (get-remove total m k q)
      ∙ elim (eq_by_cmp R q k) as (λ t. option_map f (cond t None (get m q)) ≡ option_map f (cond t None (get n q))) [ true ↦ refl | false ↦ same q ]
      ∙ sym (ap (option_map f) (get-remove total n k q))

abbrev pub SameMappings : Rows → Rows → Type 0
SameMappings r s = (q : ℕ × ℕ) → mapping_at r q ≡ mapping_at s q

module _ (r s : Rows) (same : SameMappings r s) where
  pub both_put : (place : ℕ × ℕ) (x y : Row) → mapping_of_row x ≡ mapping_of_row y → SameMappings (insert r place x) (insert s place y)
  both_put place x y alike q = both_insert place_total mapping_of_row r s same place x y alike q

  pub both_put_rows : (x y : Row) → mapping_of_row x ≡ mapping_of_row y → (level first n : ℕ) → SameMappings (put_rows (λ _. x) r level first n) (put_rows (λ _. y) s level first n)
  unfolding put_rows
  both_put_rows x y alike level first zero q = same q
  both_put_rows x y alike level first (suc n) q =
      both_insert place_total mapping_of_row (put_rows (λ _. x) r level first n) (put_rows (λ _. y) s level first n) (both_put_rows x y alike level first n)
      (level, first + n * covered_count level) x y alike q

  pub both_drop_rows : (level first count : ℕ) → SameMappings (drop_rows r level first count) (drop_rows s level first count)
  both_drop_rows level first count q =
      ap (option_map mapping_of_row) (get-drop_rows r level first count q)
      ∙ elim (is_among level first count q) as (λ t. option_map mapping_of_row (cond (not t) (get r q) None) ≡ option_map mapping_of_row (cond (not t) (get s q) None)) [ true ↦ refl | false ↦ same q ]
      ∙ sym (ap (option_map mapping_of_row) (get-drop_rows s level first count q))

-- ---- tables

pub both_with_table : (r s : Rows) → SameMappings r s → (level ipa granule : ℕ) (a b : Ripas) → SameMappings (with_table r level ipa granule a) (with_table s level ipa granule b)
unfolding with_table
both_with_table r s same level ipa granule a b q =
    both_put_rows (put_row r (level - 1) ipa (table granule)) (put_row s (level - 1) ipa (table granule))
    (both_put r s same (level - 1, first_covered (level - 1) ipa) (table granule) (table granule) refl) (unassigned a) (unassigned b) refl level ipa 512 q

pub both_without_table : (r s : Rows) → SameMappings r s → (level ipa : ℕ) → SameMappings (without_table r level ipa) (without_table s level ipa)
unfolding without_table
both_without_table r s same level ipa q =
    let count : ℕ = 512 * covered_count level in
    both_put (drop_rows r level ipa count) (drop_rows s level ipa count) (both_drop_rows r s same level ipa count)
    (level - 1, first_covered (level - 1) ipa) (unassigned Destroyed) (unassigned Destroyed) refl q
