-- Proofs that the rows below an entry that leads to a table are the entries of that table.
use Rattle.std.proofs.Common.{◌≡◌, ℕ, suc, ◌+◌, ◌-◌, ◌*◌, ◌/◌, ◌<◌, ◌≤◌, true, Some, ⊎_elim, sym, ap, subst, ◌∙◌, arith}
use Rattle.std.specs.FinMap.{get}
use Rattle.std.proofs.lemmas.Bool.{and_parts, eqb-true}
use Rattle.granule_addr.specs.Ipa.{covered_count, first_covered, entry_index, served_count}
use Rattle.granule_addr.specs.Root.{served_space}
use Rattle.granule_addr.specs.declared.width.Root.{Root}
use Rattle.realm_model.specs.Rows.{is_unassigned, is_table_place, is_table_unused}
use Rattle.realm_model.proofs.Rows.{is_among}
use Rattle.realm_model.proofs.Booleans.{false_from}
use Rattle.realm_model.proofs.TablePlaces.{IsTablePlace, table_place}
use Rattle.rtt.specs.Tables.{Entries, table_at, is_place, rows_in}
use Rattle.rtt.specs.Realm.{IsInside}
use Rattle.rtt.proofs.PlaceLaws.{first_covers, served_below, below_is_place, is_under, under_cases}
use Rattle.rtt.proofs.TableAt.{table_at-same, entry_at-some}
use Rattle.rtt.proofs.RowsIn.{get-rows_in, row_in-place}
use Rattle.rtt.proofs.RowRuns.{all_rows_each, all_rows_true}

-- a table of the given level can begin at the IPA granule `ipa`, and `above` is one less than the level
module _ (level above ipa : ℕ) (next : above + 1 ≡ level) (place : is_table_place ipa level ≡ true) where
  pub facts : IsTablePlace ipa level
  facts = table_place ipa level place

  pub low : 1 ≤ above
  low = let l = facts.low.0 in omega arith

  pub high : above < 3
  high = let l = facts.low.1 in omega arith

  pub suc_above : suc above ≡ level
  suc_above = omega arith

  pub above_is : level - 1 ≡ above
  above_is = omega arith

  pub first : first_covered above ipa ≡ ipa
  first = ap (λ (k : ℕ). first_covered k ipa) (sym above_is) ∙ facts.first

  pub above_inside : (width : ℕ) → ipa < served_space width → IsInside width above ipa
  above_inside width below = let l = low in let h = high in record { least = l; most = omega arith; below = below }

  pub level_inside : (width : ℕ) → ipa < served_space width → IsInside width level ipa
  level_inside width below = let l = low in let h = high in record { least = omega arith; most = omega arith; below = below }

  -- the places of the table are those under the entry that leads to the table
  pub among_under : (l i : ℕ) → is_among level ipa (512 * covered_count level) (l, i) ≡ is_under (suc above) above ipa l i
  among_under l i =
      ⊎_elim
      (λ u.
      let at_level : l ≡ level = u.1 ∙ suc_above in
      let covered : first_covered (level - 1) i ≡ ipa = ap (λ (k : ℕ). first_covered k i) above_is ∙ ap (λ (q : ℕ). q * covered_count above) u.2 ∙ first in
      ap (λ (k : ℕ). is_among level ipa (512 * covered_count level) (k, i)) at_level ∙ facts.among i covered ∙ sym u.0)
      (λ u.
      false_from _ (λ among.
      let at_level : l ≡ level = eqb-true l level (and_parts _ _ (and_parts _ _ among).0).0 in
      let covered : first_covered above i ≡ ipa = ap (λ (k : ℕ). first_covered k i) (sym above_is)
      ∙ facts.from_among i (subst (λ (k : ℕ). is_among level ipa (512 * covered_count level) (k, i) ≡ true) at_level among) in
      u.1 (at_level ∙ sym suc_above) (sym (first_covers above i) ∙ ap (λ (k : ℕ). k / covered_count above) covered))
      ∙ sym u.0)
      (under_cases (suc above) above ipa l i)

  module _ (entries : Entries) (root : Root) (granule : ℕ) (below : ipa < served_space root.width) (at : table_at entries root level ipa ≡ Some granule) where
    -- The rows at a table's places are its entries.
    pub table_rows : (k : ℕ) → k < 512 → get (rows_in entries root) (level, ipa + k * covered_count level) ≡ Some (entries granule k)
    table_rows k few =
        let i = ipa + k * covered_count level in
        let stands = below_is_place root.width above ipa k (above_inside root.width below) high few in
        let here : first_covered above ipa + k * covered_count (suc above) ≡ i =
        ap (λ (n : ℕ). n + k * covered_count (suc above)) first ∙ ap (λ (n : ℕ). ipa + k * covered_count n) suc_above in
        let cov : i / covered_count above ≡ ipa / covered_count above = ap (λ (n : ℕ). n / covered_count above) (sym here) ∙ stands.0 in
        let is_there : is_place root.width level i ≡ true = ap (λ (n : ℕ). is_place root.width n i) (sym suc_above) ∙ ap (is_place root.width (suc above)) (sym here) ∙ stands.1 in
        let index : entry_index level i ≡ k = ap (λ (n : ℕ). entry_index n i) (sym suc_above) ∙ ap (entry_index (suc above)) (sym here) ∙ stands.2 in
        let served : served_count level ≡ covered_count above = ap served_count (sym suc_above) ∙ served_below above low high in
        let same : i / served_count level ≡ ipa / served_count level = ap (λ (n : ℕ). i / n) served ∙ cov ∙ sym (ap (λ (n : ℕ). ipa / n) served) in
        get-rows_in entries root level i
        ∙ row_in-place entries root level i is_there
        ∙ entry_at-some entries root level i granule (table_at-same entries root level i ipa (level_inside root.width below).most same ∙ at)
        ∙ ap (λ (n : ℕ). Some (entries granule n)) index

    -- A table is unused if each of its entries is UNASSIGNED.
    pub table_unused : ((index : ℕ) → index < 512 → is_unassigned (entries granule index) ≡ true) → is_table_unused (rows_in entries root) level ipa ≡ true
    unfolding is_table_unused
    table_unused each = all_rows_true is_unassigned (rows_in entries root) level ipa 512 (entries granule) table_rows each

    -- Each entry of an unused table is UNASSIGNED.
    pub unused_entry : is_table_unused (rows_in entries root) level ipa ≡ true → (index : ℕ) → index < 512 → is_unassigned (entries granule index) ≡ true
    unfolding is_table_unused
    unused_entry unused = all_rows_each is_unassigned (rows_in entries root) level ipa 512 (entries granule) table_rows unused
