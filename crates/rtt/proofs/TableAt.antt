-- Lemmas on the table that serves an IPA granule at each level, and on the entry and the page of data for that IPA
-- granule.
use Rattle.std.proofs.Common.{◌≡◌, ℕ, zero, suc, ◌+◌, ◌/◌, ◌≤◌, Option, Some, None, inl, inr, refl, sym, ap, ◌∙◌, arith}
use Rattle.std.specs.Prelude.{option_and_then}
use Rattle.std.proofs.lemmas.Bool.{cases_eq}
use Rattle.granule_addr.specs.Ipa.{covered_count, entry_index, served_count}
use Rattle.granule_addr.specs.Root.{start_table}
use Rattle.granule_addr.specs.declared.width.Root.{Root}
use Rattle.realm_model.specs.Rows.{Row, table_of, data_of}
use Rattle.rtt.specs.Tables.{Entries, table_at, entry_at, data_at}
use Rattle.rtt.proofs.PlaceLaws.{table_of_entry, index_of_entry, served_below}

pub table_at-root : (entries : Entries) (root : Root) (ipa : ℕ) → table_at entries root 1 ipa ≡ Some (start_table root ipa)
unfolding table_at
table_at-root entries root ipa = refl

-- the table of the next level for an IPA granule is the table to which the entry of this level leads
pub table_at-suc : (entries : Entries) (root : Root) (level ipa : ℕ) → 1 ≤ level
    → table_at entries root (suc level) ipa ≡ option_and_then (λ table. table_of (entries table (entry_index level ipa))) (table_at entries root level ipa)
unfolding table_at
table_at-suc entries root zero ipa low = absurd (omega arith)
table_at-suc entries root (suc level) ipa low = refl

pub table_at-next : (entries : Entries) (root : Root) (level ipa table : ℕ) → 1 ≤ level → table_at entries root level ipa ≡ Some table
    → table_at entries root (suc level) ipa ≡ table_of (entries table (entry_index level ipa))
table_at-next entries root level ipa table low at =
    table_at-suc entries root level ipa low ∙ ap (option_and_then (λ table. table_of (entries table (entry_index level ipa)))) at

-- two IPA granules that one table of a level can cover have the same table at that level, or both have none
pub table_at-same : (entries : Entries) (root : Root) (level ipa other : ℕ) → level ≤ 3 → ipa / served_count level ≡ other / served_count level
    → table_at entries root level ipa ≡ table_at entries root level other
unfolding table_at
table_at-same entries root zero ipa other high e = refl
table_at-same entries root (suc zero) ipa other high e = ap (λ (n : ℕ). Some (root.first + n)) e
table_at-same entries root (suc (suc level)) ipa other high e =
    let s = served_below (suc level) (omega arith) (omega arith) in
    let same : ipa / covered_count (suc level) ≡ other / covered_count (suc level) = ap (λ (n : ℕ). ipa / n) (sym s) ∙ e ∙ ap (λ (n : ℕ). other / n) s in
    ap (λ t. option_and_then (λ table. table_of (entries table (entry_index (suc level) ipa))) t)
    (table_at-same entries root (suc level) ipa other (omega arith) (table_of_entry (suc level) ipa other same))
    ∙ ap (λ (i : ℕ). option_and_then (λ table. table_of (entries table i)) (table_at entries root (suc level) other)) (index_of_entry (suc level) ipa other same)

-- two IPA granules with the same place at a level have the same entry at that level, or both have none
pub entry_at-same : (entries : Entries) (root : Root) (level ipa other : ℕ) → level ≤ 3 → ipa / covered_count level ≡ other / covered_count level
    → entry_at entries root level ipa ≡ entry_at entries root level other
entry_at-same entries root level ipa other high e =
    ap (option_and_then (λ table. Some (entries table (entry_index level ipa)))) (table_at-same entries root level ipa other high (table_of_entry level ipa other e))
    ∙ ap (λ (i : ℕ). option_and_then (λ table. Some (entries table i)) (table_at entries root level other)) (index_of_entry level ipa other e)

pub entry_at-some : (entries : Entries) (root : Root) (level ipa table : ℕ) → table_at entries root level ipa ≡ Some table
    → entry_at entries root level ipa ≡ Some (entries table (entry_index level ipa))
entry_at-some entries root level ipa table at = ap (option_and_then (λ table. Some (entries table (entry_index level ipa)))) at

-- below an entry that leads to no table there is no table
pub no_table : (entries : Entries) (root : Root) (level ipa table lower : ℕ) → 1 ≤ level → level ≤ lower → table_at entries root level ipa ≡ Some table
    → table_of (entries table (entry_index level ipa)) ≡ None → table_at entries root (suc lower) ipa ≡ None
no_table entries root level ipa table zero low le at none = absurd (omega arith)
no_table entries root level ipa table (suc lower) low le at none =
    table_at-suc entries root (suc lower) ipa (omega arith)
    ∙ elim (cases_eq level (suc lower)) [
      | inl s ↦
          ap (λ (k : ℕ). option_and_then (λ table. table_of (entries table (entry_index k ipa))) (table_at entries root k ipa)) (sym s)
          ∙ ap (option_and_then (λ table. table_of (entries table (entry_index level ipa)))) at ∙ none
      | inr ne ↦
          ap (option_and_then (λ table. table_of (entries table (entry_index (suc lower) ipa)))) (no_table entries root level ipa table lower low (omega arith) at none)
    ]

-- ---- pages of data

abbrev pub data_in : Option Row → Option ℕ
data_in None = None
data_in (Some row) = data_of row

pub data_at-entry : (entries : Entries) (root : Root) (level ipa : ℕ) → data_at entries root level ipa ≡ data_in (entry_at entries root level ipa)
data_at-entry entries root level ipa =
    elim (table_at entries root level ipa) as (λ t. option_and_then (λ table. data_of (entries table (entry_index level ipa))) t ≡ data_in
    (option_and_then (λ table. Some (entries table (entry_index level ipa))) t)) [
      | None ↦ refl
      | Some table ↦ refl
    ]
