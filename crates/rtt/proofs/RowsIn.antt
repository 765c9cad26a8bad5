-- Proofs that the row at each place is the entry that the realm's tables have there, and that an RTT walk ends at such
-- an entry.
use Rattle.std.proofs.Common.{◌≡◌, ℕ, zero, suc, ◌<◌, ◌≤◌, true, false, cond, Option, Some, None, ◌⊎◌, inl, inr, ⊎_elim, refl, sym, ap, ◌∙◌, arith}
use Rattle.std.specs.Prelude.{option_and_then}
use Rattle.std.specs.FinMap.{get}
use Rattle.std.proofs.lemmas.Bool.{cases_eq}
use Rattle.granule_addr.specs.Ipa.{first_covered, entry_index}
use Rattle.granule_addr.specs.Root.{served_space}
use Rattle.granule_addr.specs.declared.width.Root.{Root}
use Rattle.realm_model.specs.Rows.{Row, Rows, row_at, walk, table_of}
use Rattle.rtt.proofs.FiniteRowsLaws.{IsBounded, get-rows_by, same_rows}
use Rattle.rtt.specs.Tables.{Entries, table_at, entry_at, is_place, row_in, rows_in}
use Rattle.rtt.specs.Realm.{IsInside}
use Rattle.rtt.proofs.PlaceLaws.{place_facts, first_covers, first_is_place}
use Rattle.rtt.proofs.TableAt.{entry_at-same, entry_at-some, no_table}

row_in-bounded : (entries : Entries) (root : Root) → IsBounded (served_space root.width) (row_in entries root)
unfolding row_in
row_in-bounded entries root =
    let nothing : (level ipa : ℕ) → (is_place root.width level ipa ≡ true → ⊥) → row_in entries root level ipa ≡ None = λ level ipa n.
    elim (is_place root.width level ipa) as (λ b. is_place root.width level ipa ≡ b → cond b (entry_at entries root level ipa) None ≡ None) [ true ↦ λ k. absurd (n k) | false ↦ λ k. refl ] refl in
    record {
      levels = λ level ipa out. nothing level ipa (λ k. let facts = place_facts root.width level ipa k in let low : 1 ≤ level = facts.least in
          let high : level ≤ 3 = facts.most in ⊎_elim (λ z. omega arith) (λ z. omega arith) out);
      granules = λ level ipa past. nothing level ipa (λ k. let facts = place_facts root.width level ipa k in let lt : ipa < served_space root.width = facts.inside in omega arith);
    }

-- The rows have at each place what the tables have there.
pub get-rows_in : (entries : Entries) (root : Root) (level ipa : ℕ) → get (rows_in entries root) (level, ipa) ≡ row_in entries root level ipa
unfolding rows_in
get-rows_in entries root level ipa = get-rows_by (served_space root.width) (row_in entries root) (row_in-bounded entries root) level ipa

-- rows that have at each place what the tables have there are the tables' rows
pub rows_in-from : (entries : Entries) (root : Root) (rows : Rows) → ((level ipa : ℕ) → row_in entries root level ipa ≡ get rows (level, ipa)) → rows_in entries root ≡ rows
rows_in-from entries root rows same = same_rows _ _ (λ level ipa. get-rows_in entries root level ipa ∙ same level ipa)

pub row_in-place : (entries : Entries) (root : Root) (level ipa : ℕ) → is_place root.width level ipa ≡ true → row_in entries root level ipa ≡ entry_at entries root level ipa
unfolding row_in
row_in-place entries root level ipa place = ap (λ b. cond b (entry_at entries root level ipa) None) place

pub row_in-none : (entries : Entries) (root : Root) (level ipa : ℕ) → is_place root.width level ipa ≡ false → row_in entries root level ipa ≡ None
unfolding row_in
row_in-none entries root level ipa place = ap (λ b. cond b (entry_at entries root level ipa) None) place

-- The row of a level that covers an IPA granule is the entry that covers it in the table of that level.
pub row_at-rows_in : (entries : Entries) (root : Root) (level ipa : ℕ) → IsInside root.width level ipa → row_at (rows_in entries root) level ipa ≡ entry_at entries root level ipa
row_at-rows_in entries root level ipa inside =
    get-rows_in entries root level (first_covered level ipa)
    ∙ row_in-place entries root level (first_covered level ipa) (first_is_place root.width level ipa inside)
    ∙ entry_at-same entries root level (first_covered level ipa) ipa inside.most (first_covers level ipa)

-- ---- walks

step_walk : (rows : Rows) (ipa level : ℕ) (o : Option Row) → row_at rows (suc level) ipa ≡ o
    → walk rows ipa (suc level) ≡ elim o [ Some row ↦ Some (record { level = suc level; row = row }) | None ↦ walk rows ipa level ]
unfolding walk
step_walk rows ipa level o is = ap (λ o. elim o [ Some row ↦ Some (record { level = suc level; row = row }) | None ↦ walk rows ipa level ]) is

walk_here : (entries : Entries) (root : Root) (level ipa table : ℕ) → IsInside root.width level ipa → table_at entries root level ipa ≡ Some table
    → walk (rows_in entries root) ipa level ≡ Some (record { level = level; row = entries table (entry_index level ipa) })
walk_here entries root zero ipa table inside at = let low : 1 ≤ 0 = inside.least in absurd (omega arith)
walk_here entries root (suc level) ipa table inside at =
    step_walk (rows_in entries root) ipa level _ (row_at-rows_in entries root (suc level) ipa inside ∙ entry_at-some entries root (suc level) ipa table at)

-- A walk towards level `wanted` ends at an entry for the IPA granule if that entry is of level `wanted`, or is above
-- that level and leads to no table.
pub walk_ends : (entries : Entries) (root : Root) (level wanted ipa table : ℕ) → IsInside root.width level ipa → level ≤ wanted → wanted ≤ 3 → table_at entries root level ipa ≡ Some table
    → (level ≡ wanted) ⊎ (table_of (entries table (entry_index level ipa)) ≡ None)
    → walk (rows_in entries root) ipa wanted ≡ Some (record { level = level; row = entries table (entry_index level ipa) })
walk_ends entries root level zero ipa table inside le high at stop = let low = inside.least in absurd (omega arith)
walk_ends entries root level (suc wanted) ipa table inside le high at stop =
    elim (cases_eq level (suc wanted)) [
      | inl s ↦ ap (λ (k : ℕ). walk (rows_in entries root) ipa k) (sym s) ∙ walk_here entries root level ipa table inside at
      | inr ne ↦
          let none : table_of (entries table (entry_index level ipa)) ≡ None = ⊎_elim (λ s. absurd (ne s)) (λ n. n) stop in
          let low = inside.least in
          let below : IsInside root.width (suc wanted) ipa = record { least = omega arith; most = high; below = inside.below } in
          let here : row_at (rows_in entries root) (suc wanted) ipa ≡ None =
          row_at-rows_in entries root (suc wanted) ipa below
          ∙ ap (option_and_then (λ table. Some (entries table (entry_index (suc wanted) ipa)))) (no_table entries root level ipa table wanted low (omega arith) at none) in
          step_walk (rows_in entries root) ipa wanted None here
          ∙ walk_ends entries root level wanted ipa table inside (omega arith) (omega arith) at (inr none)
    ]
