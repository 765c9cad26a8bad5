-- Proofs that writing an entry changes no other entry of a realm's tables, except those of the table below it.
use Rattle.std.proofs.Common.{◌≡◌, ◌≢◌, ℕ, zero, suc, ◌/◌, ◌<◌, ◌≤◌, true, false, cond, List, Option, Some, None, ◌⊎◌, inl, inr, refl, sym, ap, subst, ◌∙◌, arith}
use Rattle.std.specs.Prelude.{option_and_then}
use Rattle.std.proofs.lemmas.Bool.{cases_eq}
use Rattle.std.proofs.lemmas.Option.{same_Some}
use Rattle.granule_addr.specs.Ipa.{covered_count, entry_index, served_count}
use Rattle.granule_addr.specs.Root.{start_table}
use Rattle.granule_addr.specs.declared.width.Root.{Root}
use Rattle.rtt.specs.declared.granule.Granule.{Granule}
use Rattle.realm_model.specs.declared.states.EntryState.TheVariants.{Unassigned}
use Rattle.realm_model.specs.Rows.{Row, table_of}
use Rattle.rtt.specs.Tables.{Entries, table_at, entry_at}
use Rattle.rtt.specs.Realm.{IsInside, HasGranules}
use Rattle.rtt.proofs.EntryKinds.{table_of-unassigned}
use Rattle.rtt.proofs.PlaceLaws.{option_cases, index_below, table_of_entry, index_of_entry, entry_of_index, is_under, under_cases, under_true, under_false}
use Rattle.rtt.proofs.TableAt.{table_at-next, table_at-same}

-- The entry is written in a table, in place of another. The tables below the new and the old entry, if there are such,
-- have UNASSIGNED entries alone. No other entry of the realm's tables changes, but for those of a table that is
-- removed.
pub record Writes (entries new : Entries) (root : Root) (level ipa table : ℕ) (entry : Row) : Type 0 where
  pub inside : IsInside root.width level ipa
  pub at : table_at entries root level ipa ≡ Some table
  pub wrote : new table (entry_index level ipa) ≡ entry
  pub old_below : (child index : ℕ) → level < 3 → table_of (entries table (entry_index level ipa)) ≡ Some child → index < 512 → (entries child index).state ≡ Unassigned
  pub new_below : (child index : ℕ) → level < 3 → table_of entry ≡ Some child → index < 512 → (new child index).state ≡ Unassigned
  pub kept : (other_level other other_table index : ℕ) → IsInside root.width other_level other → table_at entries root other_level other ≡ Some other_table → index < 512
      → (other_level ≡ suc level → other / covered_count level ≢ ipa / covered_count level)
      → ((other_table ≡ table) × (index ≡ entry_index level ipa) → ⊥)
      → new other_table index ≡ entries other_table index

suc_same : (a b : ℕ) → suc a ≡ suc b → a ≡ b
suc_same a b e = omega arith

none_below : (entries : Entries) (o : Option ℕ) (index : ℕ) → ((child : ℕ) → o ≡ Some child → (entries child index).state ≡ Unassigned)
    → option_and_then (λ table. table_of (entries table index)) o ≡ None
none_below entries None index h = refl
none_below entries (Some child) index h = table_of-unassigned (entries child index) (h child refl)

module _ (entries new : Entries) (granules : List Granule) (rd : ℕ) (root : Root) (level ipa table : ℕ) (entry : Row)
    (own : HasGranules entries granules rd root) (w : Writes entries new root level ipa table entry) where
  abbrev old_entry : Row
  old_entry = entries table (entry_index level ipa)

  -- the table of the written entry serves each IPA granule that the entry covers
  pub table_there : (other : ℕ) → other / covered_count level ≡ ipa / covered_count level → table_at entries root level other ≡ Some table
  table_there other same = table_at-same entries root level other ipa w.inside.most (table_of_entry level other ipa same) ∙ w.at

  -- an entry with the table and the index of the written entry has the level of that entry, and covers the same IPA
  -- granules
  pub same_entry : (other_level other other_table : ℕ) → IsInside root.width other_level other → table_at entries root other_level other ≡ Some other_table
      → other_table ≡ table → entry_index other_level other ≡ entry_index level ipa
      → (other_level ≡ level) × (other / covered_count level ≡ ipa / covered_count level)
  same_entry other_level other other_table inside at same index =
      let both = own.tables_once other_level other level ipa table inside w.inside (at ∙ ap (λ (k : ℕ). Some k) same) w.at in
      let t : other / served_count level ≡ ipa / served_count level = ap (λ (k : ℕ). other / served_count k) (sym both.0) ∙ both.1 in
      let i : entry_index level other ≡ entry_index level ipa = ap (λ (k : ℕ). entry_index k other) (sym both.0) ∙ index in
      (both.0, entry_of_index level other ipa t i)

  -- before the write, IPA granules under the entry are served at the next level by the table that the old entry leads
  -- to
  pub table_under : (other_level other : ℕ) → other_level ≡ suc level → other / covered_count level ≡ ipa / covered_count level
      → table_at entries root other_level other ≡ table_of old_entry
  table_under other_level other e same =
      ap (λ (k : ℕ). table_at entries root k other) e
      ∙ table_at-next entries root level other table w.inside.least (table_there other same)
      ∙ ap (λ (i : ℕ). table_of (entries table i)) (index_of_entry level other ipa same)

  step : (p other : ℕ) → IsInside root.width p other → p < 3 → table_at new root p other ≡ cond (is_under (suc level) level ipa p other) (table_of entry) (table_at entries root p other)
      → option_and_then (λ t. table_of (new t (entry_index p other))) (table_at new root p other)
      ≡ cond (is_under (suc level) level ipa (suc p) other) (table_of entry) (option_and_then (λ t. table_of (entries t (entry_index p other))) (table_at entries root p other))
  step p other inside high ih =
      let i = entry_index p other in
      let few : i < 512 = index_below p other in
      let was = option_and_then (λ t. table_of (entries t i)) (table_at entries root p other) in
      elim (under_cases (suc level) level ipa p other) [
        | inl u ↦
            let deep : level < 3 = let k = u.1 in omega arith in
            let after : option_and_then (λ t. table_of (new t i)) (table_at new root p other) ≡ None =
            ap (option_and_then (λ t. table_of (new t i))) (ih ∙ ap (λ b. cond b (table_of entry) (table_at entries root p other)) u.0)
            ∙ none_below new (table_of entry) i (λ child c. w.new_below child i deep c few) in
            let before : was ≡ None =
            ap (option_and_then (λ t. table_of (entries t i))) (table_under p other u.1 u.2)
            ∙ none_below entries (table_of old_entry) i (λ child c. w.old_below child i deep c few) in
            let off : is_under (suc level) level ipa (suc p) other ≡ false = under_false (suc level) level ipa (suc p) other (λ q _. let k = u.1 in omega arith) in
            after ∙ sym (ap (λ b. cond b (table_of entry) was) off ∙ before)
        | inr u ↦
            let same : table_at new root p other ≡ table_at entries root p other = ih ∙ ap (λ b. cond b (table_of entry) (table_at entries root p other)) u.0 in
            let there : suc p ≡ suc level → other / covered_count level ≡ ipa / covered_count level → table_at entries root p other ≡ Some table = λ q cov.
            ap (λ (k : ℕ). table_at entries root k other) (suc_same p level q) ∙ table_there other cov in
            elim (option_cases (table_at entries root p other)) [
              | inl none ↦
                  let off : is_under (suc level) level ipa (suc p) other ≡ false = under_false (suc level) level ipa (suc p) other (λ q cov.
                  let clash : None ≡ Some table = sym none ∙ there q cov in cc) in
                  ap (option_and_then (λ t. table_of (new t i))) (same ∙ none)
                  ∙ sym (ap (λ b. cond b (table_of entry) was) off ∙ ap (option_and_then (λ t. table_of (entries t i))) none)
              | inr found ↦
                  let beside : ((found.0 ≡ table) × (i ≡ entry_index level ipa) → ⊥) → option_and_then (λ t. table_of (new t i)) (table_at new root p other) ≡ cond
                  (is_under (suc level) level ipa (suc p) other) (table_of entry) was = λ apart.
                  let off : is_under (suc level) level ipa (suc p) other ≡ false = under_false (suc level) level ipa (suc p) other (λ q cov.
                  apart (same_Some found.0 table (sym found.1 ∙ there q cov), ap (λ (k : ℕ). entry_index k other) (suc_same p level q) ∙ index_of_entry level other ipa cov)) in
                  ap (option_and_then (λ t. table_of (new t i))) (same ∙ found.1)
                  ∙ ap table_of (w.kept p other found.0 i inside found.1 few u.1 apart)
                  ∙ sym (ap (λ b. cond b (table_of entry) was) off ∙ ap (option_and_then (λ t. table_of (entries t i))) found.1) in
                  elim (cases_eq found.0 table) [
                    | inl ge ↦ elim (cases_eq i (entry_index level ipa)) [
                      | inl ie ↦
                          let place = same_entry p other found.0 inside found.1 ge ie in
                          let on : is_under (suc level) level ipa (suc p) other ≡ true = under_true (suc level) level ipa (suc p) other (ap suc place.0) place.1 in
                          ap (option_and_then (λ t. table_of (new t i))) (same ∙ found.1)
                          ∙ ap (λ (g : ℕ). table_of (new g i)) ge
                          ∙ ap (λ (j : ℕ). table_of (new table j)) ie
                          ∙ ap table_of w.wrote
                          ∙ sym (ap (λ b. cond b (table_of entry) was) on)
                      | inr ne ↦ beside (λ s. ne s.1)
                    ]
                    | inr ne ↦ beside (λ s. ne s.0)
                  ]
            ]
      ]

  -- After the write, the table under the entry is the one that the written entry leads to, and all other tables are as
  -- they were.
  pub table_at-written : (other_level other : ℕ) → IsInside root.width other_level other
      → table_at new root other_level other ≡ cond (is_under (suc level) level ipa other_level other) (table_of entry) (table_at entries root other_level other)
  unfolding table_at
  table_at-written other_level other inside = written other_level inside.least inside.most
    where
      written : (l : ℕ) → 1 ≤ l → l ≤ 3 → table_at new root l other ≡ cond (is_under (suc level) level ipa l other) (table_of entry) (table_at entries root l other)
      written zero low high = absurd (omega arith)
      written (suc zero) low high =
          let off : is_under (suc level) level ipa 1 other ≡ false = under_false (suc level) level ipa 1 other (λ q _. let k = w.inside.least in omega arith) in
          sym (ap (λ b. cond b (table_of entry) (Some (start_table root other))) off)
      written (suc (suc l)) low high =
          step (suc l) other (record { least = omega arith; most = omega arith; below = inside.below }) (omega arith) (written (suc l) (omega arith) (omega arith))

  -- after the write, a table that serves an IPA granule is the one that the written entry leads to, or the same as
  -- before
  pub table_cases : (l i t : ℕ) → IsInside root.width l i → table_at new root l i ≡ Some t
      → ((table_of entry ≡ Some t) × (l ≡ suc level) × (i / covered_count level ≡ ipa / covered_count level))
      ⊎ ((table_at entries root l i ≡ Some t) × (l ≡ suc level → i / covered_count level ≢ ipa / covered_count level))
  table_cases l i t inside is =
      let now = table_at-written l i inside in
      elim (under_cases (suc level) level ipa l i) [
        | inl u ↦ inl (sym (now ∙ ap (λ c. cond c (table_of entry) (table_at entries root l i)) u.0) ∙ is, u.1, u.2)
        | inr u ↦ inr (sym (now ∙ ap (λ c. cond c (table_of entry) (table_at entries root l i)) u.0) ∙ is, u.1)
      ]

  -- Each entry afterwards has a property that the written entry, the entries in the table below it and the kept entries
  -- have.
  pub each_written : (P : ℕ → ℕ → Type 0) → P table (entry_index level ipa)
      → ((child index : ℕ) → level < 3 → table_of entry ≡ Some child → index < 512 → P child index)
      → ((l i t index : ℕ) → IsInside root.width l i → table_at entries root l i ≡ Some t → index < 512 → (l ≡ suc level → i / covered_count level ≢ ipa / covered_count level)
      → ((t ≡ table) × (index ≡ entry_index level ipa) → ⊥) → P t index)
      → (l i t index : ℕ) → IsInside root.width l i → table_at new root l i ≡ Some t → index < 512 → P t index
  each_written P wrote below kept l i t index inside is few = elim (table_cases l i t inside is) [
    | inl n ↦ below t index (let a = n.1 in let b = inside.most in omega arith) n.0 few
    | inr o ↦ elim (cases_eq t table) [
      | inl same ↦ elim (cases_eq index (entry_index level ipa)) [
        | inl same_index ↦ subst (λ (k : ℕ). P k index) (sym same) (subst (P table) (sym same_index) wrote)
        | inr ne ↦ kept l i t index inside o.0 few o.1 (λ s. ne s.1)
      ]
      | inr ne ↦ kept l i t index inside o.0 few o.1 (λ s. ne s.0)
    ]
  ]

  -- After the write, the written entry is at its own place, the entries under it are those of the table below it, and
  -- all others are as they were.
  pub entry_at-written : (other_level other : ℕ) → IsInside root.width other_level other
      → entry_at new root other_level other ≡ cond (is_under level level ipa other_level other) (Some entry)
      (cond (is_under (suc level) level ipa other_level other) (option_and_then (λ t. Some (new t (entry_index other_level other))) (table_of entry)) (entry_at entries root other_level other))
  entry_at-written l other inside =
      let i = entry_index l other in
      let few : i < 512 = index_below l other in
      let below = option_and_then (λ t. Some (new t i)) (table_of entry) in
      let was = entry_at entries root l other in
      let own_test = is_under level level ipa l other in
      let under_test = is_under (suc level) level ipa l other in
      let now = table_at-written l other inside in
      let there : l ≡ level → other / covered_count level ≡ ipa / covered_count level → table_at entries root l other ≡ Some table = λ q cov.
      ap (λ (k : ℕ). table_at entries root k other) q ∙ table_there other cov in
      elim (under_cases (suc level) level ipa l other) [
        | inl u ↦
            let off : own_test ≡ false = under_false level level ipa l other (λ q _. let k = u.1 in omega arith) in
            ap (option_and_then (λ t. Some (new t i))) (now ∙ ap (λ c. cond c (table_of entry) (table_at entries root l other)) u.0)
            ∙ sym (ap (λ c. cond c (Some entry) (cond under_test below was)) off ∙ ap (λ c. cond c below was) u.0)
        | inr u ↦
            let same : table_at new root l other ≡ table_at entries root l other = now ∙ ap (λ c. cond c (table_of entry) (table_at entries root l other)) u.0 in
            elim (option_cases (table_at entries root l other)) [
              | inl none ↦
                  let off : own_test ≡ false = under_false level level ipa l other (λ q cov. let clash : None ≡ Some table = sym none ∙ there q cov in cc) in
                  ap (option_and_then (λ t. Some (new t i))) (same ∙ none)
                  ∙ sym (ap (λ c. cond c (Some entry) (cond under_test below was)) off ∙ ap (λ c. cond c below was) u.0 ∙ ap (option_and_then (λ t. Some (entries t i))) none)
              | inr found ↦
                  let beside : ((found.0 ≡ table) × (i ≡ entry_index level ipa) → ⊥) → option_and_then (λ t. Some (new t i)) (table_at new root l other) ≡ cond own_test
                  (Some entry) (cond under_test below was) = λ apart.
                  let off : own_test ≡ false = under_false level level ipa l other (λ q cov.
                  apart (same_Some found.0 table (sym found.1 ∙ there q cov), ap (λ (k : ℕ). entry_index k other) q ∙ index_of_entry level other ipa cov)) in
                  ap (option_and_then (λ t. Some (new t i))) (same ∙ found.1)
                  ∙ ap (λ x. Some x) (w.kept l other found.0 i inside found.1 few u.1 apart)
                  ∙ sym (ap (λ c. cond c (Some entry) (cond under_test below was)) off ∙ ap (λ c. cond c below was) u.0 ∙ ap (option_and_then (λ t. Some (entries t i))) found.1) in
                  elim (cases_eq found.0 table) [
                    | inl ge ↦ elim (cases_eq i (entry_index level ipa)) [
                      | inl ie ↦
                          let place = same_entry l other found.0 inside found.1 ge ie in
                          let on : own_test ≡ true = under_true level level ipa l other place.0 place.1 in
                          ap (option_and_then (λ t. Some (new t i))) (same ∙ found.1)
                          ∙ ap (λ (g : ℕ). Some (new g i)) ge
                          ∙ ap (λ (j : ℕ). Some (new table j)) ie
                          ∙ ap (λ x. Some x) w.wrote
                          ∙ sym (ap (λ c. cond c (Some entry) (cond under_test below was)) on)
                      | inr ne ↦ beside (λ s. ne s.1)
                    ]
                    | inr ne ↦ beside (λ s. ne s.0)
                  ]
            ]
      ]
