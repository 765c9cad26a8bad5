-- Proofs that the rows of a table of level 3 change as specified when the RIPAS of several IPA granules becomes RAM.
use Rattle.std.proofs.Common.{◌≡◌, ℕ, ◌+◌, ◌-◌, ◌*◌, ◌/◌, ◌%◌, ◌<◌, ◌≤◌, true, false, List, Option, Some, None, ◌⊎◌, inl, inr, refl, sym, ap, ◌∙◌, arith, lit≤}
use Rattle.std.specs.Prelude.{option_and_then}
use Rattle.std.specs.FinMap.{get}
use Rattle.std.proofs.lemmas.Bool.{cases_eq, cases_lt}
use Rattle.std.proofs.lemmas.Option.{same_Some}
use Rattle.granule_addr.specs.Ipa.{covered_count, first_covered, entry_index, served_count}
use Rattle.granule_addr.specs.Root.{served_space}
use Rattle.granule_addr.specs.declared.width.Root.{Root}
use Rattle.rtt.specs.Granules.{IsIn}
use Rattle.rtt.specs.declared.granule.Granule.{Granule}
use Rattle.realm_model.specs.declared.states.GranuleState.TheVariants.{Rtt as InRtt}
use Rattle.realm_model.specs.declared.states.EntryState.TheVariants.{Unassigned}
use Rattle.realm_model.specs.Rows.{Row, Rows, is_unassigned, all_rows, put_rows, as_ram, with_ram, table_of, data_of}
use Rattle.realm_model.proofs.Rows.{get-put_rows}
use Rattle.rtt.specs.Tables.{Entries, table_at, is_place, row_in, rows_in}
use Rattle.rtt.specs.Realm.{IsInside, HasGranules}
use Rattle.rtt.proofs.EntryKinds.{unassigned_kind, table_of-unassigned, data_of-unassigned}
use Rattle.rtt.proofs.PlaceLaws.{option_cases, index_below, place_facts, inside_place, is_place_from}
use Rattle.rtt.proofs.TableAt.{table_at-same, entry_at-some}
use Rattle.rtt.proofs.RowsIn.{get-rows_in, rows_in-from, row_in-place, row_in-none}
use Rattle.rtt.proofs.RowRuns.{get-put_rows_beside, all_rows_each, all_rows_true}
use Rattle.rtt.proofs.FrameLaws.{same_table_at, HasGranules-same}

module _ (entries : Entries) (root : Root) (ipa table count : ℕ) (below : ipa < served_space root.width) (at : table_at entries root 3 ipa ≡ Some table) (fits : entry_index 3 ipa + count ≤ 512) where
  abbrev start : ℕ
  start = entry_index 3 ipa

  -- page k of the run is at a place of level 3, has entry `start + k`, and is served by the table that serves the first
  -- page
  page_place : (k : ℕ) → k < count → (is_place root.width 3 (ipa + k * covered_count 3) ≡ true) × (entry_index 3 (ipa + k * covered_count 3) ≡ start + k)
      × ((ipa + k * covered_count 3) / served_count 3 ≡ ipa / served_count 3)
  page_place k few =
      let room : ipa / 1 % 512 + count ≤ 512 = fits in
      let n = ipa + k * 1 in
      let lt : ipa < served_space root.width = below in
      let inside : n < served_space root.width = omega arith in
      let first : n / 1 * 1 ≡ n = omega arith in
      let index : n / 1 % 512 ≡ ipa / 1 % 512 + k = omega arith in
      let served : n / 512 ≡ ipa / 512 = omega arith in
      (is_place_from root.width 3 n (record { least = lit≤ tt; most = lit≤ tt; below = inside }) first, index, served)

  page_table : (k : ℕ) → k < count → table_at entries root 3 (ipa + k * covered_count 3) ≡ Some table
  page_table k few = table_at-same entries root 3 (ipa + k * covered_count 3) ipa (lit≤ tt) (page_place k few).2 ∙ at

  -- The rows of the pages are the entries of the table, from that of the first page on.
  pub page_row : (k : ℕ) → k < count → get (rows_in entries root) (3, ipa + k * covered_count 3) ≡ Some (entries table (start + k))
  page_row k few =
      let n = ipa + k * covered_count 3 in
      get-rows_in entries root 3 n
      ∙ row_in-place entries root 3 n (page_place k few).0
      ∙ entry_at-some entries root 3 n table (page_table k few)
      ∙ ap (λ (j : ℕ). Some (entries table j)) (page_place k few).1

  -- All rows of the pages are UNASSIGNED if all entries of the pages are.
  pub pages_unassigned : ((k : ℕ) → k < count → is_unassigned (entries table (start + k)) ≡ true) → all_rows is_unassigned (rows_in entries root) 3 ipa count ≡ true
  pages_unassigned each = all_rows_true is_unassigned (rows_in entries root) 3 ipa count (λ k. entries table (start + k)) page_row each

  -- All entries of the pages are UNASSIGNED if all rows of the pages are.
  pub page_unassigned : all_rows is_unassigned (rows_in entries root) 3 ipa count ≡ true → (k : ℕ) → k < count → is_unassigned (entries table (start + k)) ≡ true
  page_unassigned all = all_rows_each is_unassigned (rows_in entries root) 3 ipa count (λ k. entries table (start + k)) page_row all

  module _ (new : Entries) (granules : List Granule) (rd : ℕ)
      (own : HasGranules entries granules rd root)
      (unused : (k : ℕ) → k < count → is_unassigned (entries table (start + k)) ≡ true)
      (wrote : (k : ℕ) → k < count → new table (start + k) ≡ as_ram (Some (entries table (start + k))))
      (kept : (granule index : ℕ) → IsIn granules granule InRtt (Some rd) → index < 512 → ((granule ≡ table) × (start ≤ index) × (index < start + count) → ⊥)
      → new granule index ≡ entries granule index) where
    InRun : ℕ → ℕ → Type 0
    InRun granule index = (k : ℕ) × (k < count) × (granule ≡ table) × (index ≡ start + k)

    -- an entry is one of those whose RIPAS becomes RAM, or is as it was
    entry_cases : (granule index : ℕ) → IsIn granules granule InRtt (Some rd) → index < 512 → InRun granule index ⊎ ((InRun granule index → ⊥) × (new granule index ≡ entries granule index))
    unfolding InRun
    entry_cases granule index there few =
        let beside : ((granule ≡ table) × (start ≤ index) × (index < start + count) → ⊥) → InRun granule index ⊎ ((InRun granule index → ⊥) × (new granule index ≡ entries granule index)) =
        λ out. inr (λ p. out (p.2, (let a = p.3 in omega arith), (let a = p.3 in let b = p.1 in omega arith)), kept granule index there few out) in
        elim (cases_eq granule table) [
          | inl same ↦ elim (cases_lt index start) [
            | inl before ↦ beside (λ o. let a = o.1 in omega arith)
            | inr from ↦ elim (cases_lt index (start + count)) [
              | inl within ↦ inl (index - start, omega arith, same, omega arith)
              | inr after ↦ beside (λ o. let a = o.2 in omega arith)
            ]
          ]
          | inr ne ↦ beside (λ o. ne o.0)
        ]

    still : (f : Row → Option ℕ) → ((row : Row) → row.state ≡ Unassigned → f row ≡ None) → (l i granule index : ℕ) → IsInside root.width l i → table_at entries root l i ≡ Some granule → index < 512
        → f (new granule index) ≡ f (entries granule index)
    unfolding InRun
    still f nothing l i granule index inside is few = elim (entry_cases granule index (own.tables l i granule inside is) few) [
      | inl p ↦
          let was : (entries table (start + p.0)).state ≡ Unassigned = unassigned_kind (entries table (start + p.0)) (unused p.0 p.1) in
          let now : (new table (start + p.0)).state ≡ Unassigned = ap (λ (r : Row). r.state) (wrote p.0 p.1) ∙ was in
          ap (λ (g : ℕ). f (new g index)) p.2 ∙ ap (λ (j : ℕ). f (new table j)) p.3 ∙ nothing (new table (start + p.0)) now
          ∙ sym (ap (λ (g : ℕ). f (entries g index)) p.2 ∙ ap (λ (j : ℕ). f (entries table j)) p.3 ∙ nothing (entries table (start + p.0)) was)
      | inr beside ↦ ap f beside.1
    ]

    -- the table of each level that serves an IPA granule is the same afterwards
    pub ram_tables : (l i : ℕ) → IsInside root.width l i → table_at new root l i ≡ table_at entries root l i
    ram_tables = same_table_at entries new root (still table_of table_of-unassigned)

    -- The realm owns its granules as before.
    pub ram_granules : HasGranules new granules rd root
    ram_granules = HasGranules-same entries new root (still table_of table_of-unassigned)
        (still data_of data_of-unassigned) granules granules rd (λ _ is. is) (λ _ is. is) own

    -- The rows afterwards are the rows before, with RIPAS RAM for the pages.
    pub ram_rows : rows_in new root ≡ with_ram (rows_in entries root) ipa count
    unfolding with_ram InRun
    ram_rows = rows_in-from new root _ ram_row
      where
        rows : Rows
        rows = rows_in entries root

        in_run : (l i k : ℕ) → k < count → ◌≡◌ {A = ℕ × ℕ} (l, i) (3, ipa + k * covered_count 3) → row_in new root l i ≡ get (put_rows as_ram rows 3 ipa count) (l, i)
        in_run l i k few q =
            let n = ipa + k * covered_count 3 in
            let place = page_place k few in
            let here : IsInside root.width 3 n = inside_place root.width 3 n place.0 in
            ap (λ (p : ℕ × ℕ). row_in new root p.0 p.1) q
            ∙ row_in-place new root 3 n place.0
            ∙ entry_at-some new root 3 n table (ram_tables 3 n here ∙ page_table k few)
            ∙ ap (λ (j : ℕ). Some (new table j)) place.1
            ∙ ap (λ x. Some x) (wrote k few)
            ∙ ap (λ o. Some (as_ram o)) (sym (page_row k few))
            ∙ sym (ap (get (put_rows as_ram rows 3 ipa count)) q ∙ get-put_rows as_ram rows 3 ipa count k few)

        beside : (l i : ℕ) → ((k : ℕ) → k < count → ◌≡◌ {A = ℕ × ℕ} (l, i) (3, ipa + k * covered_count 3) → ⊥) → row_in new root l i ≡ row_in entries root l i
            → row_in new root l i ≡ get (put_rows as_ram rows 3 ipa count) (l, i)
        beside l i out same = same ∙ sym (get-put_rows_beside as_ram rows 3 ipa count (l, i) out ∙ get-rows_in entries root l i)

        -- a place whose entry is entry `start + k` of the table is the place of page k
        its_place : (l i t k : ℕ) → IsInside root.width l i → first_covered l i ≡ i → table_at entries root l i ≡ Some t → t ≡ table → k < count
            → entry_index l i ≡ start + k → ◌≡◌ {A = ℕ × ℕ} (l, i) (3, ipa + k * covered_count 3)
        its_place l i t k inside first is same few index =
            let both = own.tables_once l i 3 ipa table inside (record { least = lit≤ tt; most = lit≤ tt; below = below }) (is ∙ ap (λ (g : ℕ). Some g) same) at in
            let three : l ≡ 3 = both.0 in
            let t_same : i / 512 ≡ ipa / 512 = ap (λ (n : ℕ). i / served_count n) (sym three) ∙ both.1 in
            let i_same : i / 1 % 512 ≡ ipa / 1 % 512 + k = ap (λ (n : ℕ). entry_index n i) (sym three) ∙ index in
            let at_i : i ≡ ipa + k * 1 = omega arith in
            λ j. (three j, at_i j)

        ram_row : (l i : ℕ) → row_in new root l i ≡ get (put_rows as_ram rows 3 ipa count) (l, i)
        ram_row l i = elim (is_place root.width l i) as (λ b. is_place root.width l i ≡ b → row_in new root l i ≡ get (put_rows as_ram rows 3 ipa count) (l, i)) [
          | true ↦ λ place.
              let inside = inside_place root.width l i place in
              let first = (place_facts root.width l i place).first in
              let index = entry_index l i in
              let now = ap (option_and_then (λ t. Some (new t index))) (ram_tables l i inside) in
              elim (option_cases (table_at entries root l i)) [
                | inl none ↦
                    beside l i
                    (λ k few q. let clash : None ≡ Some table = sym none ∙ ap (λ (p : ℕ × ℕ). table_at entries root p.0 p.1) q ∙ page_table k few in cc)
                    (row_in-place new root l i place ∙ now ∙ ap (option_and_then (λ t. Some (new t index))) none
                    ∙ sym (row_in-place entries root l i place ∙ ap (option_and_then (λ t. Some (entries t index))) none))
                | inr found ↦ elim (entry_cases found.0 index (own.tables l i found.0 inside found.1) (index_below l i)) [
                  | inl p ↦ in_run l i p.0 p.1 (its_place l i found.0 p.0 inside first found.1 p.2 p.1 p.3)
                  | inr same ↦
                      beside l i
                      (λ k few q. same.0 (
                        k,
                        few,
                        same_Some found.0 table (sym found.1 ∙ ap (λ (p : ℕ × ℕ). table_at entries root p.0 p.1) q ∙ page_table k few),
                        ap (λ (p : ℕ × ℕ). entry_index p.0 p.1) q ∙ (page_place k few).1,
                      ))
                      (row_in-place new root l i place ∙ entry_at-some new root l i found.0 (ram_tables l i inside ∙ found.1)
                      ∙ ap (λ x. Some x) same.1
                      ∙ sym (row_in-place entries root l i place ∙ entry_at-some entries root l i found.0 found.1))
                ]
              ]
          | false ↦ λ place.
              beside l i
              (λ k few q. let clash : false ≡ true = sym place ∙ ap (λ (p : ℕ × ℕ). is_place root.width p.0 p.1) q ∙ (page_place k few).0 in cc)
              (row_in-none new root l i place ∙ sym (row_in-none entries root l i place))
        ] refl
