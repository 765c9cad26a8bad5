-- Proofs that mapping or unmapping a page of data changes one row of a realm and the state of one granule, and leaves
-- other realms unchanged.
use Rattle.std.proofs.Common.{◌≡◌, ◌≢◌, ℕ, ◌<◌, Bool, true, List, [], length, set, Some, None, refl, sym, ap, subst, ◌∙◌, arith}
use Rattle.std.proofs.lemmas.List.{length-set, get_or-set_same, get_or-set_other}
use Rattle.std.proofs.lemmas.Option.{same_Some}
use Rattle.granule_addr.specs.Ipa.{entry_index}
use Rattle.granule_addr.specs.Root.{served_space}
use Rattle.granule_addr.specs.declared.width.Root.{Root}
use Rattle.rtt.specs.Granules.{IsIn}
use Rattle.rtt.specs.declared.granule.Granule.{Granule}
use Rattle.granule_addr.specs.Page.{zero_page}
use Rattle.page_arena.specs.Page.{page_at, IsSized}
use Rattle.page_arena.specs.Word.{with_word}
use Rattle.page_arena.specs.Words.{page_at-with_word_other}
use Rattle.realm_model.specs.declared.states.GranuleState.TheVariants.{Delegated, Data as InData, Rtt as InRtt}
use Rattle.realm_model.specs.declared.states.Ripas.{Ripas}
use Rattle.realm_model.specs.Rows.{Row, row_at, unassigned, assigned, is_table, is_unassigned, put_row, unmapped_ripas, data_of}
use Rattle.realm_model.specs.Sound.{mapping_at, IsSoundRows}
use Rattle.rtt.specs.Word.{entry_word, IsEntry}
use Rattle.rtt.specs.Tables.{entries_of, table_at, rows}
use Rattle.rtt.specs.Realm.{IsBacked, IsInside, HasTables, AreWords, LeavesOthers}
use Rattle.rtt.proofs.PlaceLaws.{index_below}
use Rattle.rtt.specs.Calls.{LeadsTo, ChangesTablesOnly, ChangesTablesAnd, LosesPage}
use Rattle.rtt.proofs.EntryKinds.{unassigned_plain, data_of-leads}
use Rattle.rtt.proofs.Owned.{Moves-set, apart_states}
use Rattle.rtt.proofs.TableAt.{entry_at-some}
use Rattle.rtt.proofs.RowsIn.{row_at-rows_in}
use Rattle.rtt.proofs.Leaves.{leaf_rows, leaf_mapped, leaf_unmapped, leaf_each}
use Rattle.rtt.proofs.Walks.{page_in}
use Rattle.rtt.proofs.OtherRealms.{others_left}
use Rattle.rtt.proofs.RowShapes.{mapped_sound, unmapped_sound}
use Rattle.rtt.proofs.Written.{IsExact, same_entry, same_exact, entry_written, exact_written, word_as}

-- ---- an entry of the last level is written, in pages where the realm's tables are as they were

module _ (pages mid : List (List ℕ)) (flags : List Bool) (sized : IsSized mid flags) (granules : List Granule) (rd : ℕ) (root : Root) (ipa table : ℕ) (entry : Row)
    (tables : HasTables pages granules rd root) (below : ipa < served_space root.width) (at : table_at (entries_of pages) root 3 ipa ≡ Some table)
    (within : table < length mid) (is : IsEntry entry)
    (same : (granule : ℕ) → IsIn granules granule InRtt (Some rd) → page_at mid granule ≡ page_at pages granule) where
  abbrev pub written_pages : List (List ℕ)
  written_pages = with_word mid table (entry_index 3 ipa) (entry_word entry)

  few : entry_index 3 ipa < 512
  few = index_below 3 ipa

  pub wrote : entries_of written_pages table (entry_index 3 ipa) ≡ entry
  wrote = entry_written mid flags sized table (entry_index 3 ipa) entry within few is

  pub kept : (granule index : ℕ) → IsIn granules granule InRtt (Some rd) → index < 512 → ((granule ≡ table) × (index ≡ entry_index 3 ipa) → ⊥)
      → entries_of written_pages granule index ≡ entries_of pages granule index
  kept granule index rtt lt apart =
      same_entry pages written_pages granule index (word_as mid flags sized table (entry_index 3 ipa) entry within few is pages granule index (same granule rtt) lt apart)

  pub leaf_words : AreWords written_pages root
  leaf_words =
      leaf_each (entries_of pages) (entries_of written_pages) granules rd root ipa table entry tables.own below at wrote kept (IsExact written_pages)
      (exact_written mid flags sized table (entry_index 3 ipa) entry within few is)
      (λ l i t index inside there lt apart.
      same_exact pages written_pages t index
      (word_as mid flags sized table (entry_index 3 ipa) entry within few is pages t index (same t (tables.own.tables l i t inside there)) lt apart)
      (tables.words l i t index inside there lt))

  pub leaf_rows_are : rows written_pages root ≡ put_row (rows pages root) 3 ipa entry
  unfolding rows
  leaf_rows_are = leaf_rows (entries_of pages) (entries_of written_pages) granules rd root ipa table entry tables.own below at wrote kept

-- the entry that a walk has found at level 3 is the row that covers the IPA granule
row_found : (pages : List (List ℕ)) (root : Root) (ipa table : ℕ) (entry : Row) → IsInside root.width 3 ipa → table_at (entries_of pages) root 3 ipa ≡ Some table
    → entry ≡ entries_of pages table (entry_index 3 ipa)
    → row_at (rows pages root) 3 ipa ≡ Some entry
unfolding rows
row_found pages root ipa table entry inside at is =
    row_at-rows_in (entries_of pages) root 3 ipa inside ∙ entry_at-some (entries_of pages) root 3 ipa table at ∙ ap (λ (r : Row). Some r) (sym is)

-- ---- a page is mapped

pub record Mapped (pages new_pages : List (List ℕ)) (granules new_granules : List Granule) (rd : ℕ) (root : Root) (ipa : ℕ) (old entry : Row) : Type 0 where
  pub was : row_at (rows pages root) 3 ipa ≡ Some old
  pub rows_are : rows new_pages root ≡ put_row (rows pages root) 3 ipa entry
  pub tables : HasTables new_pages new_granules rd root
  pub others : ChangesTablesOnly root pages new_pages
  pub other_realms : LeavesOthers rd pages granules new_pages new_granules

pub mapped : (pages new_pages : List (List ℕ)) (flags : List Bool) (granules new_granules : List Granule) (rd : ℕ) (root : Root) (level ipa table index page : ℕ) (ripas : Ripas) (old row : Row)
    → IsSized pages flags → IsBacked pages flags granules → HasTables pages granules rd root
    → IsInside root.width level ipa → level ≡ 3 → table_at (entries_of pages) root level ipa ≡ Some table → table < length pages → index ≡ entry_index level ipa
    → old ≡ entries_of pages table (entry_index level ipa) → is_unassigned old ≡ true → IsIn granules page Delegated None → row ≡ assigned ripas page
    → new_pages ≡ with_word pages table index (entry_word row) → new_granules ≡ set granules page (record { state = InData; realm = Some rd })
    → Mapped pages new_pages granules new_granules rd root ipa old (assigned ripas page)
mapped pages new_pages flags granules new_granules rd root level ipa table index page ripas old row sized backed tables inside last at within index_is
    old_is free delegated row_is pages_are granules_are =
    let entry = assigned ripas page in
    let inside_last : IsInside root.width 3 ipa = subst (λ (l : ℕ). IsInside root.width l ipa) last inside in
    let below = inside.below in
    let at_last : table_at (entries_of pages) root 3 ipa ≡ Some table = ap (λ (l : ℕ). table_at (entries_of pages) root l ipa) (sym last) ∙ at in
    let is : IsEntry entry = let lies = delegated.inside in let as_many = backed.as_many in let few = sized.few_pages in omega arith in
    let index_last : index ≡ entry_index 3 ipa = index_is ∙ ap (λ (l : ℕ). entry_index l ipa) last in
    let written : new_pages ≡ with_word pages table (entry_index 3 ipa) (entry_word entry) = pages_are ∙ (λ i. with_word pages table (index_last i) (entry_word (row_is i))) in
    let after : List (List ℕ) = with_word pages table (entry_index 3 ipa) (entry_word entry) in
    let moved : List Granule = set granules page (record { state = InData; realm = Some rd }) in
    let rows_are : rows after root ≡ put_row (rows pages root) 3 ipa entry = leaf_rows_are pages pages flags sized granules rd root ipa table entry tables below at_last within is (λ _ _. refl) in
    let row_is : row_at (rows pages root) 3 ipa ≡ Some old = row_found pages root ipa table old inside_last at_last (old_is ∙ ap (λ (l : ℕ). entries_of pages table (entry_index l ipa)) last) in
    let table_in : IsIn granules table InRtt (Some rd) = tables.own.tables 3 ipa table inside_last at_last in
    let beside : (granule : ℕ) → granule ≢ table → page_at after granule ≡ page_at pages granule = λ granule apart. page_at-with_word_other pages table
    (entry_index 3 ipa) (entry_word entry) granule apart in
    rw (written, granules_are) (record {
      was = row_is;
      rows_are = rows_are;
      tables = record {
        own = leaf_mapped (entries_of pages) (entries_of after) granules rd root ipa table entry tables.own below at_last
            (wrote pages pages flags sized granules rd root ipa table entry tables below at_last within is (λ _ _. refl))
            (kept pages pages flags sized granules rd root ipa table entry tables below at_last within is (λ _ _. refl))
            moved ripas page None refl delegated (Moves-set granules page InData (Some rd) delegated.inside);
        words = leaf_words pages pages flags sized granules rd root ipa table entry tables below at_last within is (λ _ _. refl);
        sound = subst (λ r. IsSoundRows root.width (mapping_at r)) (sym rows_are) (mapped_sound (rows pages root) ipa old tables.sound row_is (unassigned_plain old free) ripas page);
      };
      others = λ granule no_table. beside granule (λ q. no_table (record { level = 3; ipa = ipa; inside = inside_last; at = at_last ∙ ap (λ (k : ℕ). Some k) (sym q) }));
      other_realms = others_left pages after granules moved rd page Delegated InData None (Some rd) delegated (λ _ _ e. cc) (Moves-set granules page InData (Some rd) delegated.inside)
          (λ granule _ no_rtt. beside granule (λ q. no_rtt (subst (λ (k : ℕ). IsIn granules k InRtt (Some rd)) (sym q) table_in)));
    })

-- ---- a page is unmapped

pub record Unmapped (pages new_pages : List (List ℕ)) (granules new_granules : List Granule) (rd : ℕ) (root : Root) (ipa : ℕ) : Type 0 where
  pub rows_are : LosesPage (rows pages root) ipa (rows new_pages root)
  pub moved : (page : ℕ) → LeadsTo (rows pages root) 3 ipa page → new_granules ≡ set granules page (record { state = Delegated; realm = None })
  pub cleared : (page : ℕ) → LeadsTo (rows pages root) 3 ipa page → page_at new_pages page ≡ zero_page
  pub tables : HasTables new_pages new_granules rd root
  pub others : ChangesTablesAnd (LeadsTo (rows pages root) 3 ipa) root pages new_pages
  pub other_realms : LeavesOthers rd pages granules new_pages new_granules

module _ (pages mid : List (List ℕ)) (flags : List Bool) (sized : IsSized mid flags) (granules : List Granule) (rd : ℕ) (root : Root) (ipa table page : ℕ) (entry : Row) (ripas : Ripas)
    (tables : HasTables pages granules rd root) (inside : IsInside root.width 3 ipa) (at : table_at (entries_of pages) root 3 ipa ≡ Some table)
    (within : table < length mid) (page_within : page < length pages) (is : entry ≡ entries_of pages table (entry_index 3 ipa)) (leads : Some page ≡ data_of entry)
    (mid_is : mid ≡ set pages page zero_page) (ripas_is : ripas ≡ unmapped_ripas entry.ripas) where
  abbrev row : Row
  row = unassigned ripas

  abbrev after : List (List ℕ)
  after = with_word mid table (entry_index 3 ipa) (entry_word row)

  lies : IsIn granules page InData (Some rd)
  lies = page_in pages granules rd root 3 ipa table page entry tables inside at is (sym leads)

  apart : (granule : ℕ) → IsIn granules granule InRtt (Some rd) → granule ≢ page
  apart granule rtt = apart_states granules granule page InRtt InData (Some rd) (Some rd) rtt lies (λ e. cc)

  far_page : (granule : ℕ) → granule ≢ page → page_at mid granule ≡ page_at pages granule
  far_page granule ne = ap (λ (p : List (List ℕ)). page_at p granule) mid_is ∙ get_or-set_other pages page granule zero_page [] ne

  same : (granule : ℕ) → IsIn granules granule InRtt (Some rd) → page_at mid granule ≡ page_at pages granule
  same granule rtt = far_page granule (apart granule rtt)

  table_in : IsIn granules table InRtt (Some rd)
  table_in = tables.own.tables 3 ipa table inside at

  row_is : row_at (rows pages root) 3 ipa ≡ Some entry
  row_is = row_found pages root ipa table entry inside at is

  its_granule : entry.granule ≡ Some page
  its_granule = ap (λ (r : Row). r.granule) (data_of-leads entry page (sym leads))

  page_is : (other : ℕ) → LeadsTo (rows pages root) 3 ipa other → page ≡ other
  page_is other there = same_Some _ _ (sym its_granule ∙ ap (λ (r : Row). r.granule) (same_Some _ _ (sym row_is ∙ there.1)) ∙ there.2)

  page_at_is : (granule : ℕ) → granule ≡ page → LeadsTo (rows pages root) 3 ipa granule
  page_at_is granule q = (entry, row_is, its_granule ∙ ap (λ (k : ℕ). Some k) (sym q))

  rows_after : rows after root ≡ put_row (rows pages root) 3 ipa row
  rows_after = leaf_rows_are pages mid flags sized granules rd root ipa table row tables inside.below at within refl same

  beside : (granule : ℕ) → granule ≢ table → granule ≢ page → page_at after granule ≡ page_at pages granule
  beside granule far other = page_at-with_word_other mid table (entry_index 3 ipa) (entry_word row) granule far ∙ far_page granule other

  pub unmapped_at : Unmapped pages after granules (set granules page (record { state = Delegated; realm = None })) rd root ipa
  unmapped_at = record {
    rows_are = λ old old_is.
        let entry_is : entry ≡ old = same_Some _ _ (sym row_is ∙ old_is) in
        rows_after
        ∙ ap (λ (r : Ripas). put_row (rows pages root) 3 ipa (unassigned r)) (ripas_is ∙ ap (λ (r : Row). unmapped_ripas r.ripas) entry_is);
    moved = λ other there. ap (λ (k : ℕ). set granules k (record { state = Delegated; realm = None })) (page_is other there);
    cleared = λ other there.
        ap (page_at after) (sym (page_is other there))
        ∙ page_at-with_word_other mid table (entry_index 3 ipa) (entry_word row) page (λ q. apart table table_in (sym q))
        ∙ ap (λ (p : List (List ℕ)). page_at p page) mid_is ∙ get_or-set_same pages page zero_page [] page_within;
    tables = record {
      own = leaf_unmapped (entries_of pages) (entries_of after) granules rd root ipa table row tables.own inside.below at
          (wrote pages mid flags sized granules rd root ipa table row tables inside.below at within refl same)
          (kept pages mid flags sized granules rd root ipa table row tables inside.below at within refl same)
          (set granules page (record { state = Delegated; realm = None })) page Delegated None refl (ap data_of (sym is) ∙ sym leads) (Moves-set granules page Delegated None lies.inside);
      words = leaf_words pages mid flags sized granules rd root ipa table row tables inside.below at within refl same;
      sound = subst (λ r. IsSoundRows root.width (mapping_at r)) (sym rows_after) (unmapped_sound (rows pages root) ipa entry tables.sound row_is (ap is_table (data_of-leads entry page (sym leads))) ripas);
    };
    others = λ granule not_page no_table.
        beside granule (λ q. no_table (record { level = 3; ipa = ipa; inside = inside; at = at ∙ ap (λ (k : ℕ). Some k) (sym q) })) (λ q. not_page (page_at_is granule q));
    other_realms = others_left pages after granules _ rd page InData Delegated (Some rd) None lies (λ other apart e. apart (sym (same_Some _ _ e))) (Moves-set granules page Delegated None lies.inside)
        (λ granule other no_rtt. beside granule (λ q. no_rtt (subst (λ (k : ℕ). IsIn granules k InRtt (Some rd)) (sym q) table_in)) other);
  }

pub ripas_after_unmap : (pages mid new_pages : List (List ℕ)) (flags mid_flags : List Bool) (granules new_granules : List Granule) (rd : ℕ) (root : Root)
    (level ipa table index page : ℕ) (entry row : Row) (ripas : Ripas)
    → IsSized mid mid_flags → IsBacked pages flags granules → HasTables pages granules rd root
    → IsInside root.width level ipa → level ≡ 3 → table_at (entries_of pages) root level ipa ≡ Some table → table < length pages → index ≡ entry_index level ipa
    → entry ≡ entries_of pages table (entry_index level ipa) → Some page ≡ data_of entry → IsIn granules page InData (Some rd) → ripas ≡ unmapped_ripas entry.ripas → row ≡ unassigned ripas
    → mid ≡ set pages page zero_page → new_pages ≡ with_word mid table index (entry_word row) → new_granules ≡ set granules page (record { state = Delegated; realm = None })
    → Unmapped pages new_pages granules new_granules rd root ipa
ripas_after_unmap pages mid new_pages flags mid_flags granules new_granules rd root level ipa table index page entry row ripas sized backed tables inside last
    at within index_is is leads lies ripas_is row_is mid_is pages_are granules_are =
    let index_last : index ≡ entry_index 3 ipa = index_is ∙ ap (λ (l : ℕ). entry_index l ipa) last in
    let written : new_pages ≡ with_word mid table (entry_index 3 ipa) (entry_word (unassigned ripas)) = pages_are ∙ (λ i. with_word mid table (index_last i) (entry_word (row_is i))) in
    let len : length mid ≡ length pages = ap length mid_is ∙ length-set pages page zero_page in
    let there = lies.inside in
    let as_many = backed.as_many in
    rw (written, granules_are)
    (unmapped_at pages mid mid_flags sized granules rd root ipa table page entry ripas tables (subst (λ (l : ℕ). IsInside root.width l ipa) last inside)
    (ap (λ (l : ℕ). table_at (entries_of pages) root l ipa) (sym last) ∙ at) (omega arith) (omega arith)
    (is ∙ ap (λ (l : ℕ). entries_of pages table (entry_index l ipa)) last) leads mid_is ripas_is)
