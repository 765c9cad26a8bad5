-- Proofs that creating or destroying a realm's starting tables keeps the invariants, and leaves other realms unchanged.
use Rattle.std.proofs.Common.{◌≡◌, ◌≢◌, ℕ, ◌+◌, ◌-◌, ◌<◌, ◌≤◌, Bool, true, false, List, [], length, Option, Some, None, ◌⊎◌, inl, inr, refl, sym, ap, subst, ◌∙◌, arith}
use Rattle.std.specs.Prelude.{IsTrue, ◌↔◌, not}
use Rattle.std.proofs.lemmas.Bool.{cases_lt}
use Rattle.std.proofs.lemmas.Option.{same_Some}
use Rattle.granule_addr.specs.Page.{zero_page}
use Rattle.granule_addr.specs.Root.{start_count, starting_tables}
use Rattle.granule_addr.specs.declared.width.Root.{Root}
use Rattle.rtt.specs.Granules.{granule_at, undelegated, IsIn}
use Rattle.rtt.specs.declared.granule.Granule.{Granule}
use Rattle.page_arena.specs.Page.{page_at}
use Rattle.page_arena.specs.Word.{word_of_page, word_at}
use Rattle.page_arena.specs.Words.{word_of_page-zero_page}
use Rattle.realm_model.specs.declared.states.GranuleState.{GranuleState}
use Rattle.realm_model.specs.declared.states.GranuleState.TheVariants.{Undelegated, Delegated, Data as InData, Rtt as InRtt}
use Rattle.realm_model.specs.declared.states.Ripas.TheVariants.{Empty}
use Rattle.realm_model.specs.Rows.{unassigned, is_table, root_rows, has_root_table}
use Rattle.realm_model.specs.Sound.{mapping_at, IsSoundRows}
use Rattle.realm_model.specs.StepLaw.{set_each}
use Rattle.realm_model.proofs.SetEach.{length-set_each}
use Rattle.realm_model.proofs.SoundRows.{root_sound}
use Rattle.rtt.specs.Tables.{entries_of, rows_in, rows}
use Rattle.rtt.specs.Realm.{IsBacked, HasTables, LeavesOthers}
use Rattle.rtt.specs.Calls.{with_states}
use Rattle.rtt.proofs.Roots.{root_granules, root_each, blank_rows, root_table, no_root_table}
use Rattle.rtt.proofs.StartTables.{get_or-set_each_inside, get_or-set_each_beside, starts_fit}
use Rattle.rtt.proofs.Walks.{start_in}
use Rattle.rtt.proofs.Written.{IsExact, entry_read, exact_read}

-- if `answer` is true exactly when no entry of the starting tables is a TABLE entry, `answer` is the opposite of
-- `has_root_table`
pub no_table_below : (pages : List (List ℕ)) (root : Root) (answer : Bool)
    → (IsTrue answer ↔ ((number index : ℕ) → number < start_count root.width → index < 512 → is_table (entries_of pages (root.first + number) index) ≡ false))
    → answer ≡ not (has_root_table root.width (rows pages root))
unfolding rows
no_table_below pages root answer tells = by_cases answer (has_root_table root.width (rows pages root)) refl tells
  where
    by_cases : (a some : Bool) → has_root_table root.width (rows pages root) ≡ some
        → (IsTrue a ↔ ((number index : ℕ) → number < start_count root.width → index < 512 → is_table (entries_of pages (root.first + number) index) ≡ false)) → a ≡ not some
    by_cases true true e t = let found = root_table (entries_of pages) root e in let clash : true ≡ false = sym found.4 ∙ t.0 refl found.0 found.1 found.2 found.3 in cc
    by_cases true false e t = refl
    by_cases false true e t = refl
    by_cases false false e t = let clash : IsTrue false = t.1 (no_root_table (entries_of pages) root e) in cc

-- ---- all starting tables are cleared, and moved to another state

module _ (pages new_pages : List (List ℕ)) (flags : List Bool) (granules new_granules : List Granule) (root : Root) (from to : GranuleState) (realm new_realm : Option ℕ)
    (backed : IsBacked pages flags granules) (was : (number : ℕ) → number < start_count root.width → IsIn granules (root.first + number) from realm) (used : from ≢ Undelegated)
    (pages_are : new_pages ≡ set_each zero_page (starting_tables root) pages) (granules_are : new_granules ≡ with_states granules (starting_tables root) to new_realm) where
  abbrev moved : Granule
  moved = record { state = to; realm = new_realm }

  fits : root.first + start_count root.width ≤ length granules
  fits = starts_fit root (length granules) (λ number few. (was number few).inside)

  -- a granule is a starting table, or is below the first starting table, or is above the last starting table
  start_cases : (granule : ℕ) → ((number : ℕ) × (number < start_count root.width) × (granule ≡ root.first + number)) ⊎ ((granule < root.first) ⊎ (root.first + start_count root.width ≤ granule))
  start_cases granule =
      elim (cases_lt granule root.first) [
        | inl low ↦ inr (inl low)
        | inr from_first ↦ elim (cases_lt granule (root.first + start_count root.width)) [
          | inl within ↦ inl (granule - root.first, omega arith, omega arith)
          | inr past ↦ inr (inr past)
        ]
      ]

  page_count : length new_pages ≡ length pages
  page_count = ap length pages_are ∙ length-set_each zero_page (starting_tables root) pages

  granule_count : length new_granules ≡ length granules
  granule_count = ap length granules_are ∙ length-set_each moved (starting_tables root) granules

  pub page_cleared : (number : ℕ) → number < start_count root.width → page_at new_pages (root.first + number) ≡ zero_page
  unfolding starting_tables
  page_cleared number few =
      let as_many = backed.as_many in
      let all = fits in
      ap (λ (p : List (List ℕ)). page_at p (root.first + number)) pages_are
      ∙ get_or-set_each_inside zero_page root.first (start_count root.width) pages (root.first + number) [] (omega arith) (omega arith) (omega arith)

  page_beside : (granule : ℕ) → (granule < root.first) ⊎ (root.first + start_count root.width ≤ granule) → page_at new_pages granule ≡ page_at pages granule
  unfolding starting_tables
  page_beside granule out = ap (λ (p : List (List ℕ)). page_at p granule) pages_are ∙ get_or-set_each_beside zero_page root.first (start_count root.width) pages granule [] out

  granule_moved : (number : ℕ) → number < start_count root.width → granule_at new_granules (root.first + number) ≡ moved
  unfolding starting_tables
  granule_moved number few =
      ap (λ (g : List Granule). granule_at g (root.first + number)) granules_are
      ∙ get_or-set_each_inside moved root.first (start_count root.width) granules (root.first + number) undelegated (omega arith) (omega arith) fits

  granule_beside : (granule : ℕ) → (granule < root.first) ⊎ (root.first + start_count root.width ≤ granule) → granule_at new_granules granule ≡ granule_at granules granule
  unfolding starting_tables
  granule_beside granule out = ap (λ (g : List Granule). granule_at g granule) granules_are ∙ get_or-set_each_beside moved root.first (start_count root.width) granules granule undelegated out

  pub all_moved : (number : ℕ) → number < start_count root.width → IsIn new_granules (root.first + number) to new_realm
  all_moved number few = let count = granule_count in let lies = (was number few).inside in record { inside = omega arith; is = granule_moved number few }

  -- a granule keeps its bytes, its state and its realm unless it had the state and the realm of the starting tables
  granule_stays : (granule : ℕ) (state : GranuleState) (its : Option ℕ) → (IsIn granules granule from realm → ⊥) → IsIn granules granule state its
      → (page_at new_pages granule ≡ page_at pages granule) × IsIn new_granules granule state its
  granule_stays granule state its apart is =
      let lies = is.inside in
      let count = granule_count in
      elim (start_cases granule) [
        | inl start ↦ absurd (apart (subst (λ (g : ℕ). IsIn granules g from realm) (sym start.2) (was start.0 start.1)))
        | inr out ↦ (page_beside granule out, record { inside = omega arith; is = granule_beside granule out ∙ is.is })
      ]

  pub backed_after : IsBacked new_pages flags new_granules
  backed_after = record {
    as_many = granule_count ∙ backed.as_many ∙ sym page_count;
    taken = λ granule inside state.
        let count = granule_count in
        elim (start_cases granule) [
          | inl start ↦
              let there = subst (λ (g : ℕ). IsIn granules g from realm) (sym start.2) (was start.0 start.1) in
              backed.taken granule there.inside (λ free. used (sym (ap (λ (x : Granule). x.state) there.is) ∙ free))
          | inr out ↦ backed.taken granule (omega arith) (λ free. state (ap (λ (x : Granule). x.state) (granule_beside granule out) ∙ free))
        ];
  }

  pub others_after : (rd : ℕ) → ((other : ℕ) → other ≢ rd → realm ≢ Some other) → LeavesOthers rd pages granules new_pages new_granules
  others_after rd free other apart =
      let stays : (granule : ℕ) (state : GranuleState) → IsIn granules granule state (Some other) → (page_at new_pages granule ≡ page_at pages granule) × IsIn new_granules granule state (Some other) =
      λ granule state is. granule_stays granule state (Some other) (λ one. free other apart (ap (λ (x : Granule). x.realm) (sym one.is ∙ is.is))) is in
      record {
        page = λ granule is. (stays granule InRtt is).0;
        table = λ granule is. (stays granule InRtt is).1;
        «data» = λ granule is. (stays granule InData is).1;
      }

-- ---- starting tables are created

pub record Opened (pages new_pages : List (List ℕ)) (flags : List Bool) (granules new_granules : List Granule) (rd : ℕ) (root : Root) : Type 0 where
  pub rows_are : rows new_pages root ≡ root_rows root.width
  pub tables : HasTables new_pages new_granules rd root
  pub backed : IsBacked new_pages flags new_granules
  pub other_realms : LeavesOthers rd pages granules new_pages new_granules

-- DELEGATED granules that are cleared and become RTT granules are starting tables whose entries are UNASSIGNED and
-- EMPTY
pub opened : (pages new_pages : List (List ℕ)) (flags : List Bool) (granules new_granules : List Granule) (rd : ℕ) (root : Root)
    → IsBacked pages flags granules → ((number : ℕ) → number < start_count root.width → IsIn granules (root.first + number) Delegated None)
    → new_pages ≡ set_each zero_page (starting_tables root) pages → new_granules ≡ with_states granules (starting_tables root) InRtt (Some rd)
    → Opened pages new_pages flags granules new_granules rd root
unfolding rows
opened pages new_pages flags granules new_granules rd root backed was pages_are granules_are =
    let used : Delegated ≢ Undelegated = λ e. cc in
    let page : (number : ℕ) → number < start_count root.width → page_at new_pages (root.first + number) ≡ zero_page =
    page_cleared pages new_pages flags granules new_granules root Delegated InRtt None (Some rd) backed was used pages_are granules_are in
    let word : (number index : ℕ) → number < start_count root.width → index < 512 → word_at new_pages (root.first + number) index ≡ 0 =
    λ number index few within. ap (λ (p : List ℕ). word_of_page p index) (page number few) ∙ word_of_page-zero_page index within in
    let blank : (number index : ℕ) → number < start_count root.width → index < 512 → entries_of new_pages (root.first + number) index ≡ unassigned Empty =
    λ number index few within. entry_read new_pages (root.first + number) index (unassigned Empty) refl (word number index few within) in
    let rows_are : rows_in (entries_of new_pages) root ≡ root_rows root.width = blank_rows (entries_of new_pages) root blank in
    record {
      rows_are = rows_are;
      tables = record {
        own = root_granules (entries_of new_pages) root blank new_granules rd
            (all_moved pages new_pages flags granules new_granules root Delegated InRtt None (Some rd) backed was used pages_are granules_are);
        words = root_each (entries_of new_pages) root blank (IsExact new_pages)
            (λ number index few within. exact_read new_pages (root.first + number) index (unassigned Empty) refl (word number index few within));
        sound = subst (λ r. IsSoundRows root.width (mapping_at r)) (sym rows_are) (root_sound root.width);
      };
      backed = backed_after pages new_pages flags granules new_granules root Delegated InRtt None (Some rd) backed was used pages_are granules_are;
      other_realms = others_after pages new_pages flags granules new_granules root Delegated InRtt None (Some rd) backed was used pages_are granules_are rd (λ other apart e. cc);
    }

-- ---- starting tables are destroyed

pub record Closed (pages new_pages : List (List ℕ)) (flags : List Bool) (granules new_granules : List Granule) (rd : ℕ) : Type 0 where
  pub backed : IsBacked new_pages flags new_granules
  pub other_realms : LeavesOthers rd pages granules new_pages new_granules

pub closed : (pages new_pages : List (List ℕ)) (flags : List Bool) (granules new_granules : List Granule) (rd : ℕ) (root : Root)
    → IsBacked pages flags granules → HasTables pages granules rd root
    → new_pages ≡ set_each zero_page (starting_tables root) pages → new_granules ≡ with_states granules (starting_tables root) Delegated None
    → Closed pages new_pages flags granules new_granules rd
closed pages new_pages flags granules new_granules rd root backed tables pages_are granules_are =
    let used : InRtt ≢ Undelegated = λ e. cc in
    let was = start_in pages granules rd root tables in
    record {
      backed = backed_after pages new_pages flags granules new_granules root InRtt Delegated (Some rd) None backed was used pages_are granules_are;
      other_realms =
          others_after pages new_pages flags granules new_granules root InRtt Delegated (Some rd) None backed was used pages_are granules_are rd (λ other apart e. apart (sym (same_Some _ _ e)));
    }
