-- Proofs that the pages of a realm's tables are not free, and that a call which changes at most one granule keeps the
-- invariants if it keeps all realms' tables.
use Rattle.std.proofs.Common.{◌≡◌, ◌≢◌, ℕ, ◌<◌, Bool, false, set, List, length, Option, Some, inl, inr, sym, ap, ◌∙◌, arith}
use Rattle.std.proofs.lemmas.Bool.{cases_eq}
use Rattle.std.proofs.lemmas.List.{length-set, get_or-set_other}
use Rattle.granule_addr.specs.declared.width.Root.{Root}
use Rattle.rtt.specs.Granules.{granule_at, undelegated, IsIn}
use Rattle.rtt.specs.declared.granule.Granule.{Granule}
use Rattle.page_arena.specs.Page.{is_free}
use Rattle.realm_model.specs.declared.states.GranuleState.{GranuleState}
use Rattle.realm_model.specs.declared.states.GranuleState.TheVariants.{Undelegated, Delegated, Data as InData, Rtt as InRtt}
use Rattle.rtt.specs.Calls.{Keeps}
use Rattle.rtt.specs.Realm.{IsBacked, IsInside, HasTables, LeavesOthers}
use Rattle.rtt.specs.Tables.{entries_of, table_at}

-- ---- states in which a page is taken

pub delegated_used : Delegated ≢ Undelegated
delegated_used same = cc

pub data_used : InData ≢ Undelegated
data_used same = cc

pub rtt_used : InRtt ≢ Undelegated
rtt_used same = cc

module _ {pages : List (List ℕ)} {flags : List Bool} {granules : List Granule} (backed : IsBacked pages flags granules) where
  pub page_inside : {granule : ℕ} {state : GranuleState} {realm : Option ℕ} → IsIn granules granule state realm → granule < length pages
  page_inside is = let inside = is.inside in let as_many = backed.as_many in omega arith

  pub page_taken : {granule : ℕ} {state : GranuleState} {realm : Option ℕ} → IsIn granules granule state realm → state ≢ Undelegated → is_free flags granule ≡ false
  page_taken {granule = granule} is used = backed.taken granule is.inside (λ free. used (sym (ap (λ (x : Granule). x.state) is.is) ∙ free))

  pub table_taken : {rd : ℕ} {root : Root} (level ipa table : ℕ) → HasTables pages granules rd root → IsInside root.width level ipa
      → table_at (entries_of pages) root level ipa ≡ Some table → is_free flags table ≡ false
  table_taken level ipa table tables inside at = page_taken (tables.own.tables level ipa table inside at) rtt_used

  -- a table of the realm is still inside the machine and not free, if the number of pages and the free pages are
  -- unchanged
  pub table_ready : (new_pages : List (List ℕ)) (new_flags : List Bool) {rd : ℕ} {root : Root} (level ipa table : ℕ)
      → length new_pages ≡ length pages → new_flags ≡ flags → HasTables pages granules rd root → IsInside root.width level ipa
      → table_at (entries_of pages) root level ipa ≡ Some table → table < length pages → (table < length new_pages) × (is_free new_flags table ≡ false)
  table_ready new_pages new_flags level ipa table as_many same_flags tables inside at within =
      (omega arith, ap (λ f. is_free f table) same_flags ∙ table_taken level ipa table tables inside at)

  -- a table of the realm is still inside the machine and not free after a page is filled, if the free pages are
  -- unchanged
  pub table_beside : {new_pages : List (List ℕ)} {new_flags : List Bool} (page : ℕ) (bytes : List ℕ) {rd : ℕ} {root : Root} (level ipa table : ℕ)
      → new_pages ≡ set pages page bytes → new_flags ≡ flags → HasTables pages granules rd root → IsInside root.width level ipa
      → table_at (entries_of pages) root level ipa ≡ Some table → table < length pages → (table < length new_pages) × (is_free new_flags table ≡ false)
  table_beside {new_pages = new_pages} {new_flags = new_flags} page bytes level ipa table filled = table_ready new_pages new_flags level ipa table (ap length filled ∙ length-set pages page bytes)

  -- ---- what is kept

  backed_moved : (new_pages : List (List ℕ)) (new_flags : List Bool) (new_granules : List Granule) (moved : ℕ) (x : Granule) (state : GranuleState) (realm : Option ℕ)
      → length new_pages ≡ length pages → new_flags ≡ flags → IsIn granules moved state realm → state ≢ Undelegated → new_granules ≡ set granules moved x
      → IsBacked new_pages new_flags new_granules
  backed_moved new_pages new_flags new_granules moved x state realm as_many same_flags was used moves =
      let count = ap length moves ∙ length-set granules moved x in
      let were = backed.as_many in
      record {
        as_many = omega arith;
        taken = λ granule inside away.
            ap (λ f. is_free f granule) same_flags ∙ elim (cases_eq granule moved) [
              | inl same ↦ ap (is_free flags) same ∙ page_taken was used
              | inr apart ↦
                  let stays = ap (λ g. granule_at g granule) moves ∙ get_or-set_other granules moved granule x undelegated apart in
                  backed.taken granule (omega arith) (λ free. away (ap (λ (y : Granule). y.state) stays ∙ free))
            ];
      }

  pub keeps_moved : {new_pages : List (List ℕ)} {new_flags : List Bool} {new_granules : List Granule} {rd : ℕ} {root : Root} (moved : ℕ) (x : Granule) {state : GranuleState} {realm : Option ℕ}
      → length new_pages ≡ length pages → new_flags ≡ flags → IsIn granules moved state realm → state ≢ Undelegated → new_granules ≡ set granules moved x
      → HasTables new_pages new_granules rd root → LeavesOthers rd pages granules new_pages new_granules
      → Keeps rd root pages flags granules new_pages new_flags new_granules
  keeps_moved moved x as_many same_flags was used moves tables others = record {
    tables = tables;
    rest = record { backed = backed_moved _ _ _ moved x _ _ as_many same_flags was used moves; flags = same_flags; other_realms = others };
  }

  pub keeps_same : {new_pages : List (List ℕ)} {new_flags : List Bool} {rd : ℕ} {root : Root}
      → length new_pages ≡ length pages → new_flags ≡ flags → HasTables new_pages granules rd root → LeavesOthers rd pages granules new_pages granules
      → Keeps rd root pages flags granules new_pages new_flags granules
  keeps_same as_many same_flags tables others = record {
    tables = tables;
    rest = record {
      backed = record { as_many = backed.as_many ∙ sym as_many; taken = λ granule inside used. ap (λ f. is_free f granule) same_flags ∙ backed.taken granule inside used };
      flags = same_flags;
      other_realms = others;
    };
  }
