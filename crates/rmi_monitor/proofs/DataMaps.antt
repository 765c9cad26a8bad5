-- Proofs that mapping a page of data moves one granule to the realm, whether or not the page is written afterwards.
use Rattle.std.proofs.Common.{◌≡◌, ℕ, ◌<◌, Bool, List, [], length, set, Option, Some, refl, sym, ap, ◌∙◌, subst}
use Rattle.std.proofs.lemmas.List.{length-set, get_or-set_same, get_or-set_other}
use Rattle.granule_addr.specs.declared.width.Root.{Root}
use Rattle.rtt.specs.Granules.{granule_at, undelegated}
use Rattle.rtt.specs.declared.granule.Granule.{Granule}
use Rattle.page_arena.specs.Page.{page_at}
use Rattle.realm_model.specs.declared.states.GranuleState.TheVariants.{Delegated, Data as InData}
use Rattle.realm_model.specs.declared.states.Ripas.{Ripas}
use Rattle.realm_model.specs.Rows.{Row}
use Rattle.realm_model.specs.Update.{Outcome}
use Rattle.rmi_monitor.specs.Attributes.{RealmAttributes}
use Rattle.rtt.specs.declared.tables.Tables.{Tables}
use Rattle.rtt.specs.Tables.{rows}
use Rattle.rtt.specs.Realm.{IsBacked}
use Rattle.realm_model.specs.Command.Found.{with_free_page}
use Rattle.rtt.specs.Calls.{with_state, ChangesTablesOnly, GainsPage, Keeps}
use Rattle.rmi_monitor.specs.Inside.{Fields}
use Rattle.rmi_monitor.specs.Located.{IsLocated}
use Rattle.rmi_monitor.proofs.DataPages.{alone_twice, alone_written, tables_written, rows_written, backed_written}
use Rattle.rmi_monitor.proofs.TableMoves.{is_moved_state}
use Rattle.rmi_monitor.proofs.RealmCommands.{Moves}

-- `pages` has contents for each granule of `old`, if `IsBacked` holds for `pages` and for `old` with one granule
-- changed
pub still_inside : (old granules : List Granule) (g : ℕ) (to : Granule) (pages : List (List ℕ)) (free : List Bool) → granules ≡ set old g to → IsBacked pages free granules
    → (h : ℕ) → h < length old → h < length pages
still_inside old granules g to pages free moved backed h inside = subst (λ (n : ℕ). h < n) (sym (ap length moved ∙ length-set old g to) ∙ backed.as_many) inside

-- `written`, which is `pages` with one element replaced, has contents for each granule for which `pages` has contents
pub written_inside : (pages written : List (List ℕ)) (g : ℕ) (page : List ℕ) → written ≡ set pages g page → (h : ℕ) → h < length pages → h < length written
written_inside pages written g page is h inside = subst (λ (n : ℕ). h < n) (sym (ap length is ∙ length-set pages g page)) inside

-- The postcondition of a successful call that maps a page of data.
pub record MapCall (at : Tables) (pages : List (List ℕ)) (free : List Bool) (granules : List Granule) (new_pages : List (List ℕ)) (new_free : List Bool) (new_granules : List Granule)
    (page ipa : ℕ) (ripas : Option Ripas) : Type 0 where
  pub answer : (row : Row) × ((f : Row → Outcome) → with_free_page (rows pages at.root) ipa f ≡ f row)
  pub gains : GainsPage (rows pages at.root) ipa page ripas (rows new_pages at.root)
  pub moved : new_granules ≡ with_state granules page InData (Some at.rd)
  pub others : ChangesTablesOnly at.root pages new_pages
  pub keeps : Keeps at.rd at.root pages free granules new_pages new_free new_granules

-- if `MapCall` holds for the tables and the IPA granule that were located, it holds for the realm's tables and `ipa`
pub map_call_at : {realm : RealmAttributes} {rd ipa : ℕ} {at : Tables × ℕ} {pages : List (List ℕ)} {free : List Bool} {granules : List Granule}
    {new_pages : List (List ℕ)} {new_free : List Bool} {new_granules : List Granule} {page : ℕ} {ripas : Option Ripas}
    → IsLocated realm rd ipa at → MapCall at.0 pages free granules new_pages new_free new_granules page at.1 ripas
    → MapCall (record { rd = rd; root = realm.root }) pages free granules new_pages new_free new_granules page ipa ripas
map_call_at {pages = pages} {free = free} {granules = granules} {new_pages = new_pages} {new_free = new_free} {new_granules = new_granules} {page = page} {ripas = ripas} located call =
    subst (λ (to : Tables × ℕ). MapCall to.0 pages free granules new_pages new_free new_granules page to.1 ripas) (λ k. (located.tables k, located.same k)) call

-- a call that meets `MapCall` moves a DELEGATED granule to the realm, in state DATA
pub mapped_by : {fields : Fields} {rd : ℕ} {root : Root} {g ipa : ℕ} {ripas : Option Ripas} {granules : List Granule} {pages : List (List ℕ)} {free : List Bool}
    → MapCall (record { rd = rd; root = root }) fields.pages fields.free fields.granules pages free granules g ipa ripas
    → g < length fields.granules → (granule_at fields.granules g).state ≡ Delegated → Moves fields rd root g (record { state = InData; realm = Some rd }) granules pages free
mapped_by call inside was = record {
  inside = inside;
  was = ap is_moved_state was;
  is = refl;
  moved = call.moved;
  host = λ e. cc;
  zero = λ e. cc;
  others = λ h differs not_table. call.others h not_table;
  keeps = call.keeps;
}

-- granule `g` was moved to the realm in state DATA, and its contents are written afterwards
module _ (fields : Fields) (rd : ℕ) (root : Root) (g : ℕ) (granules : List Granule) (pages : List (List ℕ)) (free : List Bool)
    (map : Moves fields rd root g (record { state = InData; realm = Some rd }) granules pages free) (page : List ℕ) where
  state_now : (granule_at granules g).state ≡ InData
  state_now =
      ap (λ gs. (granule_at gs g).state) map.moved
      ∙ ap (λ (x : Granule). x.state) (get_or-set_same fields.granules g (record { state = InData; realm = Some rd }) undelegated map.inside)

  pub rows_kept : rows (set pages g page) root ≡ rows pages root
  rows_kept = rows_written pages granules g page state_now rd root map.keeps.tables

  pub page_written : page_at (set pages g page) g ≡ page
  page_written = get_or-set_same pages g page [] (subst (λ n. g < n) (sym (length_same map.moved) ∙ map.keeps.rest.backed.as_many) map.inside)
    where
      length_same : granules ≡ with_state fields.granules g InData (Some rd) → length granules ≡ length fields.granules
      length_same e = ap length e ∙ length-set fields.granules g (record { state = InData; realm = Some rd })

  pub mapped_written : Moves fields rd root g (record { state = InData; realm = Some rd }) granules (set pages g page) free
  mapped_written = record {
    inside = map.inside;
    was = map.was;
    is = map.is;
    moved = map.moved;
    host = map.host;
    zero = λ e. cc;
    others = λ h differs not_table. get_or-set_other pages g h page [] differs ∙ map.others h differs not_table;
    keeps = record {
      tables = tables_written pages granules g page state_now rd root map.keeps.tables;
      rest = record {
        backed = backed_written pages free granules g page map.keeps.rest.backed;
        flags = map.keeps.rest.flags;
        other_realms =
            λ other differs. alone_twice other fields.pages fields.granules pages granules (set pages g page) granules (map.keeps.rest.other_realms other differs)
            (alone_written pages granules g page state_now other);
      };
    };
  }
