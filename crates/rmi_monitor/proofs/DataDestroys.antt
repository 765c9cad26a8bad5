-- Proofs that RMI_DATA_DESTROY, on the fields of an RMM, is refused as the model says, or removes a page of data from
-- its realm.
use Rattle.std.proofs.Common.{◌≡◌, ℕ, Bool, List, [], ◌∷◌, Some, None, Ok, Err, refl, sym, ap, ◌∙◌, subst, lit≤}
use Rattle.std.proofs.lemmas.Option.{same_Some}
use Rattle.rtt.specs.Granules.{IsIn}
use Rattle.rtt.specs.declared.granule.Granule.{Granule}
use Rattle.granule_addr.specs.Page.{zero_page}
use Rattle.page_arena.specs.Page.{page_at}
use Rattle.realm_model.specs.declared.states.GranuleState.TheVariants.{Delegated, Data as InData}
use Rattle.realm_model.specs.Rows.{Row, Rows, is_assigned, unassigned, unmapped_ripas, put_row}
use Rattle.realm_model.specs.Machine.{RealmRow, left}
use Rattle.realm_model.specs.Update.{Put, Outcome}
use Rattle.realm_model.specs.Command.Check.{error_input, error_rtt, is_protected, with_granule, put_realm}
use Rattle.realm_model.specs.Command.Data.{data_destroy}
use Rattle.realm_model.proofs.Outcomes.{check_true, granule_there}
use Rattle.rtt.specs.declared.tables.Tables.{Tables}
use Rattle.rtt.specs.Tables.{rows}
use Rattle.realm_model.specs.Command.Found.{with_mapped_page}
use Rattle.rtt.specs.Calls.{with_state, LeadsTo, ChangesTablesAnd, LosesPage, Keeps}
use Rattle.rmi_monitor.specs.View.{MonitorView, IsTaken, seen_in}
use Rattle.rmi_monitor.specs.Inside.{Fields}
use Rattle.rmi_monitor.specs.Located.{Locates, IsNowhere}
use Rattle.rmi_monitor.proofs.Granules.{HasFields}
use Rattle.rmi_monitor.proofs.Outcomes.{input_refused}
use Rattle.rmi_monitor.proofs.LedTo.{page_led}
use Rattle.rmi_monitor.proofs.Located.{Stands, stands}
use Rattle.rmi_monitor.proofs.Protected.{protected_inside}
use Rattle.rmi_monitor.proofs.Refusals.{Passes, passed_row, row_passes}
use Rattle.rmi_monitor.proofs.RealmCommands.{with_call, Done, left_by, rows_done}
use Rattle.rmi_monitor.proofs.RealmFound.{row_of, somewhere}

-- The postcondition of a successful call that unmaps a page of data.
pub record UnmapCall (at : Tables) (pages : List (List ℕ)) (free : List Bool) (granules : List Granule) (new_pages : List (List ℕ)) (new_free : List Bool) (new_granules : List Granule)
    (ipa : ℕ) : Type 0 where
  pub answer : (row : Row) × ((f : Row → Outcome) → with_mapped_page (rows pages at.root) ipa f ≡ f row)
  pub loses : LosesPage (rows pages at.root) ipa (rows new_pages at.root)
  pub moved : (page : ℕ) → LeadsTo (rows pages at.root) 3 ipa page → new_granules ≡ with_state granules page Delegated None
  pub cleared : (page : ℕ) → LeadsTo (rows pages at.root) 3 ipa page → page_at new_pages page ≡ zero_page
  pub others : ChangesTablesAnd (LeadsTo (rows pages at.root) 3 ipa) at.root pages new_pages
  pub keeps : Keeps at.rd at.root pages free granules new_pages new_free new_granules

module _ (monitor : MonitorView) (rd ipa : ℕ) where
  abbrev outcome : Outcome
  outcome = data_destroy (seen_in monitor rd) ipa

  pub destroy_nowhere : IsNowhere monitor.machine rd ipa → outcome ≡ Err error_input
  destroy_nowhere none = input_refused (seen_in monitor rd) (λ row. is_protected row ipa) _ none

  module _ {fields : Fields} (kept : HasFields monitor fields) {at : Tables × ℕ} (here : Locates monitor.machine rd ipa at) where
    it : Stands fields rd ipa at
    it = stands kept here

    abbrev row : RealmRow
    row = row_of fields rd it.realm

    abbrev old_rows : Rows
    old_rows = rows fields.pages it.realm.root

    abbrev on_row : Row → Outcome
    on_row r =
        with_granule r (λ granule.
        Ok (Put granule left ∷ put_realm (seen_in monitor rd) (record row { rows = put_row old_rows 3 ipa (unassigned (unmapped_ripas r.ripas)) }) ∷ []))

    decided : outcome ≡ with_mapped_page old_rows ipa on_row
    decided = somewhere monitor fields kept.view_is kept.whole rd it.realm it.there _ ∙ check_true (is_protected row ipa) error_input _ it.located.protected

    pub destroy_refused : {l : ℕ} → ((f : Row → Outcome) → with_mapped_page (rows fields.pages at.0.root) at.1 f ≡ Err (error_rtt l)) → outcome ≡ Err (error_rtt l)
    destroy_refused refused = decided ∙ (λ k. with_mapped_page (rows fields.pages (sym it.located.tables k).root) (sym it.located.same k) on_row) ∙ refused on_row

    -- ---- the call is not refused

    module _ (taken : IsTaken monitor rd) {granules : List Granule} {pages : List (List ℕ)} {free : List Bool}
        (given : UnmapCall at.0 fields.pages fields.free fields.granules pages free granules at.1) where
      call : UnmapCall (record { rd = rd; root = it.realm.root }) fields.pages fields.free fields.granules pages free granules ipa
      call =
          subst (λ (to : Tables × ℕ). UnmapCall to.0 fields.pages fields.free fields.granules pages free granules to.1)
          (λ k. (it.located.tables k, it.located.same k)) given

      found : Passes old_rows ipa 3 is_assigned
      found = (passed_row old_rows ipa 3 is_assigned (λ r. Ok []) [] (call.answer.1 (λ r. Ok []))).0

      led : (page : ℕ) × (found.row.granule ≡ Some page) × IsIn fields.granules page InData (Some rd)
      led =
          page_led fields.pages fields.granules rd it.realm.root (kept.whole.tables rd it.realm it.there) 3 ipa
          (record { least = lit≤ tt; most = lit≤ tt; below = protected_inside it.realm.root.width ipa it.located.protected }) found.row found.at found.holds

      abbrev page : ℕ
      page = led.0

      leads : LeadsTo old_rows 3 ipa page
      leads = (found.row, found.at, led.1)

      -- the IPA granule's row of level 3 leads to no granule but `page`
      leads_once : (g : ℕ) → LeadsTo old_rows 3 ipa g → g ≡ page
      leads_once g l =
          let same : l.0 ≡ found.row = same_Some l.0 found.row (sym l.1 ∙ found.at) in
          same_Some g page (sym l.2 ∙ ap (λ (r : Row). r.granule) same ∙ led.1)

      pub destroy_done : Done monitor outcome (with_call fields granules pages free fields.realms)
      destroy_done =
          rows_done kept taken it.there
          (left_by led.2 refl (call.moved page leads) (call.cleared page leads) (λ g differs. call.others g (λ l. differs (leads_once g l))) call.keeps)
          outcome (λ i. record left { bytes = call.cleared page leads i }) (call.loses found.row found.at)
          (decided ∙ row_passes old_rows ipa 3 is_assigned on_row found ∙ granule_there found.row _ page led.1)
