-- Proofs that RMI_DATA_CREATE_UNKNOWN, on the fields of an RMM, is refused as the model says, or turns a DELEGATED
-- granule into a realm's page of zeros.
use Rattle.std.proofs.Common.{◌≡◌, ℕ, ◌&&◌, Bool, true, false, List, [], ◌∷◌, None, Ok, Err, sym, ◌∙◌}
use Rattle.std.proofs.lemmas.Bool.{and_from, and_left, and_right}
use Rattle.rtt.specs.Granules.{granule_at}
use Rattle.rtt.specs.declared.granule.Granule.{Granule}
use Rattle.granule_addr.specs.Page.{zero_page}
use Rattle.page_arena.specs.Page.{page_at}
use Rattle.realm_model.specs.declared.states.GranuleState.TheVariants.{Delegated, Data as InData, Rtt as InRtt}
use Rattle.realm_model.specs.Rows.{Row, Rows, is_unassigned, assigned, put_row}
use Rattle.realm_model.specs.Machine.{RealmRow, held}
use Rattle.realm_model.specs.Update.{Put, Outcome}
use Rattle.realm_model.specs.Command.Check.{error_input, error_rtt, is_delegated, is_protected, put_realm}
use Rattle.realm_model.specs.Command.Data.{data_create_unknown}
use Rattle.realm_model.proofs.Outcomes.{check_true}
use Rattle.rtt.specs.declared.tables.Tables.{Tables}
use Rattle.rtt.specs.Tables.{rows}
use Rattle.realm_model.specs.Command.Found.{with_free_page}
use Rattle.rmi_monitor.specs.View.{MonitorView, IsTaken, seen_in}
use Rattle.rmi_monitor.specs.Inside.{Fields}
use Rattle.rmi_monitor.specs.Located.{Locates, IsNowhere}
use Rattle.rmi_monitor.specs.Places.{is_delegated_at}
use Rattle.rmi_monitor.proofs.Checks.{delegated_state}
use Rattle.rmi_monitor.proofs.Granules.{HasFields, in_granules, seen_delegated}
use Rattle.rmi_monitor.proofs.Outcomes.{input_refused}
use Rattle.rmi_monitor.proofs.DataMaps.{MapCall, map_call_at, mapped_by}
use Rattle.rmi_monitor.proofs.Located.{Stands, stands}
use Rattle.rmi_monitor.proofs.Refusals.{Passes, passed_row, row_passes}
use Rattle.rmi_monitor.proofs.RealmCommands.{with_call, Done, rows_done}
use Rattle.rmi_monitor.proofs.RealmPlaces.{no_table}
use Rattle.rmi_monitor.proofs.RealmFound.{row_of, somewhere}

module _ (monitor : MonitorView) (rd g ipa : ℕ) where
  abbrev outcome : Outcome
  outcome = data_create_unknown (seen_in monitor rd) (seen_in monitor g) ipa

  abbrev inputs : RealmRow → Bool
  inputs row = is_delegated (seen_in monitor g) && is_protected row ipa

  pub unknown_nowhere : IsNowhere monitor.machine rd ipa → outcome ≡ Err error_input
  unknown_nowhere none = input_refused (seen_in monitor rd) inputs _ (λ row at. and_right _ _ (none row at))

  module _ {fields : Fields} (kept : HasFields monitor fields) (page_taken : IsTaken monitor g) where
    pub unknown_not_delegated : is_delegated_at fields.granules g ≡ false → outcome ≡ Err error_input
    unknown_not_delegated h =
        input_refused (seen_in monitor rd) inputs _ (λ row at. and_left _ _ (seen_delegated monitor fields kept.view_is kept.whole g page_taken ∙ h))

    module _ {at : Tables × ℕ} (here : Locates monitor.machine rd ipa at) (delegated : is_delegated_at fields.granules g ≡ true) where
      it : Stands fields rd ipa at
      it = stands kept here

      abbrev row : RealmRow
      row = row_of fields rd it.realm

      abbrev old_rows : Rows
      old_rows = rows fields.pages it.realm.root

      abbrev on_row : Row → Outcome
      on_row r = Ok (Put g (held InData rd) ∷ put_realm (seen_in monitor rd) (record row { rows = put_row old_rows 3 ipa (assigned r.ripas g) }) ∷ [])

      decided : outcome ≡ with_free_page old_rows ipa on_row
      decided =
          somewhere monitor fields kept.view_is kept.whole rd it.realm it.there _
          ∙ check_true (inputs row) error_input _ (and_from _ _ (seen_delegated monitor fields kept.view_is kept.whole g page_taken ∙ delegated) it.located.protected)

      pub unknown_refused : {l : ℕ} → ((f : Row → Outcome) → with_free_page (rows fields.pages at.0.root) at.1 f ≡ Err (error_rtt l)) → outcome ≡ Err (error_rtt l)
      unknown_refused refused = decided ∙ (λ k. with_free_page (rows fields.pages (sym it.located.tables k).root) (sym it.located.same k) on_row) ∙ refused on_row

      -- ---- the call is not refused

      module _ (taken : IsTaken monitor rd) {granules : List Granule} {pages : List (List ℕ)} {free : List Bool}
          (given : MapCall at.0 fields.pages fields.free fields.granules pages free granules g at.1 None) where
        call : MapCall (record { rd = rd; root = it.realm.root }) fields.pages fields.free fields.granules pages free granules g ipa None
        call = map_call_at it.located given

        found : Passes old_rows ipa 3 is_unassigned
        found = (passed_row old_rows ipa 3 is_unassigned on_row _ (call.answer.1 on_row)).0

        was : (granule_at fields.granules g).state ≡ Delegated
        was = delegated_state (granule_at fields.granules g).state delegated

        page_zero : page_at pages g ≡ zero_page
        page_zero =
            call.others g (no_table fields kept.whole rd it.realm it.there g (λ e. let differ : Delegated ≡ InRtt = sym was ∙ e in cc))
            ∙ (kept.whole.each g).zero was

        pub unknown_done : Done monitor outcome (with_call fields granules pages free fields.realms)
        unknown_done =
            rows_done kept taken it.there (mapped_by call (in_granules monitor fields kept.view_is kept.whole g page_taken) was)
            outcome (λ i. record (held InData rd) { bytes = page_zero i }) (call.gains found.row found.at)
            (decided ∙ row_passes old_rows ipa 3 is_unassigned on_row found)
