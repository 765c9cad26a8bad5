-- Proofs that RMI_RTT_DESTROY, on the fields of an RMM, is refused as the model says, or removes a table of a realm.
use Rattle.std.proofs.Common.{◌≡◌, ℕ, ◌-◌, Bool, true, false, List, [], ◌∷◌, Some, None, Ok, Err, refl, sym, ◌∙◌, subst, arith}
use Rattle.std.specs.Prelude.{◌&&◌}
use Rattle.std.proofs.lemmas.Bool.{and_from, and_left, and_right}
use Rattle.granule_addr.specs.Page.{zero_page}
use Rattle.rtt.specs.Granules.{IsIn}
use Rattle.rtt.specs.declared.granule.Granule.{Granule}
use Rattle.page_arena.specs.Page.{page_at}
use Rattle.realm_model.specs.declared.states.GranuleState.TheVariants.{Delegated, Rtt as InRtt}
use Rattle.realm_model.specs.Rows.{Row, Rows, is_table, is_table_place, is_table_unused, without_table}
use Rattle.realm_model.specs.Machine.{RealmRow, left}
use Rattle.realm_model.specs.Update.{Outcome, Put}
use Rattle.realm_model.specs.Command.Check.{check, error_input, error_rtt, is_protected, with_granule, put_realm}
use Rattle.realm_model.specs.Command.Table.{rtt_destroy}
use Rattle.realm_model.proofs.Outcomes.{check_true, granule_there}
use Rattle.realm_model.proofs.TablePlaces.{table_place}
use Rattle.rtt.specs.declared.tables.Tables.{Tables}
use Rattle.rtt.specs.Tables.{rows}
use Rattle.rtt.specs.Realm.{IsInside}
use Rattle.realm_model.specs.Command.Found.{with_unused_table}
use Rattle.rtt.specs.Calls.{with_state, LeadsTo, ChangesTablesOnly, Keeps}
use Rattle.rmi_monitor.specs.View.{MonitorView, IsTaken, seen_in}
use Rattle.rmi_monitor.specs.Inside.{Fields}
use Rattle.rmi_monitor.specs.Located.{Locates, IsNowhere}
use Rattle.rmi_monitor.proofs.Granules.{HasFields}
use Rattle.rmi_monitor.proofs.LedTo.{table_led}
use Rattle.rmi_monitor.proofs.Located.{Stands, stands}
use Rattle.rmi_monitor.proofs.Protected.{protected_inside}
use Rattle.rmi_monitor.proofs.Refusals.{Passes, check_done, passed_row, row_passes}
use Rattle.rmi_monitor.proofs.Outcomes.{input_refused}
use Rattle.rmi_monitor.proofs.RealmFound.{row_of, somewhere}
use Rattle.rmi_monitor.proofs.RealmCommands.{with_call, Done, left_by, rows_done}

-- The postcondition of a successful call that destroys a table.
pub record DestroyCall (at : Tables) (pages : List (List ℕ)) (free : List Bool) (granules : List Granule) (new_pages : List (List ℕ)) (new_free : List Bool) (new_granules : List Granule)
    (ipa level : ℕ) : Type 0 where
  pub answer : (row : Row) × ((f : Row → Outcome) → with_unused_table (rows pages at.root) ipa level f ≡ f row)
  pub loses : rows new_pages at.root ≡ without_table (rows pages at.root) level ipa
  pub moved : (table : ℕ) → LeadsTo (rows pages at.root) (level - 1) ipa table → new_granules ≡ with_state granules table Delegated None
  pub cleared : (table : ℕ) → LeadsTo (rows pages at.root) (level - 1) ipa table → page_at new_pages table ≡ zero_page
  pub others : ChangesTablesOnly at.root pages new_pages
  pub keeps : Keeps at.rd at.root pages free granules new_pages new_free new_granules

module _ (monitor : MonitorView) (rd ipa level : ℕ) where
  abbrev outcome : Outcome
  outcome = rtt_destroy (seen_in monitor rd) ipa level

  abbrev may_go : RealmRow → Bool
  may_go row = is_table_place ipa level && is_protected row ipa

  pub destroy_misplaced : is_table_place ipa level ≡ false → outcome ≡ Err error_input
  destroy_misplaced h = input_refused (seen_in monitor rd) may_go _ (λ row at. and_left _ _ h)

  pub destroy_nowhere : IsNowhere monitor.machine rd ipa → outcome ≡ Err error_input
  destroy_nowhere none = input_refused (seen_in monitor rd) may_go _ (λ row at. and_right _ _ (none row at))

  module _ {fields : Fields} (kept : HasFields monitor fields) {at : Tables × ℕ} {given_level : ℕ} (here : Locates monitor.machine rd ipa at)
      (of_level : (given_level ≡ level) × (is_table_place ipa level ≡ true)) where
    it : Stands fields rd ipa at
    it = stands kept here

    abbrev old_rows : Rows
    old_rows = rows fields.pages it.realm.root

    abbrev row : RealmRow
    row = row_of fields rd it.realm

    abbrev made : ℕ → Outcome
    made granule = Ok (Put granule left ∷ put_realm (seen_in monitor rd) (record row { rows = without_table old_rows level ipa }) ∷ [])

    looks : outcome ≡ with_unused_table old_rows ipa level (λ above. with_granule above made)
    looks =
        somewhere monitor fields kept.view_is kept.whole rd it.realm it.there _
        ∙ check_true (may_go row) error_input _ (and_from _ _ of_level.1 it.located.protected)

    pub destroy_refused : {l : ℕ} → ((f : Row → Outcome) → with_unused_table (rows fields.pages at.0.root) at.1 given_level f ≡ Err (error_rtt l))
        → outcome ≡ Err (error_rtt l)
    destroy_refused refused =
        looks
        ∙ (λ k. with_unused_table (rows fields.pages (sym it.located.tables k).root) (sym it.located.same k) (sym of_level.0 k) (λ above. with_granule above made))
        ∙ refused (λ above. with_granule above made)

    -- ---- the call is not refused

    module _ (taken : IsTaken monitor rd) {granules : List Granule} {pages : List (List ℕ)} {free : List Bool}
        (given : DestroyCall at.0 fields.pages fields.free fields.granules pages free granules at.1 given_level) where
      call : DestroyCall (record { rd = rd; root = it.realm.root }) fields.pages fields.free fields.granules pages free granules ipa level
      call =
          subst (λ (to : Tables × ℕ × ℕ). DestroyCall to.0 fields.pages fields.free fields.granules pages free granules to.1 to.2)
          (λ k. (it.located.tables k, it.located.same k, of_level.0 k)) given

      abbrev unused : Bool
      unused = is_table_unused old_rows level ipa

      both : (found : Passes old_rows ipa (level - 1) is_table) × (check unused (error_rtt level) (Ok []) ≡ Ok [])
      both = passed_row old_rows ipa (level - 1) is_table (λ above. check unused (error_rtt level) (Ok [])) [] (call.answer.1 (λ above. Ok []))

      passed : Passes old_rows ipa (level - 1) is_table
      passed = both.0

      above : IsInside it.realm.root.width (level - 1) ipa
      above =
          let low = (table_place ipa level of_level.1).low.0 in
          let high = (table_place ipa level of_level.1).low.1 in
          record { least = low; most = omega arith; below = protected_inside it.realm.root.width ipa it.located.protected }

      led : (table : ℕ) × (passed.row.granule ≡ Some table) × IsIn fields.granules table InRtt (Some rd)
      led =
          let low = (table_place ipa level of_level.1).low.0 in
          let high = (table_place ipa level of_level.1).low.1 in
          table_led fields.pages fields.granules rd it.realm.root (kept.whole.tables rd it.realm it.there) (level - 1) ipa above passed.row passed.at (omega arith) passed.holds

      abbrev table : ℕ
      table = led.0

      leads : LeadsTo old_rows (level - 1) ipa table
      leads = (passed.row, passed.at, led.1)

      destroyed : outcome ≡ made table
      destroyed =
          looks
          ∙ row_passes old_rows ipa (level - 1) is_table (λ above. check unused (error_rtt level) (with_granule above made)) passed
          ∙ check_true unused (error_rtt level) (with_granule passed.row made) (check_done unused (error_rtt level) (Ok []) [] both.1).0
          ∙ granule_there passed.row made table led.1

      pub destroy_done : Done monitor outcome (with_call fields granules pages free fields.realms)
      destroy_done =
          rows_done kept taken it.there
          (left_by led.2 refl (call.moved table leads) (call.cleared table leads) (λ g differs. call.others g) call.keeps)
          outcome (λ i. record left { bytes = call.cleared table leads i }) call.loses destroyed
