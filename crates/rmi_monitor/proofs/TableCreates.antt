-- Proofs that RMI_RTT_CREATE, on the fields of an RMM, is refused as the model says, or turns a DELEGATED granule into
-- a table of a realm.
use Rattle.std.proofs.Common.{◌≡◌, ℕ, ◌-◌, Bool, true, false, List, [], ◌∷◌, Some, Ok, Err, refl, sym, ap, ◌∙◌, subst}
use Rattle.std.specs.Prelude.{◌&&◌, not}
use Rattle.std.proofs.lemmas.Bool.{and_from, and_left, and_right}
use Rattle.rtt.specs.Granules.{granule_at}
use Rattle.rtt.specs.declared.granule.Granule.{Granule}
use Rattle.realm_model.specs.declared.states.GranuleState.TheVariants.{Rtt as InRtt}
use Rattle.realm_model.specs.Rows.{Row, Rows, is_table, is_table_place, with_table}
use Rattle.realm_model.specs.Machine.{RealmRow, held}
use Rattle.realm_model.specs.Update.{Outcome, Put}
use Rattle.realm_model.specs.Command.Check.{error_input, error_rtt, is_delegated, is_protected, put_realm}
use Rattle.realm_model.specs.Command.Table.{rtt_create}
use Rattle.realm_model.proofs.Outcomes.{check_true}
use Rattle.rtt.specs.declared.tables.Tables.{Tables}
use Rattle.rtt.specs.Tables.{rows}
use Rattle.realm_model.specs.Command.Found.{with_room_for_table}
use Rattle.rtt.specs.Calls.{with_state, ChangesTablesAnd, GainsTable, Keeps}
use Rattle.rmi_monitor.specs.Places.{is_delegated_at}
use Rattle.rmi_monitor.specs.View.{MonitorView, IsTaken, seen_in}
use Rattle.rmi_monitor.specs.Inside.{Fields}
use Rattle.rmi_monitor.specs.Located.{Locates, IsNowhere}
use Rattle.rmi_monitor.proofs.Checks.{delegated_state}
use Rattle.rmi_monitor.proofs.Granules.{HasFields, in_granules, seen_delegated}
use Rattle.rmi_monitor.proofs.TableMoves.{is_moved_state}
use Rattle.rmi_monitor.proofs.Located.{Stands, stands}
use Rattle.rmi_monitor.proofs.Refusals.{Passes, passed_row, row_passes}
use Rattle.rmi_monitor.proofs.Outcomes.{input_refused}
use Rattle.rmi_monitor.proofs.RealmFound.{row_of, somewhere}
use Rattle.rmi_monitor.proofs.RealmCommands.{with_call, Done, rows_done}

-- The postcondition of a successful call that creates a table.
pub record CreateCall (at : Tables) (table : ℕ) (pages : List (List ℕ)) (free : List Bool) (granules : List Granule)
    (new_pages : List (List ℕ)) (new_free : List Bool) (new_granules : List Granule) (ipa level : ℕ) : Type 0 where
  pub answer : (row : Row) × ((f : Row → Outcome) → with_room_for_table (rows pages at.root) ipa level f ≡ f row)
  pub gains : GainsTable (rows pages at.root) level ipa table (rows new_pages at.root)
  pub moved : new_granules ≡ with_state granules table InRtt (Some at.rd)
  pub others : ChangesTablesAnd (λ granule. granule ≡ table) at.root pages new_pages
  pub keeps : Keeps at.rd at.root pages free granules new_pages new_free new_granules

module _ (monitor : MonitorView) (rd table ipa level : ℕ) where
  abbrev outcome : Outcome
  outcome = rtt_create (seen_in monitor rd) (seen_in monitor table) ipa level

  abbrev may_be : RealmRow → Bool
  may_be row = is_delegated (seen_in monitor table) && is_table_place ipa level && is_protected row ipa

  pub create_misplaced : is_table_place ipa level ≡ false → outcome ≡ Err error_input
  create_misplaced h = input_refused (seen_in monitor rd) may_be _ (λ row at. and_left _ _ (and_right _ _ h))

  pub create_nowhere : IsNowhere monitor.machine rd ipa → outcome ≡ Err error_input
  create_nowhere none = input_refused (seen_in monitor rd) may_be _ (λ row at. and_right _ _ (none row at))

  module _ {fields : Fields} (kept : HasFields monitor fields) (table_taken : IsTaken monitor table) where
    pub create_undelegated : is_delegated_at fields.granules table ≡ false → outcome ≡ Err error_input
    create_undelegated h =
        input_refused (seen_in monitor rd) may_be _
        (λ row at. and_left _ _ (and_left _ _ (seen_delegated monitor fields kept.view_is kept.whole table table_taken ∙ h)))

    -- ---- the granule is DELEGATED, and the place is one of a table

    module _ {at : Tables × ℕ} {given_level : ℕ} (here : Locates monitor.machine rd ipa at)
        (of_level : (given_level ≡ level) × (is_table_place ipa level ≡ true)) (delegated : is_delegated_at fields.granules table ≡ true) where
      it : Stands fields rd ipa at
      it = stands kept here

      abbrev old_rows : Rows
      old_rows = rows fields.pages it.realm.root

      abbrev row : RealmRow
      row = row_of fields rd it.realm

      abbrev made : Row → Outcome
      made above =
          Ok (Put table (held InRtt rd) ∷ put_realm (seen_in monitor rd) (record row { rows = with_table old_rows level ipa table above.ripas }) ∷ [])

      looks : outcome ≡ with_room_for_table old_rows ipa level made
      looks =
          somewhere monitor fields kept.view_is kept.whole rd it.realm it.there _
          ∙ check_true (may_be row) error_input _
          (and_from _ _ (and_from _ _ (seen_delegated monitor fields kept.view_is kept.whole table table_taken ∙ delegated) of_level.1) it.located.protected)

      pub create_refused : {l : ℕ} → ((f : Row → Outcome) → with_room_for_table (rows fields.pages at.0.root) at.1 given_level f ≡ Err (error_rtt l))
          → outcome ≡ Err (error_rtt l)
      create_refused refused =
          looks
          ∙ (λ k. with_room_for_table (rows fields.pages (sym it.located.tables k).root) (sym it.located.same k) (sym of_level.0 k) made)
          ∙ refused made

      -- ---- the call is not refused

      module _ (rd_taken : IsTaken monitor rd) {granules : List Granule} {pages : List (List ℕ)} {free : List Bool}
          (given : CreateCall at.0 table fields.pages fields.free fields.granules pages free granules at.1 given_level) where
        call : CreateCall (record { rd = rd; root = it.realm.root }) table fields.pages fields.free fields.granules pages free granules ipa level
        call =
            subst (λ (to : Tables × ℕ × ℕ). CreateCall to.0 table fields.pages fields.free fields.granules pages free granules to.1 to.2)
            (λ k. (it.located.tables k, it.located.same k, of_level.0 k)) given

        passed : Passes old_rows ipa (level - 1) (λ row. not (is_table row))
        passed = (passed_row old_rows ipa (level - 1) (λ row. not (is_table row)) made _ (call.answer.1 made)).0

        pub create_done : Done monitor outcome (with_call fields granules pages free fields.realms)
        create_done =
            rows_done kept rd_taken it.there {to = record { state = InRtt; realm = Some rd }}
            (record {
              inside = in_granules monitor fields kept.view_is kept.whole table table_taken;
              was = ap is_moved_state (delegated_state (granule_at fields.granules table).state delegated);
              is = refl;
              moved = call.moved;
              host = λ e. cc;
              zero = λ e. cc;
              others = call.others;
              keeps = call.keeps;
            })
            outcome refl (call.gains passed.row passed.at)
            (looks ∙ row_passes old_rows ipa (level - 1) (λ row. not (is_table row)) made passed)
