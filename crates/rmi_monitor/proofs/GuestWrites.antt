-- Proofs of the cases in which a guest's write is refused, and of the effect that an accepted write has on the fields
-- of an RMM.
use Rattle.std.proofs.Common.{◌≡◌, ℕ, Bool, true, false, List, [], ◌∷◌, Ok, Err, Some, None, refl, sym, ap, ◌∙◌, subst}
use Rattle.std.specs.Prelude.{not}
use Rattle.granule_addr.specs.Ipa.{is_protected_at}
use Rattle.rtt.specs.Granules.{IsIn}
use Rattle.page_arena.specs.Page.{with_byte}
use Rattle.realm_model.specs.declared.rmi.Rmi.{Rmi}
use Rattle.realm_model.specs.declared.states.GranuleState.TheVariants.{Data as InData}
use Rattle.realm_model.specs.Rows.{Row, Walk, walk, is_assigned, data_of}
use Rattle.realm_model.specs.Machine.{RealmRow, RecRow, Seen}
use Rattle.realm_model.specs.Update.{Outcome, PutByte}
use Rattle.realm_model.specs.Command.Check.{check, error_input, error_rec, error_rtt, is_ready, with_end, with_granule}
use Rattle.realm_model.specs.Command.Rec.{guest_write}
use Rattle.realm_model.proofs.Outcomes.{check_true, end_there, granule_there, check_false}
use Rattle.realm_model.proofs.Walks.{walk_end}
use Rattle.rmi_monitor.specs.Attributes.{RealmAttributes, RecAttributes, rec_row}
use Rattle.rtt.specs.declared.tables.Tables.{Tables}
use Rattle.rtt.specs.Word.{IsEntry}
use Rattle.rtt.specs.Tables.{rows}
use Rattle.rtt.proofs.EntryKinds.{data_of-none, data_of-leads}
use Rattle.rtt.proofs.RowWords.{rows_said}
use Rattle.rmi_monitor.specs.View.{MonitorView, IsOnRec, seen_in}
use Rattle.rmi_monitor.specs.Inside.{Fields, seen_as, IsWhole}
use Rattle.rmi_monitor.specs.Located.{IsLocated}
use Rattle.rmi_monitor.proofs.DataBytes.{byte_put}
use Rattle.rmi_monitor.proofs.RecFound.{IsKept, outcome_there, on_rec}
use Rattle.rmi_monitor.proofs.RealmFound.{row_of}

module _ (monitor : MonitorView) (fields : Fields) (view_is : seen_as fields ≡ monitor) (whole : IsWhole fields) (granule : ℕ)
    (rec : RecAttributes) (rd : ℕ) (realm : RealmAttributes) (kept : IsKept fields granule rec rd realm) (ipa offset value : ℕ) where
  abbrev command : Seen → ℕ → Outcome
  command seen number = guest_write seen number ipa offset value

  -- the outcome of a guest's write whose walk ends in the given row, if the row is ASSIGNED
  abbrev written_at : Row → Outcome
  written_at row = with_granule row (λ page. Ok (PutByte page offset value ∷ []))

  abbrev after_walk : Walk → Outcome
  after_walk end = check (is_assigned end.row) (error_rtt end.level) (written_at end.row)

  abbrev after_protected : RealmRow → RecRow → Outcome
  after_protected row rec_is = check (not (is_ready rec_is.state)) error_rec (with_end row.rows ipa 3 after_walk)

  abbrev here : Outcome
  here = after_protected (row_of fields rd realm) (rec_row granule rec)

  write_is : command (seen_in monitor rd) rec.number ≡ check (is_protected_at ipa realm.root.width) error_input here
  write_is = outcome_there monitor fields view_is whole granule rec rd realm kept (λ row rec_is. check (is_protected_at ipa row.root.width) error_input (after_protected row rec_is))

  refused : (rmi : Rmi) → command (seen_in monitor rd) rec.number ≡ Err rmi
      → IsOnRec {A = Unit {0}} (λ seen number. guest_write seen number ipa offset value) monitor granule (Err rmi) monitor
  refused rmi comes = on_rec monitor fields view_is whole command granule rec rd realm kept (Err rmi) (Err rmi) monitor comes refl refl

  pub write_unprotected : is_protected_at ipa realm.root.width ≡ false → IsOnRec {A = Unit {0}} (λ seen number. guest_write seen number ipa offset value) monitor granule (Err error_input) monitor
  write_unprotected is = refused error_input (write_is ∙ check_false (is_protected_at ipa realm.root.width) error_input here is)

  module _ {at : Tables × ℕ} (located : IsLocated realm rd ipa at) where
    protected : is_protected_at ipa realm.root.width ≡ true
    protected = located.protected

    pub write_ready : is_ready rec.state ≡ true → IsOnRec {A = Unit {0}} (λ seen number. guest_write seen number ipa offset value) monitor granule (Err error_rec) monitor
    write_ready ready =
        refused error_rec (write_is ∙ check_true (is_protected_at ipa realm.root.width) error_input here protected ∙ check_false (not (is_ready rec.state)) error_rec _ (ap not ready))

    module _ (running : is_ready rec.state ≡ false) {to : ℕ} (last : to ≡ 3) (end : Walk) (given_ends : walk (rows fields.pages at.0.root) at.1 to ≡ Some end) where
      ends : walk (rows fields.pages realm.root) ipa 3 ≡ Some end
      ends = (λ k. walk (rows fields.pages (sym located.tables k).root) (sym located.same k) (sym last k)) ∙ given_ends

      write_walks : command (seen_in monitor rd) rec.number ≡ after_walk end
      write_walks =
          write_is ∙ check_true (is_protected_at ipa realm.root.width) error_input here protected ∙ check_true (not (is_ready rec.state)) error_rec _ (ap not running)
          ∙ end_there (rows fields.pages realm.root) ipa 3 after_walk end ends

      said : IsEntry end.row
      said = rows_said fields.pages realm.root end.level ipa end.row (walk_end (rows fields.pages realm.root) ipa 3 end ends)

      pub write_unassigned : (rmi : Rmi) → rmi ≡ error_rtt end.level → data_of end.row ≡ None
          → IsOnRec {A = Unit {0}} (λ seen number. guest_write seen number ipa offset value) monitor granule (Err rmi) monitor
      write_unassigned rmi is none =
          refused rmi
          (write_walks ∙ check_false (is_assigned end.row) (error_rtt end.level) _ (data_of-none end.row said none) ∙ ap (λ (r : Rmi). Err r) (sym is))

      pub write_done : (page : ℕ) → data_of end.row ≡ Some page → IsIn fields.granules page InData (Some at.0.rd)
          → (pages : List (List ℕ)) (free : List Bool) → pages ≡ with_byte fields.pages page offset value → free ≡ fields.free
          → IsOnRec (λ seen number. guest_write seen number ipa offset value) monitor granule (Ok (tt {0})) (seen_as (record fields { pages = pages; free = free }))
      write_done page leads is pages free written same =
          let row = data_of-leads end.row page leads in
          on_rec monitor fields view_is whole command granule rec rd realm kept (Ok tt) (Ok (PutByte page offset value ∷ [])) _
          (write_walks ∙ check_true (is_assigned end.row) (error_rtt end.level) _ (ap is_assigned row)
          ∙ granule_there end.row (λ g. Ok (PutByte g offset value ∷ [])) page (ap (λ (r : Row). r.granule) row))
          tt
          (byte_put fields whole rd page offset value (subst (λ (t : Tables). IsIn fields.granules page InData (Some t.rd)) located.tables is) pages free written same monitor view_is)
