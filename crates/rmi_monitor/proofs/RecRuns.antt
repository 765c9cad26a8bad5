-- Proofs that the commands that enter and stop a REC, on the fields of an RMM, are refused or succeed as the model
-- says.
use Rattle.std.proofs.Common.{◌≡◌, ℕ, ◌<◌, Bool, true, false, List, [], ◌∷◌, length, set, get_or, Ok, Err, Option, Some, None, refl, sym, ap, ◌∙◌}
use Rattle.std.specs.Prelude.{not}
use Rattle.realm_model.specs.declared.rmi.Rmi.{Rmi}
use Rattle.realm_model.specs.declared.states.RecState.TheVariants.{Ready, Running}
use Rattle.realm_model.specs.Machine.{RealmRow, RecRow, Seen}
use Rattle.realm_model.specs.Update.{Outcome}
use Rattle.realm_model.specs.Command.Check.{check, error_input, error_realm, error_rec, is_new, is_ready, put_rec}
use Rattle.realm_model.specs.Command.Rec.{rec_enter, rec_exit}
use Rattle.realm_model.proofs.Outcomes.{check_true, check_false}
use Rattle.rmi_monitor.specs.Attributes.{RealmAttributes, RecAttributes, rec_row}
use Rattle.rmi_monitor.specs.View.{MonitorView, IsOnRec, seen_in}
use Rattle.rmi_monitor.specs.Inside.{Fields, seen_as, IsWhole}
use Rattle.rmi_monitor.proofs.Granules.{HasFields}
use Rattle.rmi_monitor.proofs.RecFound.{IsKept, outcome_there, on_none, on_rec}
use Rattle.rmi_monitor.proofs.RecReads.{rec_read}
use Rattle.rmi_monitor.proofs.RecChanges.{with_recs, rec_put}
use Rattle.rmi_monitor.proofs.RealmFound.{row_of}
use Rattle.rmi_monitor.proofs.Listed.{put_back}

-- on a granule that holds no REC, a refusal with an input error meets `IsOnRec`, if what was read there is written back
pub refused_none : {A : Type 0} {monitor : MonitorView} {fields : Fields} → HasFields monitor fields → {granule : ℕ} → granule < length monitor.machine → (command : Seen → ℕ → Outcome)
    → {i : ℕ} → i ≡ granule → {x : Option RecAttributes} → x ≡ get_or fields.recs i x → x ≡ None
    → IsOnRec {A = A} command monitor granule (Err error_input) (seen_as (with_recs fields (set fields.recs i x)))
refused_none {A} {monitor} {fields} has {granule} inside command {i} same {x} read is =
    on_none monitor fields has.view_is has.whole command granule (seen_as (with_recs fields (set fields.recs i x))) (rec_read has inside same read is)
    (ap (λ rs. seen_as (with_recs fields rs)) (put_back fields.recs i x x (sym read)) ∙ has.view_is)

module _ (monitor : MonitorView) (fields : Fields) (view_is : seen_as fields ≡ monitor) (whole : IsWhole fields) (granule : ℕ)
    (recs : List (Option RecAttributes)) where
  abbrev new : MonitorView
  new = seen_as (with_recs fields recs)

  module _ (rec : RecAttributes) (rd : ℕ) (realm : RealmAttributes) (kept : IsKept fields granule rec rd realm) where
    abbrev row : RealmRow
    row = row_of fields rd realm

    abbrev rec_is : RecRow
    rec_is = rec_row granule rec

    -- a refusal that writes the REC back unchanged meets `IsOnRec`, if the command's outcome is that refusal
    refused : {A : Type 0} (command : Seen → ℕ → Outcome) (rmi : Rmi) → recs ≡ set fields.recs granule (Some rec) → command (seen_in monitor rd) rec.number ≡ Err rmi
        → IsOnRec {A = A} command monitor granule (Err rmi) new
    refused command rmi back comes =
        on_rec monitor fields view_is whole command granule rec rd realm kept (Err rmi) (Err rmi) new comes refl
        (ap (λ rs. seen_as (with_recs fields rs)) (back ∙ put_back fields.recs granule None (Some rec) kept.at) ∙ view_is)

    -- a success that changes the REC to `now`, with the same number and auxiliary granules, meets `IsOnRec`, if the
    -- command's outcome puts the REC's new row
    done : (command : Seen → ℕ → Outcome) (now : RecAttributes) → now.number ≡ rec.number → now.auxiliaries ≡ rec.auxiliaries → recs ≡ set fields.recs granule (Some now)
        → command (seen_in monitor rd) rec.number ≡ Ok (put_rec (seen_in monitor rd) row rec.number (rec_row granule now) ∷ [])
        → IsOnRec command monitor granule (Ok (tt {0})) new
    done command now number auxiliaries made comes =
        on_rec monitor fields view_is whole command granule rec rd realm kept (Ok tt) (Ok (put_rec (seen_in monitor rd) row rec.number (rec_row granule now) ∷ [])) new comes tt
        (rec_put fields whole granule rec rd realm kept now number auxiliaries recs made monitor view_is)

    -- ---- RMI_REC_ENTER

    entered : Outcome
    entered = Ok (put_rec (seen_in monitor rd) row rec.number (record rec_is { state = Running }) ∷ [])

    enter_is : rec_enter (seen_in monitor rd) rec.number ≡ check (not (is_new row.state)) error_realm (check (is_ready rec_is.state) error_rec entered)
    unfolding entered
    enter_is = outcome_there monitor fields view_is whole granule rec rd realm kept
        (λ r c. check (not (is_new r.state)) error_realm (check (is_ready c.state) error_rec (Ok (put_rec (seen_in monitor rd) r rec.number (record c { state = Running }) ∷ []))))

    -- the answer of the code's test is true exactly if the realm is NEW
    abbrev SaysNew : Bool → Type 0
    SaysNew answer = answer ≡ is_new realm.state

    says : (answer is : Bool) → SaysNew answer → answer ≡ is → is_new row.state ≡ is
    says answer is told e = sym told ∙ e

    pub enter_new : (answer : Bool) → SaysNew answer → answer ≡ true → recs ≡ set fields.recs granule (Some rec)
        → IsOnRec {A = Unit {0}} rec_enter monitor granule (Err error_realm) (seen_as (with_recs fields recs))
    enter_new answer told is back = refused rec_enter error_realm back (enter_is ∙ check_false (not (is_new row.state)) error_realm _ (ap not (says answer true told is)))

    enter_active : is_new row.state ≡ false → rec_enter (seen_in monitor rd) rec.number ≡ check (is_ready rec_is.state) error_rec entered
    enter_active is = enter_is ∙ check_true (not (is_new row.state)) error_realm _ (ap not is)

    pub enter_running : (answer : Bool) → SaysNew answer → answer ≡ false → is_ready rec_is.state ≡ false → recs ≡ set fields.recs granule (Some rec)
        → IsOnRec {A = Unit {0}} rec_enter monitor granule (Err error_rec) (seen_as (with_recs fields recs))
    enter_running answer told active running back =
        refused rec_enter error_rec back (enter_active (says answer false told active) ∙ check_false (is_ready rec_is.state) error_rec entered running)

    pub enter_done : (answer : Bool) → SaysNew answer → answer ≡ false → is_ready rec_is.state ≡ true → recs ≡ set fields.recs granule (Some (record rec { state = Running }))
        → IsOnRec rec_enter monitor granule (Ok (tt {0})) (seen_as (with_recs fields recs))
    unfolding entered
    enter_done answer told active ready made =
        done rec_enter (record rec { state = Running }) refl refl made (enter_active (says answer false told active) ∙ check_true (is_ready rec_is.state) error_rec entered ready)

    -- ---- the exit of a REC

    exited : Outcome
    exited = Ok (put_rec (seen_in monitor rd) row rec.number (record rec_is { state = Ready }) ∷ [])

    exit_is : rec_exit (seen_in monitor rd) rec.number ≡ check (not (is_ready rec_is.state)) error_rec exited
    unfolding exited
    exit_is = outcome_there monitor fields view_is whole granule rec rd realm kept
        (λ r c. check (not (is_ready c.state)) error_rec (Ok (put_rec (seen_in monitor rd) r rec.number (record c { state = Ready }) ∷ [])))

    pub exit_ready : is_ready rec_is.state ≡ true → recs ≡ set fields.recs granule (Some rec) → IsOnRec {A = Unit {0}} rec_exit monitor granule (Err error_rec) (seen_as (with_recs fields recs))
    exit_ready ready back = refused rec_exit error_rec back (exit_is ∙ check_false (not (is_ready rec_is.state)) error_rec exited (ap not ready))

    pub exit_done : is_ready rec_is.state ≡ false → recs ≡ set fields.recs granule (Some (record rec { state = Ready }))
        → IsOnRec rec_exit monitor granule (Ok (tt {0})) (seen_as (with_recs fields recs))
    unfolding exited
    exit_done running made =
        done rec_exit (record rec { state = Ready }) refl refl made (exit_is ∙ check_true (not (is_ready rec_is.state)) error_rec exited (ap not running))
