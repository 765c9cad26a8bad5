-- The proof that RMI_REALM_ACTIVATE, on the fields of an RMM, has the outcome and the effect of the model's command.
use Rattle.std.proofs.Common.{◌≡◌, ℕ, Bool, true, false, [], ◌∷◌, set, Some, Ok, Err, refl, sym, ap, ◌∙◌, subst, arith}
use Rattle.realm_model.specs.declared.states.RealmState.TheVariants.{Active}
use Rattle.realm_model.specs.Machine.{RealmRow}
use Rattle.realm_model.specs.Update.{Update, Outcome, machine_after_all}
use Rattle.realm_model.specs.Command.Check.{check, error_realm, is_new, put_realm}
use Rattle.realm_model.specs.Command.Realm.{realm_activate}
use Rattle.rmi_monitor.specs.Attributes.{RealmAttributes}
use Rattle.rtt.specs.Realm.{LeavesOthers}
use Rattle.rmi_monitor.specs.View.{MonitorView, IsTaken, seen_in, after_command}
use Rattle.rmi_monitor.specs.Inside.{Fields, realm_at, machine_of, seen_as, IsWhole}
use Rattle.rmi_monitor.proofs.Granules.{cell_is, machine_is, after_done}
use Rattle.rmi_monitor.proofs.RealmAfter.{with_row_of}
use Rattle.rmi_monitor.proofs.TableMoves.{whole_still, machine_still}
use Rattle.rmi_monitor.proofs.RealmFound.{row_of, somewhere}

-- the fields with the given attributes for the realm whose RD is `rd`
abbrev pub with_realm_at : Fields → ℕ → RealmAttributes → Fields
with_realm_at fields rd realm = record fields { realms = set fields.realms rd (Some realm) }

module _ (monitor : MonitorView) (fields : Fields) (view_is : seen_as fields ≡ monitor) (whole : IsWhole fields) (rd : ℕ) (taken : IsTaken monitor rd) where
  abbrev outcome : Outcome
  outcome = realm_activate (seen_in monitor rd)

  module _ (realm : RealmAttributes) (there : realm_at fields rd ≡ Some realm) where
    abbrev row : RealmRow
    row = row_of fields rd realm

    abbrev active : RealmAttributes
    active = record realm { state = Active }

    abbrev update : Update
    update = put_realm (seen_in monitor rd) (record row { state = Active })

    checked : (b : Bool) → is_new row.state ≡ b → outcome ≡ check b error_realm (Ok (update ∷ []))
    checked b e = somewhere monitor fields view_is whole rd realm there _ ∙ ap (λ t. check t error_realm (Ok (update ∷ []))) e

    pub activate_late : is_new row.state ≡ false → outcome ≡ Err error_realm
    unfolding check
    activate_late e = checked false e

    pub activate_done : is_new row.state ≡ true → outcome ≡ Ok (update ∷ [])
    unfolding check
    activate_done e = checked true e

    others : LeavesOthers rd fields.pages fields.granules fields.pages fields.granules
    others g differs = record { page = λ h is. refl; table = λ h is. is; «data» = λ h is. is }

    whole_active : IsWhole (with_realm_at fields rd active)
    whole_active =
        whole_still fields whole rd realm active there (record { root = refl; vmid = refl; next = omega arith }) fields.granules fields.pages fields.free refl whole.backed
        (whole.tables rd realm there) others
        refl (λ g out. refl)

    machine_active : machine_of (with_realm_at fields rd active) ≡ machine_after_all (update ∷ []) monitor.machine
    unfolding machine_after_all
    machine_active =
        machine_still fields whole rd realm active there (record { root = refl; vmid = refl; next = omega arith }) fields.granules fields.pages fields.free refl whole.backed
        (whole.tables rd realm there) others
        refl (λ g out. refl)
        ∙ ap (λ c. set (machine_of fields) rd (with_row_of c (record row { state = Active }))) (sym (cell_is monitor fields view_is whole rd taken.inside))
        ∙ ap (λ m. set m rd (with_row_of (seen_in monitor rd).cell (record row { state = Active }))) (machine_is monitor fields view_is whole)

    module _ (n : ℕ) (n_is : n ≡ rd) (now : RealmAttributes) (now_is : now ≡ active) where
      written : with_realm_at fields n now ≡ with_realm_at fields rd active
      written i = with_realm_at fields (n_is i) (now_is i)

      pub whole_after_activate : IsWhole (with_realm_at fields n now)
      whole_after_activate = subst IsWhole (sym written) whole_active

      pub seen_after_activate : is_new row.state ≡ true → seen_as (with_realm_at fields n now) ≡ after_command outcome monitor
      seen_after_activate e =
          ap seen_as written
          ∙ after_done monitor fields view_is whole (with_realm_at fields rd active) (update ∷ []) outcome (activate_done e) refl refl refl machine_active
