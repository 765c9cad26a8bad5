-- The proof that the fields of an RMM and the machine agree on the realm with a given RD.
use Rattle.std.proofs.Common.{◌≡◌, ℕ, ◌<◌, List, length, set, get_or, Option, Some, None, option_map, Err, refl, sym, ap, ◌∙◌, subst, ⊎_elim}
use Rattle.std.proofs.lemmas.Bool.{cases_lt}
use Rattle.std.proofs.lemmas.List.{get_or_past}
use Rattle.std.proofs.lemmas.Option.{none-some}
use Rattle.realm_model.specs.Machine.{Cell, RealmRow, cell_at, blank}
use Rattle.realm_model.specs.Update.{Outcome}
use Rattle.realm_model.specs.Command.Check.{error_input, with_realm}
use Rattle.realm_model.proofs.Outcomes.{realm_there}
use Rattle.rmi_monitor.specs.Attributes.{RealmAttributes, realm_row}
use Rattle.rtt.specs.Tables.{rows}
use Rattle.rmi_monitor.specs.View.{MonitorView, seen_in}
use Rattle.rmi_monitor.specs.Inside.{Fields, realm_at, recs_of, seen_as, IsWhole}
use Rattle.rmi_monitor.specs.Places.{measured_by}
use Rattle.rmi_monitor.proofs.Granules.{HasFields, as_many_granules, in_machine, cell_is}
use Rattle.rmi_monitor.proofs.Listed.{read_at}
use Rattle.rmi_monitor.proofs.Outcomes.{realm_absent}
use Rattle.rmi_monitor.proofs.RealmPlaces.{realm_inside}
use Rattle.rmi_monitor.proofs.Comparisons.{some_map}

-- a realm's record, from its attributes and from the RECs and the translation in the fields
abbrev pub row_of : Fields → ℕ → RealmAttributes → RealmRow
row_of fields rd realm = realm_row realm (recs_of fields.granules fields.recs rd) (rows fields.pages realm.root)

module _ (monitor : MonitorView) (fields : Fields) (view_is : seen_as fields ≡ monitor) (whole : IsWhole fields) (rd : ℕ) where
  -- if the fields have a realm at `rd`, the machine has the realm's descriptor there, as `row_of` gives it
  pub descriptor_there : (realm : RealmAttributes) → realm_at fields rd ≡ Some realm → (cell_at monitor.machine rd).descriptor ≡ Some (row_of fields rd realm)
  descriptor_there realm there =
      ap (λ (c : Cell). c.descriptor) (cell_is monitor fields view_is whole rd (in_machine monitor fields view_is whole rd (realm_inside fields whole rd realm there)))
      ∙ ap (option_map (row_of fields rd)) there

  -- if the machine has a realm's descriptor at `rd`, the fields have the realm there, and `row_of` gives this
  -- descriptor
  pub realm_found : (row : RealmRow) → (cell_at monitor.machine rd).descriptor ≡ Some row → (realm : RealmAttributes) × (realm_at fields rd ≡ Some realm) × (row_of fields rd realm ≡ row)
  realm_found row e = ⊎_elim
      (λ h. some_map (row_of fields rd) (realm_at fields rd) row (sym (ap (λ (c : Cell). c.descriptor) (cell_is monitor fields view_is whole rd h)) ∙ e))
      (λ h. absurd (none-some row (sym (ap (λ (c : Cell). c.descriptor) (get_or_past monitor.machine rd blank h)) ∙ e)))
      (cases_lt rd (length monitor.machine))

  -- if the fields have a realm at `rd`, a command that needs a realm has the outcome that `f` gives for this realm
  pub somewhere : (realm : RealmAttributes) → realm_at fields rd ≡ Some realm → (f : RealmRow → Outcome) → with_realm (seen_in monitor rd) f ≡ f (row_of fields rd realm)
  somewhere realm there f = realm_there (seen_in monitor rd) f (row_of fields rd realm) (descriptor_there realm there)

  module _ (inside : rd < length monitor.machine) where
    -- if the fields have no realm at the granule, a command that needs a realm is refused with an input error
    pub nowhere : realm_at fields rd ≡ None → (f : RealmRow → Outcome) → with_realm (seen_in monitor rd) f ≡ Err error_input
    nowhere none f =
        realm_absent (seen_in monitor rd) f (ap (λ (c : Cell). c.descriptor) (cell_is monitor fields view_is whole rd inside) ∙ ap (option_map (row_of fields rd)) none)

-- ---- the place, by the number that code reads it with

module _ {monitor : MonitorView} {fields : Fields} (kept : HasFields monitor fields) {rd : ℕ} (inside : rd < length monitor.machine) {n : ℕ} (same : n ≡ rd) where
  rd_place : rd < length fields.realms
  rd_place = subst (λ k. rd < k) (as_many_granules monitor fields kept.view_is kept.whole ∙ sym kept.whole.realm_places) inside

  pub realm_place : {count : ℕ} → count ≡ length fields.realms → n < count
  realm_place counted = subst (λ m. n < m) (sym counted) (subst (λ k. k < length fields.realms) (sym same) rd_place)

  pub realm_read : {x y : Option RealmAttributes} → x ≡ get_or fields.realms n x → x ≡ y → realm_at fields rd ≡ y
  realm_read {x} {y} read is = read_at fields.realms n rd None x y same rd_place read is

  -- the attributes that the code writes back are the realm's, with the measurement extended
  pub measured_there : {x now : Option RealmAttributes} → x ≡ get_or fields.realms n x → (event : List ℕ) → now ≡ option_map (measured_by event) x
      → {realm : RealmAttributes} → realm_at fields rd ≡ Some realm → set fields.realms n now ≡ set fields.realms rd (Some (measured_by event realm))
  measured_there {x} read event made there =
      λ i. set fields.realms (same i) ((made ∙ ap (option_map (measured_by event)) (sym (realm_read read refl) ∙ there)) i)
