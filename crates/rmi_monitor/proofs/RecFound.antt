-- Proofs that an RMM's fields and its machine agree on the realm and the number of the REC in a granule.
use Rattle.std.proofs.Common.{◌≡◌, ℕ, ◌<◌, length, Some, None, Result, Err, refl, sym, ap, ◌∙◌, subst}
use Rattle.std.specs.FinMap.{get}
use Rattle.std.proofs.lemmas.Option.{same_Some, none-some}
use Rattle.rtt.specs.Granules.{granule_at}
use Rattle.realm_model.specs.declared.rmi.Rmi.{Rmi}
use Rattle.realm_model.specs.Machine.{RealmRow, RecRow, Seen}
use Rattle.realm_model.specs.Update.{Outcome}
use Rattle.realm_model.specs.Command.Check.{error_input, with_realm, with_rec}
use Rattle.realm_model.proofs.Outcomes.{rec_there}
use Rattle.rmi_monitor.specs.Attributes.{RealmAttributes, RecAttributes, rec_row}
use Rattle.rmi_monitor.specs.View.{MonitorView, IsRec, IsOnRec, Answers, seen_in, after_command}
use Rattle.rmi_monitor.specs.Inside.{Fields, realm_at, rec_at, rec_of, recs_of, seen_as, IsWhole}
use Rattle.rmi_monitor.proofs.Gathered.{get-gathered, gathered-get}
use Rattle.rmi_monitor.proofs.RealmFound.{row_of, descriptor_there, somewhere, realm_found}
use Rattle.rmi_monitor.proofs.Listed.{some_inside}
use Rattle.rmi_monitor.proofs.RecEntries.{rec_of-some, IsEntry, entry_at, numbered_recs, of_realm}

-- A granule is a REC, and belongs to a realm that exists.
pub record IsKept (fields : Fields) (granule : ℕ) (rec : RecAttributes) (rd : ℕ) (realm : RealmAttributes) : Type 0 where
  pub at : rec_at fields granule ≡ Some rec
  pub of : (granule_at fields.granules granule).realm ≡ Some rd
  pub there : realm_at fields rd ≡ Some realm

-- ---- what is inside

module _ (fields : Fields) (whole : IsWhole fields) where
  pub rec_inside : (granule : ℕ) (rec : RecAttributes) → rec_at fields granule ≡ Some rec → granule < length fields.granules
  rec_inside granule rec e = subst (λ n. granule < n) whole.rec_places (some_inside fields.recs granule rec e)

  -- a REC has a realm, which exists
  pub kept_at : (granule : ℕ) (rec : RecAttributes) (at : rec_at fields granule ≡ Some rec) → IsKept fields granule rec (whole.recs.of granule rec at).rd (whole.recs.of granule rec at).realm
  kept_at granule rec at = let is = whole.recs.of granule rec at in record { at = at; of = is.of; there = is.there }

  -- the map of a realm's RECs has the record of each REC of the realm, at the REC's number
  pub row_found : (granule : ℕ) (rec : RecAttributes) (rd : ℕ) (realm : RealmAttributes) → IsKept fields granule rec rd realm
      → get (recs_of fields.granules fields.recs rd) rec.number ≡ Some (rec_row granule rec)
  unfolding recs_of
  row_found granule rec rd realm kept =
      get-gathered (rec_of fields.granules fields.recs rd) (length fields.granules) granule rec.number (rec_row granule rec) (numbered_recs fields whole.recs rd)
      (rec_inside granule rec kept.at) (rec_of-some fields.granules fields.recs rd granule rec (of_realm fields.granules rd granule kept.of) kept.at)

-- ---- the fields and the machine

module _ (monitor : MonitorView) (fields : Fields) (view_is : seen_as fields ≡ monitor) (whole : IsWhole fields) where
  -- Each REC of the RMM's machine is kept in the RMM's fields, with the same number.
  pub rec_found : (rd number granule : ℕ) → IsRec monitor.machine rd number granule → (rec : RecAttributes) × (realm : RealmAttributes) × IsKept fields granule rec rd realm × (rec.number ≡ number)
  unfolding recs_of
  rec_found rd number granule is =
      let realm = realm_found monitor fields view_is whole rd is.realm is.there in
      let at = gathered-get (rec_of fields.granules fields.recs rd) (length fields.granules) number is.rec (ap (λ (r : RealmRow). get r.recs number) realm.2 ∙ is.numbered) in
      let place : IsEntry fields.granules fields.recs rd at.0 number is.rec = entry_at fields.granules rd at.0 fields.recs number is.rec at.2 in
      let same : at.0 ≡ granule = ap (λ (r : RecRow). r.granule) place.is ∙ is.is in (
        place.rec,
        realm.0,
        record {
          at = ap (rec_at fields) (sym same) ∙ place.at;
          of = ap (λ g. (granule_at fields.granules g).realm) (sym same) ∙ place.of;
          there = realm.1;
        },
        place.numbered,
      )

  -- if the fields have the REC, a command that needs a REC has the outcome that `f` gives for the realm's record and
  -- the REC's
  pub outcome_there : (granule : ℕ) (rec : RecAttributes) (rd : ℕ) (realm : RealmAttributes) → IsKept fields granule rec rd realm → (f : RealmRow → RecRow → Outcome)
      → with_realm (seen_in monitor rd) (λ row. with_rec row rec.number (f row)) ≡ f (row_of fields rd realm) (rec_row granule rec)
  outcome_there granule rec rd realm kept f =
      somewhere monitor fields view_is whole rd realm kept.there (λ row. with_rec row rec.number (f row))
      ∙ rec_there (row_of fields rd realm) rec.number (f (row_of fields rd realm)) (rec_row granule rec) (row_found fields whole granule rec rd realm kept)

  -- ---- the outcome of a command on a REC

  module _ (command : Seen → ℕ → Outcome) (granule : ℕ) where
    -- on a granule that holds no REC, a refusal with an input error meets `IsOnRec`, if nothing changes
    pub on_none : {A : Type 0} (new : MonitorView) → rec_at fields granule ≡ None → new ≡ monitor → IsOnRec {A = A} command monitor granule (Err error_input) new
    on_none new gone same = record {
      answer = λ rd number is. absurd (not_there rd number is);
      machine = λ rd number is. absurd (not_there rd number is);
      none = λ h. (refl, same);
    }
      where
        not_there : (rd number : ℕ) → IsRec monitor.machine rd number granule → ⊥
        not_there rd number is = let found = rec_found rd number granule is in none-some found.0 (sym gone ∙ found.2.at)

    module _ (rec : RecAttributes) (rd : ℕ) (realm : RealmAttributes) (kept : IsKept fields granule rec rd realm) where
      -- if the granule is REC `number` of realm `other` in the machine, the command has the same outcome for `other`
      -- and `number` as for `rd` and `rec.number`
      same_command : (other number : ℕ) → IsRec monitor.machine other number granule → command (seen_in monitor rd) rec.number ≡ command (seen_in monitor other) number
      same_command other number is =
          let found = rec_found other number granule is in
          let realm_same : rd ≡ other = same_Some rd other (sym kept.of ∙ found.2.of) in
          let rec_same : rec ≡ found.0 = same_Some rec found.0 (sym kept.at ∙ found.2.at) in
          let number_same : rec.number ≡ number = ap (λ (r : RecAttributes). r.number) rec_same ∙ found.3 in
          λ i. command (seen_in monitor (realm_same i)) (number_same i)

      is_rec : IsRec monitor.machine rd rec.number granule
      is_rec = record {
        realm = row_of fields rd realm;
        there = descriptor_there monitor fields view_is whole rd realm kept.there;
        rec = rec_row granule rec;
        numbered = row_found fields whole granule rec rd realm kept;
        is = refl;
      }

      pub on_rec : {A : Type 0} (result : Result A Rmi) (outcome : Outcome) (new : MonitorView) → command (seen_in monitor rd) rec.number ≡ outcome → Answers result outcome
          → new ≡ after_command outcome monitor → IsOnRec command monitor granule result new
      on_rec result outcome new comes answers changed = record {
        answer = λ other number is. subst (Answers result) (sym comes ∙ same_command other number is) answers;
        machine = λ other number is. changed ∙ ap (λ o. after_command o monitor) (sym comes ∙ same_command other number is);
        none = λ nobody. absurd (nobody rd rec.number is_rec);
      }
