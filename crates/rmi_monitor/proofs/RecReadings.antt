-- The proof that the fields of an RMM agree with its machine on the attributes of the REC in a granule.
use Rattle.std.proofs.Common.{◌≡◌, ℕ, Option, Some, None, option_map, refl, sym, ap, ◌∙◌}
use Rattle.std.specs.Prelude.{option_and_then}
use Rattle.std.specs.FinMap.{get}
use Rattle.std.proofs.lemmas.Option.{same_Some, none-some}
use Rattle.realm_model.specs.Machine.{RealmRow}
use Rattle.rmi_monitor.specs.Attributes.{RealmAttributes, RecAttributes, rec_row}
use Rattle.rmi_monitor.specs.View.{MonitorView, IsRec, rec_in}
use Rattle.rmi_monitor.specs.Inside.{Fields, rec_at, seen_as, IsWhole}
use Rattle.rmi_monitor.specs.Named.{rec_named, rec_attributes_of, rec_attributes_at}
use Rattle.rmi_monitor.proofs.RealmFound.{row_of, descriptor_there}
use Rattle.rmi_monitor.proofs.RecFound.{IsKept, kept_at, rec_found, row_found}
use Rattle.rmi_monitor.proofs.RecNamed.{named_some, named_none}

module _ (monitor : MonitorView) (fields : Fields) (view_is : seen_as fields ≡ monitor) (whole : IsWhole fields) (granule : ℕ) where
  -- the REC that the fields have in the granule is in the machine, with the same realm, number and record
  row_there : (rec : RecAttributes) (rd : ℕ) (realm : RealmAttributes) → IsKept fields granule rec rd realm → rec_in monitor.machine rd rec.number ≡ Some (rec_row granule rec)
  row_there rec rd realm kept =
      ap (option_and_then (λ (r : RealmRow). get r.recs rec.number)) (descriptor_there monitor fields view_is whole rd realm kept.there)
      ∙ row_found fields whole granule rec rd realm kept

  is_rec : (rec : RecAttributes) (rd : ℕ) (realm : RealmAttributes) → IsKept fields granule rec rd realm → IsRec monitor.machine rd rec.number granule
  is_rec rec rd realm kept = record {
    realm = row_of fields rd realm;
    there = descriptor_there monitor fields view_is whole rd realm kept.there;
    rec = rec_row granule rec;
    numbered = row_found fields whole granule rec rd realm kept;
    is = refl;
  }

  -- the fields and the machine have the same attributes of the REC in the granule, or both have no REC there
  pub rec_there : rec_at fields granule ≡ rec_attributes_at monitor.machine granule
  rec_there = by (rec_at fields granule) refl (rec_named monitor.machine granule) refl
    where
      by : (kept : Option RecAttributes) → rec_at fields granule ≡ kept → (named : Option (ℕ × ℕ)) → rec_named monitor.machine granule ≡ named
          → kept ≡ option_and_then (λ n. option_map (rec_attributes_of n.1) (rec_in monitor.machine n.0 n.1)) named
      by (Some rec) at (Some (rd, number)) found =
          let is = rec_found monitor fields view_is whole rd number granule (named_some monitor.machine granule rd number found) in
          let same : is.0 ≡ rec = same_Some is.0 rec (sym is.2.at ∙ at) in
          let same_number : is.0.number ≡ number = is.3 in
          sym (ap (λ n. option_map (rec_attributes_of n) (rec_in monitor.machine rd n)) (sym same_number)
          ∙ ap (option_map (rec_attributes_of is.0.number)) (row_there is.0 rd is.1 is.2)
          ∙ ap Some same)
      by (Some rec) at None found =
          let kept = kept_at fields whole granule rec at in
          absurd (named_none monitor.machine granule found (whole.recs.of granule rec at).rd rec.number (is_rec rec _ _ kept))
      by None at (Some (rd, number)) found =
          let is = rec_found monitor fields view_is whole rd number granule (named_some monitor.machine granule rd number found) in
          absurd (none-some is.0 (sym at ∙ is.2.at))
      by None at None found = refl
