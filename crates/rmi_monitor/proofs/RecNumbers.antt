-- The proof that the machine and the fields of an RMM agree on a realm's REC with a given number.
use Rattle.std.proofs.Common.{◌≡◌, ℕ, ◌<◌, true, List, length, get_or, Option, Some, None, option_map, refl, sym, ap, ◌∙◌, subst}
use Rattle.std.specs.Prelude.{option_and_then, is_some}
use Rattle.std.specs.FinMap.{get}
use Rattle.std.proofs.lemmas.Option.{same_Some}
use Rattle.realm_model.specs.Machine.{Cell, RealmRow}
use Rattle.rmi_monitor.specs.Attributes.{RealmAttributes, RecAttributes, rec_row}
use Rattle.rmi_monitor.specs.View.{MonitorView, rec_in}
use Rattle.rmi_monitor.specs.Inside.{Fields, realm_at, rec_at, recs_of, seen_as, IsRecAt, IsWhole}
use Rattle.rmi_monitor.proofs.Granules.{cell_is}
use Rattle.rmi_monitor.proofs.RealmFound.{row_of, descriptor_there}
use Rattle.rmi_monitor.proofs.RecEntries.{IsEntry, entry_at, rec_of-number}
use Rattle.rmi_monitor.proofs.RecReads.{its_realm}
use Rattle.rmi_monitor.proofs.Listed.{read_at}

module _ (monitor : MonitorView) (fields : Fields) (view_is : seen_as fields ≡ monitor) (whole : IsWhole fields) (rd number : ℕ) where
  -- if the fields have no REC `number` of realm `rd`, the machine has none either
  pub rec_in-none : rd < length monitor.machine → get (recs_of fields.granules fields.recs rd) number ≡ None → rec_in monitor.machine rd number ≡ None
  rec_in-none inside none =
      ap (λ (c : Cell). option_and_then (λ (realm : RealmRow). get realm.recs number) c.descriptor) (cell_is monitor fields view_is whole rd inside) ∙ by (realm_at fields rd)
    where
      by : (o : Option RealmAttributes) → option_and_then (λ (realm : RealmRow). get realm.recs number) (option_map (row_of fields rd) o) ≡ None
      by (Some realm) = none
      by None = refl

  module _ (granule : ℕ) where
    -- a REC of the fields is in the machine, in the same realm and with the same number and record
    pub rec_in-some : (rec : RecAttributes) → IsRecAt fields.granules fields.recs rd number granule → rec_at fields granule ≡ Some rec
        → rec_in monitor.machine rd number ≡ Some (rec_row granule rec)
    rec_in-some rec is at =
        let place : IsEntry fields.granules fields.recs rd granule number is.row = entry_at fields.granules rd granule fields.recs number is.row is.at in
        let of = whole.recs.of granule place.rec place.at in
        let there : realm_at fields rd ≡ Some of.realm = its_realm fields whole granule place.rec place.at rd place.of in
        let row_same : is.row ≡ rec_row granule rec = sym place.is ∙ ap (rec_row granule) (same_Some place.rec rec (sym place.at ∙ at)) in
        ap (option_and_then (λ (realm : RealmRow). get realm.recs number)) (descriptor_there monitor fields view_is whole rd of.realm there)
        ∙ is.found ∙ ap (λ r. Some r) row_same

    -- `read` is what the code reads at the granule that holds REC `number` of realm `rd`
    module _ (recs : List (Option RecAttributes)) (i : ℕ) (read : Option RecAttributes) (same : recs ≡ fields.recs)
        (is : IsRecAt fields.granules recs rd number granule) (place : i ≡ granule) (reads : read ≡ get_or fields.recs i read) where
      there : IsRecAt fields.granules fields.recs rd number granule
      there = subst (λ rs. IsRecAt fields.granules rs rd number granule) same is

      read_there : rec_at fields granule ≡ read
      read_there = read_at fields.recs i granule None read read place (subst (λ n. granule < n) (sym whole.rec_places) there.inside) reads refl

      pub rec_there : is_some read ≡ true
      rec_there =
          let entry : IsEntry fields.granules fields.recs rd granule number there.row = entry_at fields.granules rd granule fields.recs number there.row there.at in
          ap is_some (sym read_there ∙ entry.at)

      -- the REC that the code has read is REC `number` of realm `rd` in the machine
      module _ (rec : RecAttributes) (some : Some rec ≡ read) where
        pub rec_in-read : Some (rec_row granule rec) ≡ rec_in monitor.machine rd number
        rec_in-read = sym (rec_in-some rec there (read_there ∙ sym some))

        pub rec_numbered : rec.number ≡ number
        rec_numbered = rec_of-number fields.granules fields.recs rd granule rec number there.row (read_there ∙ sym some) there.at
