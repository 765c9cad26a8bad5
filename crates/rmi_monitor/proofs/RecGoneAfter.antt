-- Proofs that the removal of a REC preserves the invariant of an RMM's fields, and changes the machine as the model's
-- RMI_REC_DESTROY does.
use Rattle.std.proofs.Common.{◌≡◌, ◌≢◌, ℕ, ◌-◌, ◌<◌, true, false, List, [], ◌∷◌, ◌++◌, length, map, Some, None, refl, sym, ap, ◌∙◌, subst}
use Rattle.std.specs.Prelude.{◌==◌, slice_get}
use Rattle.std.specs.FinMap.{remove, len}
use Rattle.std.proofs.lemmas.Bool.{eqb-true, eqb-false}
use Rattle.rtt.specs.Granules.{granule_at}
use Rattle.rtt.specs.declared.granule.Granule.{Granule}
use Rattle.realm_model.specs.declared.states.GranuleState.TheVariants.{Rec as InRec, RecAux as InRecAux}
use Rattle.realm_model.specs.Machine.{RealmRow, left}
use Rattle.realm_model.specs.Update.{Put, machine_after_all}
use Rattle.realm_model.proofs.Booleans.{false_from}
use Rattle.realm_model.specs.Command.Check.{is_in}
use Rattle.realm_model.proofs.Lists.{is_in_head, is_in_more, index_of}
use Rattle.rmi_monitor.specs.Attributes.{RealmAttributes, RecAttributes, realm_row, rec_row}
use Rattle.rtt.specs.Tables.{rows}
use Rattle.rmi_monitor.specs.Gathered.{gathered}
use Rattle.rmi_monitor.specs.Inside.{Fields, rec_count_at, rec_at, rec_of, recs_of, cell_of, machine_of, IsRecOf, HasRecs, IsWhole}
use Rattle.rmi_monitor.proofs.Gathered.{len-remove_there, gathered-drop}
use Rattle.rmi_monitor.proofs.Puts.{out_of, many_put}
use Rattle.rmi_monitor.proofs.RealmAfter.{Changes, whole_changed, cell_unchanged, cell_changed}
use Rattle.rmi_monitor.proofs.RecMoves.{RecMove, granule_count, granule_out, rec_first, rec_out, count_rd, count_out, no_realm, no_rec, rec_of_stays, recs_of_stays, translation, changes, zero_cell}
use Rattle.rmi_monitor.proofs.RecEntries.{of_realm, of_other, numbered_recs, rec_of-none, rec_of-other, rec_of-some}
use Rattle.rmi_monitor.proofs.RecGone.{gone, going, left_granule, granule_left, page_left, sound_left}
use Rattle.rmi_monitor.proofs.RecFound.{IsKept, rec_inside, row_found}
use Rattle.rmi_monitor.proofs.RealmPlaces.{realm_inside}
use Rattle.rmi_monitor.proofs.Frames.{in_rec}

module _ (old : Fields) (whole : IsWhole old) (rd g : ℕ) (rec : RecAttributes) (realm : RealmAttributes) (is : IsKept old g rec rd realm) where
  abbrev others : List ℕ
  others = rec.auxiliaries

  abbrev new : Fields
  new = gone old rd g others

  abbrev move : RecMove old
  move = going old whole rd g rec realm is

  -- a REC that exists afterwards is not in the granule of the removed REC
  differs : (h : ℕ) (other : RecAttributes) → rec_at new h ≡ Some other → h ≢ g
  differs h other e same = let clash : None ≡ Some other = sym (rec_first old whole move) ∙ ap (rec_at new) (sym same) ∙ e in cc

  was_old : (h : ℕ) (other : RecAttributes) → rec_at new h ≡ Some other → rec_at old h ≡ Some other
  was_old h other e = sym (rec_out old whole move h (differs h other e)) ∙ e

  old_out : (h : ℕ) (other : RecAttributes) → rec_at new h ≡ Some other → is_in h (g ∷ others) ≡ false
  old_out h other e = out_of h g others (differs h other e) (false_from _ (λ there.
      let clash : None ≡ Some other = sym (no_rec old whole move h there) ∙ was_old h other e in cc))

  old_realm : (h : ℕ) (other : RecAttributes) → rec_at new h ≡ Some other → (granule_at new.granules h).realm ≡ (granule_at old.granules h).realm
  old_realm h other e = ap (λ (x : Granule). x.realm) (granule_out old whole move h (old_out h other e))

  -- no auxiliary granule of a REC that remains is a granule of the removed REC
  aux_out : (h : ℕ) (other : RecAttributes) (i a : ℕ) → rec_at new h ≡ Some other → slice_get other.auxiliaries i ≡ Some a → is_in a (g ∷ others) ≡ false
  aux_out h other i a e listed =
      let at = was_old h other e in
      out_of a g others
      (λ same.
      let clash : InRec ≡ InRecAux =
      sym (in_rec old g (whole.each g) rec is.at) ∙ ap (λ k. (granule_at old.granules k).state) (sym same) ∙ ap (λ (x : Granule). x.state) (whole.recs.auxiliaries h other i a at listed).is in cc)
      (false_from _ (λ there.
      let found = index_of others a there in
      differs h other e (whole.recs.auxiliaries_once h g other rec i found.0 a at is.at listed found.1).0))

  has_after : HasRecs new
  has_after = record {
    of = λ h other e.
        let before : IsRecOf old h other = whole.recs.of h other (was_old h other e) in
        record { rd = before.rd; of = old_realm h other e ∙ before.of; realm = before.realm; there = before.there; below = before.below };
    once = λ h k one other e e' of numbers.
        whole.recs.once h k one other (was_old h one e) (was_old k other e') (sym (old_realm h one e) ∙ of ∙ old_realm k other e') numbers;
    auxiliaries = λ h other i a e listed.
        let at = whole.recs.auxiliaries h other i a (was_old h other e) listed in
        record {
          inside = subst (λ n. a < n) (sym (granule_count old whole move)) at.inside;
          is = granule_out old whole move a (aux_out h other i a e listed) ∙ at.is ∙ (λ j. record { state = InRecAux; realm = sym (old_realm h other e) j });
        };
    auxiliaries_once = λ h k one other i j a e e'. whole.recs.auxiliaries_once h k one other i j a (was_old h one e) (was_old k other e');
  }

  -- ---- the RECs of each realm

  -- the map of the realm's RECs loses the entry of the removed REC, and no other
  recs_gone : recs_of new.granules new.recs rd ≡ remove (recs_of old.granules old.recs rd) rec.number
  unfolding recs_of
  recs_gone =
      ap (gathered (rec_of new.granules new.recs rd)) (granule_count old whole move)
      ∙ gathered-drop (rec_of old.granules old.recs rd) (rec_of new.granules new.recs rd) (length old.granules) g rec.number (rec_row g rec)
      (numbered_recs old whole.recs rd) (rec_inside old whole g rec is.at)
      (rec_of-some old.granules old.recs rd g rec (of_realm old.granules rd g is.of) is.at)
      (rec_of-none new.granules new.recs rd g (rec_first old whole move))
      (λ h lt apart. rec_of_stays old whole move rd h apart)

  -- among the RECs of each other realm, the granule of the removed REC has the same entry as before
  elsewhere : (r : ℕ) → r ≢ rd → rec_of new.granules new.recs r g ≡ rec_of old.granules old.recs r g
  elsewhere r apart =
      rec_of-none new.granules new.recs r g (rec_first old whole move)
      ∙ sym (rec_of-other old.granules old.recs r g (of_other old.granules r g rd is.of (λ e. apart (sym e))))

  counted_after : (r : ℕ) → rec_count_at new r ≡ len (recs_of new.granules new.recs r)
  counted_after r = elim (r == rd) as (λ t. (r == rd) ≡ t → rec_count_at new r ≡ len (recs_of new.granules new.recs r)) [
    | true ↦ λ e.
        let same = eqb-true r rd e in
        ap (rec_count_at new) same
        ∙ count_rd old whole move
        ∙ ap (λ n. n - 1) (whole.counted rd)
        ∙ sym (ap len recs_gone ∙ len-remove_there (recs_of old.granules old.recs rd) rec.number (rec_row g rec) (row_found old whole g rec rd realm is))
        ∙ ap (λ k. len (recs_of new.granules new.recs k)) (sym same)
    | false ↦ λ e.
        let differs = eqb-false r rd e in
        count_out old whole move r differs
        ∙ whole.counted r
        ∙ ap len (sym (recs_of_stays old whole move r (elsewhere r differs)))
  ] refl

  changed : Changes old new rd (λ h. is_in h (g ∷ others)) realm realm
  changed = changes old whole move (sound_left old whole rd g rec realm is) (record {
    has = has_after;
    others = λ r differs. recs_of_stays old whole move r (elsewhere r differs);
    counted = counted_after;
  })

  pub whole_gone : IsWhole (gone old rd g rec.auxiliaries)
  whole_gone = whole_changed old new rd (λ h. is_in h (g ∷ others)) realm realm changed whole

  -- ---- the machine

  abbrev row_gone : RealmRow
  row_gone = realm_row realm (remove (recs_of old.granules old.recs rd) rec.number) (rows old.pages realm.root)

  pub machine_gone : machine_of (gone old rd g rec.auxiliaries)
      ≡ machine_after_all (Put g left ∷ map (λ a. Put a left) rec.auxiliaries ++ Put rd (record (cell_of old rd) { descriptor = Some row_gone }) ∷ []) (machine_of old)
  machine_gone =
      let zeroed : (h : ℕ) → is_in h (g ∷ others) ≡ true → cell_of new h ≡ left =
      λ h e. zero_cell new h left_granule (granule_left old whole rd g rec realm is h e) (page_left old whole rd g rec realm is h e) (no_realm old whole move h e) in
      many_put old new (granule_count old whole move) g rd others left left (record (cell_of old rd) { descriptor = Some row_gone })
      (rec_inside old whole g rec is.at) (realm_inside old whole rd realm is.there)
      (cell_changed old new rd (λ h. is_in h (g ∷ others)) realm realm changed whole _ _ recs_gone (translation old whole move))
      (λ h within e. zeroed h (is_in_more h g others e))
      (zeroed g (is_in_head g others))
      (λ h within apart other out.
      cell_unchanged old new rd (λ h. is_in h (g ∷ others)) realm realm changed whole h (out_of h g others other out) apart)
