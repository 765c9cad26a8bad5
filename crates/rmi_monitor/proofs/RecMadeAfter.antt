-- Proofs that the creation of a REC preserves the invariant of an RMM's fields, and changes the machine as the model's
-- RMI_REC_CREATE does.
use Rattle.std.proofs.Common.{◌≡◌, ◌≢◌, ℕ, ◌+◌, ◌<◌, true, false, List, [], ◌∷◌, ◌++◌, length, map, Some, None, refl, sym, ap, ◌∙◌, subst, arith}
use Rattle.std.specs.Prelude.{◌==◌, slice_get}
use Rattle.std.specs.FinMap.{get, insert, len}
use Rattle.std.proofs.lemmas.Bool.{eqb-true, eqb-false}
use Rattle.std.proofs.lemmas.Option.{same_Some}
use Rattle.rtt.specs.Granules.{granule_at, IsIn}
use Rattle.rtt.specs.declared.granule.Granule.{Granule}
use Rattle.realm_model.specs.declared.states.GranuleState.TheVariants.{Delegated, Rec as InRec, RecAux as InRecAux}
use Rattle.realm_model.specs.Machine.{RealmRow, held}
use Rattle.realm_model.specs.Update.{Put, machine_after_all}
use Rattle.realm_model.proofs.Booleans.{false_from}
use Rattle.realm_model.specs.Command.Check.{is_in}
use Rattle.realm_model.proofs.Lists.{is_in_head, is_in_more, is_in_at}
use Rattle.rmi_monitor.specs.Attributes.{RealmAttributes, RecAttributes, realm_row, rec_row}
use Rattle.rtt.specs.Tables.{rows}
use Rattle.rmi_monitor.specs.Gathered.{gathered}
use Rattle.rmi_monitor.specs.Inside.{Fields, realm_at, rec_count_at, rec_at, rec_of, recs_of, cell_of, machine_of, IsRecOf, HasRecs, IsWhole}
use Rattle.rmi_monitor.proofs.Gathered.{len-insert_new, gathered-put}
use Rattle.rmi_monitor.proofs.Puts.{out_of, many_put}
use Rattle.rmi_monitor.proofs.RealmAfter.{Changes, whole_changed, cell_unchanged, cell_changed}
use Rattle.rmi_monitor.proofs.RealmPlaces.{realm_inside}
use Rattle.rmi_monitor.proofs.RecMoves.{RecMove, granule_count, granule_first, granule_rest, granule_out, rec_first, rec_out}
use Rattle.rmi_monitor.proofs.RecMoves.{count_rd, count_out, no_realm, rec_of_stays, recs_of_stays, translation, changes, zero_cell}
use Rattle.rmi_monitor.proofs.RealmRecs.{recs_of-without}
use Rattle.rmi_monitor.proofs.RecEntries.{IsEntry, entry_at, of_realm, of_other, numbered_recs, rec_of-none, rec_of-other, rec_of-some}
use Rattle.rmi_monitor.specs.Places.{with_rec_more}
use Rattle.rmi_monitor.proofs.RecMade.{CanMake, made, making, new_rec, was_none, zero_after, sound_made}

module _ (old : Fields) (whole : IsWhole old) (rd g : ℕ) (others : List ℕ) (realm : RealmAttributes) (can : CanMake old rd g others realm) where
  abbrev new : Fields
  new = made old rd g others realm

  abbrev move : RecMove old
  move = making old whole rd g others realm can

  g_realm : (granule_at new.granules g).realm ≡ Some rd
  g_realm = ap (λ (x : Granule). x.realm) (granule_first old whole move)

  -- after the command, the REC in granule `g` is the new one
  is_new : (h : ℕ) (rec : RecAttributes) → h ≡ g → rec_at new h ≡ Some rec → new_rec realm.next others ≡ rec
  is_new h rec same e = same_Some (new_rec realm.next others) rec (sym (rec_first old whole move) ∙ ap (rec_at new) (sym same) ∙ e)

  -- after the command, a REC in a granule other than `g` existed before
  was_old : (h : ℕ) (rec : RecAttributes) → h ≢ g → rec_at new h ≡ Some rec → rec_at old h ≡ Some rec
  was_old h rec differs e = sym (rec_out old whole move h differs) ∙ e

  old_out : (h : ℕ) (rec : RecAttributes) → rec_at old h ≡ Some rec → is_in h (g ∷ others) ≡ false
  old_out h rec at = false_from _ (λ there. let clash : None ≡ Some rec = sym (was_none old whole rd g others realm can h there) ∙ at in cc)

  old_realm : (h : ℕ) (rec : RecAttributes) → rec_at old h ≡ Some rec → (granule_at new.granules h).realm ≡ (granule_at old.granules h).realm
  old_realm h rec at = ap (λ (x : Granule). x.realm) (granule_out old whole move h (old_out h rec at))

  of_old : (h : ℕ) (rec : RecAttributes) → rec_at old h ≡ Some rec → IsRecOf new h rec
  of_old h rec at =
      let before : IsRecOf old h rec = whole.recs.of h rec at in
      elim (before.rd == rd) as (λ t. (before.rd == rd) ≡ t → IsRecOf new h rec) [
        | true ↦ λ e.
            let same = eqb-true before.rd rd e in
            let was : before.realm ≡ realm = same_Some before.realm realm (sym before.there ∙ ap (realm_at old) same ∙ can.there) in
            record {
              rd = rd;
              of = old_realm h rec at ∙ before.of ∙ ap Some same;
              realm = with_rec_more realm;
              there = move.is;
              below = let less : rec.number < realm.next = subst (λ (x : RealmAttributes). rec.number < x.next) was before.below in omega (arith, less);
            }
        | false ↦ λ e. record {
          rd = before.rd;
          of = old_realm h rec at ∙ before.of;
          realm = before.realm;
          there = move.others before.rd (eqb-false before.rd rd e) ∙ before.there;
          below = before.below;
        }
      ] refl

  of_after : (h : ℕ) (rec : RecAttributes) → rec_at new h ≡ Some rec → IsRecOf new h rec
  of_after h rec e = elim (h == g) as (λ t. (h == g) ≡ t → IsRecOf new h rec) [
    | true ↦ λ s.
        let same = eqb-true h g s in
        record {
          rd = rd;
          of = ap (λ k. (granule_at new.granules k).realm) same ∙ g_realm;
          realm = with_rec_more realm;
          there = move.is;
          below = subst (λ (x : RecAttributes). x.number < realm.next + 1) (is_new h rec same e) (omega arith);
        }
    | false ↦ λ s. of_old h rec (was_old h rec (eqb-false h g s) e)
  ] refl

  -- no REC that the realm had before has the new REC's number
  apart_before : (h : ℕ) (rec : RecAttributes) → rec_at old h ≡ Some rec → (granule_at old.granules h).realm ≡ Some rd → rec.number ≡ realm.next → ⊥
  apart_before h rec at of number =
      let before : IsRecOf old h rec = whole.recs.of h rec at in
      let same : before.rd ≡ rd = same_Some before.rd rd (sym before.of ∙ of) in
      let was : before.realm ≡ realm = same_Some before.realm realm (sym before.there ∙ ap (realm_at old) same ∙ can.there) in
      let less : rec.number < realm.next = subst (λ (x : RealmAttributes). rec.number < x.next) was before.below in
      omega (arith, less, number)

  apart : (h : ℕ) (rec : RecAttributes) → h ≢ g → rec_at new h ≡ Some rec → (granule_at new.granules h).realm ≡ Some rd → rec.number ≡ realm.next → ⊥
  apart h rec differs e of number =
      let at = was_old h rec differs e in
      apart_before h rec at (sym (old_realm h rec at) ∙ of) number

  number_is : (h : ℕ) (rec : RecAttributes) → h ≡ g → rec_at new h ≡ Some rec → rec.number ≡ realm.next
  number_is h rec same e = ap (λ (x : RecAttributes). x.number) (sym (is_new h rec same e))

  realm_is : (h : ℕ) → h ≡ g → (granule_at new.granules h).realm ≡ Some rd
  realm_is h same = ap (λ k. (granule_at new.granules k).realm) same ∙ g_realm

  once_after : (h k : ℕ) (rec other : RecAttributes) → rec_at new h ≡ Some rec → rec_at new k ≡ Some other
      → (granule_at new.granules h).realm ≡ (granule_at new.granules k).realm → rec.number ≡ other.number → h ≡ k
  once_after h k rec other e e' of numbers =
      elim (h == g) as (λ t. (h == g) ≡ t → h ≡ k) [
        | true ↦ λ s. elim (k == g) as (λ t. (k == g) ≡ t → h ≡ k) [
          | true ↦ λ s'. eqb-true h g s ∙ sym (eqb-true k g s')
          | false ↦ λ s'. absurd (apart k other (eqb-false k g s') e' (sym of ∙ realm_is h (eqb-true h g s)) (sym numbers ∙ number_is h rec (eqb-true h g s) e))
        ] refl
        | false ↦ λ s. elim (k == g) as (λ t. (k == g) ≡ t → h ≡ k) [
          | true ↦ λ s'. absurd (apart h rec (eqb-false h g s) e (of ∙ realm_is k (eqb-true k g s')) (numbers ∙ number_is k other (eqb-true k g s') e'))
          | false ↦ λ s'.
              let at = was_old h rec (eqb-false h g s) e in
              let at' = was_old k other (eqb-false k g s') e' in
              whole.recs.once h k rec other at at' (sym (old_realm h rec at) ∙ of ∙ old_realm k other at') numbers
        ] refl
      ] refl

  -- ---- auxiliaries

  listed_new : (h : ℕ) (rec : RecAttributes) (i a : ℕ) → h ≡ g → rec_at new h ≡ Some rec → slice_get rec.auxiliaries i ≡ Some a → slice_get others i ≡ Some a
  listed_new h rec i a same e listed = subst (λ (x : RecAttributes). slice_get x.auxiliaries i ≡ Some a) (sym (is_new h rec same e)) listed

  -- an auxiliary of a REC that existed before is none of the new REC's granules
  aux_out : (h : ℕ) (rec : RecAttributes) (i a : ℕ) → rec_at old h ≡ Some rec → slice_get rec.auxiliaries i ≡ Some a → is_in a (g ∷ others) ≡ false
  aux_out h rec i a at listed = false_from _ (λ there.
      let clash : Delegated ≡ InRecAux = sym (can.delegated a there) ∙ ap (λ (x : Granule). x.state) (whole.recs.auxiliaries h rec i a at listed).is in cc)

  aux_after : (h : ℕ) (rec : RecAttributes) (i a : ℕ) → rec_at new h ≡ Some rec → slice_get rec.auxiliaries i ≡ Some a
      → IsIn new.granules a InRecAux (granule_at new.granules h).realm
  aux_after h rec i a e listed = elim (h == g) as (λ t. (h == g) ≡ t → IsIn new.granules a InRecAux (granule_at new.granules h).realm) [
    | true ↦ λ s.
        let same = eqb-true h g s in
        let there : is_in a others ≡ true = is_in_at others i a (listed_new h rec i a same e listed) in
        record {
          inside = subst (λ n. a < n) (sym (granule_count old whole move)) (can.inside a (is_in_more a g others there));
          is = granule_rest old whole move a there ∙ (λ j. record { state = InRecAux; realm = sym (realm_is h same) j });
        }
    | false ↦ λ s.
        let at = was_old h rec (eqb-false h g s) e in
        let is = whole.recs.auxiliaries h rec i a at listed in
        record {
          inside = subst (λ n. a < n) (sym (granule_count old whole move)) is.inside;
          is = granule_out old whole move a (aux_out h rec i a at listed) ∙ is.is ∙ (λ j. record { state = InRecAux; realm = sym (old_realm h rec at) j });
        }
  ] refl

  aux_clash : (h k : ℕ) (rec other : RecAttributes) (i j a : ℕ) → h ≡ g → k ≢ g → rec_at new h ≡ Some rec → rec_at new k ≡ Some other
      → slice_get rec.auxiliaries i ≡ Some a → slice_get other.auxiliaries j ≡ Some a → ⊥
  aux_clash h k rec other i j a same differs e e' listed listed' =
      let there : is_in a (g ∷ others) ≡ true = is_in_more a g others (is_in_at others i a (listed_new h rec i a same e listed)) in
      let clash : true ≡ false = sym there ∙ aux_out k other j a (was_old k other differs e') listed' in cc

  aux_once_after : (h k : ℕ) (rec other : RecAttributes) (i j a : ℕ) → rec_at new h ≡ Some rec → rec_at new k ≡ Some other
      → slice_get rec.auxiliaries i ≡ Some a → slice_get other.auxiliaries j ≡ Some a → (h ≡ k) × (i ≡ j)
  aux_once_after h k rec other i j a e e' listed listed' =
      elim (h == g) as (λ t. (h == g) ≡ t → (h ≡ k) × (i ≡ j)) [
        | true ↦ λ s. elim (k == g) as (λ t. (k == g) ≡ t → (h ≡ k) × (i ≡ j)) [
          | true ↦ λ s'. (
            eqb-true h g s ∙ sym (eqb-true k g s'),
            can.once i j a (listed_new h rec i a (eqb-true h g s) e listed) (listed_new k other j a (eqb-true k g s') e' listed'),
          )
          | false ↦ λ s'. absurd (aux_clash h k rec other i j a (eqb-true h g s) (eqb-false k g s') e e' listed listed')
        ] refl
        | false ↦ λ s. elim (k == g) as (λ t. (k == g) ≡ t → (h ≡ k) × (i ≡ j)) [
          | true ↦ λ s'. absurd (aux_clash k h other rec j i a (eqb-true k g s') (eqb-false h g s) e' e listed' listed)
          | false ↦ λ s'. whole.recs.auxiliaries_once h k rec other i j a (was_old h rec (eqb-false h g s) e) (was_old k other (eqb-false k g s') e') listed listed'
        ] refl
      ] refl

  has_after : HasRecs new
  has_after = record { of = of_after; once = once_after; auxiliaries = aux_after; auxiliaries_once = aux_once_after }

  -- ---- the RECs of each realm

  -- the map of the realm's RECs gains the entry of the new REC, and no other
  recs_made : recs_of new.granules new.recs rd ≡ insert (recs_of old.granules old.recs rd) realm.next (rec_row g (new_rec realm.next others))
  unfolding recs_of
  recs_made =
      let there = rec_of-some new.granules new.recs rd g (new_rec realm.next others) (of_realm new.granules rd g g_realm) (rec_first old whole move) in
      gathered-put (rec_of old.granules old.recs rd) (rec_of new.granules new.recs rd) (length new.granules) g realm.next (rec_row g (new_rec realm.next others))
      (numbered_recs new has_after rd) (subst (λ n. g < n) (sym (granule_count old whole move)) (can.inside g (is_in_head g others))) there
      (λ entry e. let clash : None ≡ Some entry = sym (rec_of-none old.granules old.recs rd g (was_none old whole rd g others realm can g (is_in_head g others))) ∙ e in cc)
      (λ h lt differs. rec_of_stays old whole move rd h differs)
      ∙ ap (λ n. insert (gathered (rec_of old.granules old.recs rd) n) realm.next (rec_row g (new_rec realm.next others))) (granule_count old whole move)

  -- among the RECs of each other realm, the granule of the new REC has the same entry as before
  elsewhere : (r : ℕ) → r ≢ rd → rec_of new.granules new.recs r g ≡ rec_of old.granules old.recs r g
  elsewhere r differs =
      rec_of-other new.granules new.recs r g (of_other new.granules r g rd g_realm (λ e. differs (sym e)))
      ∙ sym (rec_of-none old.granules old.recs r g (was_none old whole rd g others realm can g (is_in_head g others)))

  -- the map of the realm's RECs had no entry for the new REC's number
  number_free : get (recs_of old.granules old.recs rd) realm.next ≡ None
  number_free = recs_of-without old.granules old.recs rd realm.next (λ h lt row at.
      let place : IsEntry old.granules old.recs rd h realm.next row = entry_at old.granules rd h old.recs realm.next row at in
      apart_before h place.rec place.at place.of place.numbered)

  counted_after : (r : ℕ) → rec_count_at new r ≡ len (recs_of new.granules new.recs r)
  counted_after r = elim (r == rd) as (λ t. (r == rd) ≡ t → rec_count_at new r ≡ len (recs_of new.granules new.recs r)) [
    | true ↦ λ e.
        let same = eqb-true r rd e in
        ap (rec_count_at new) same
        ∙ count_rd old whole move
        ∙ ap (λ n. n + 1) (whole.counted rd)
        ∙ sym (ap len recs_made ∙ len-insert_new (recs_of old.granules old.recs rd) realm.next (rec_row g (new_rec realm.next others)) number_free)
        ∙ ap (λ k. len (recs_of new.granules new.recs k)) (sym same)
    | false ↦ λ e.
        let differs = eqb-false r rd e in
        count_out old whole move r differs
        ∙ whole.counted r
        ∙ ap len (sym (recs_of_stays old whole move r (elsewhere r differs)))
  ] refl

  changed : Changes old new rd (λ h. is_in h (g ∷ others)) realm (with_rec_more realm)
  changed = changes old whole move (sound_made old whole rd g others realm can) (record {
    has = has_after;
    others = λ r differs. recs_of_stays old whole move r (elsewhere r differs);
    counted = counted_after;
  })

  pub whole_made : IsWhole (made old rd g others realm)
  whole_made = whole_changed old new rd (λ h. is_in h (g ∷ others)) realm (with_rec_more realm) changed whole

  -- ---- the machine

  abbrev row_made : RealmRow
  row_made = realm_row (with_rec_more realm) (insert (recs_of old.granules old.recs rd) realm.next (rec_row g (new_rec realm.next others))) (rows old.pages realm.root)

  pub machine_made : machine_of (made old rd g others realm)
      ≡ machine_after_all (Put g (held InRec rd) ∷ map (λ a. Put a (held InRecAux rd)) others ++ Put rd (record (cell_of old rd) { descriptor = Some row_made }) ∷ []) (machine_of old)
  machine_made =
      many_put old new (granule_count old whole move) g rd others (held InRec rd) (held InRecAux rd) (record (cell_of old rd) { descriptor = Some row_made })
      (can.inside g (is_in_head g others)) (realm_inside old whole rd realm can.there)
      (cell_changed old new rd (λ h. is_in h (g ∷ others)) realm (with_rec_more realm) changed whole _ _ recs_made (translation old whole move))
      (λ h within e. let there = is_in_more h g others e in zero_cell new h _ (granule_rest old whole move h e) (zero_after old whole rd g others realm can h there) (no_realm old whole move h there))
      (let there = is_in_head g others in zero_cell new g _ (granule_first old whole move) (zero_after old whole rd g others realm can g there) (no_realm old whole move g there))
      (λ h within differs apart out.
      cell_unchanged old new rd (λ h. is_in h (g ∷ others)) realm (with_rec_more realm) changed whole h (out_of h g others apart out) differs)
