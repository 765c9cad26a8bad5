-- The proof that a change of a REC's state, READY or RUNNING, preserves the invariant of an RMM's fields, and changes
-- nothing else in the machine.
use Rattle.std.proofs.Common.{◌≡◌, ◌≢◌, ℕ, ◌<◌, false, List, [], ◌∷◌, length, set, get_or, Ok, Option, Some, None, option_map, refl, sym, ap, ◌∙◌, subst, ⊎_elim}
use Rattle.std.specs.Prelude.{is_some, slice_get, if◌then◌else◌}
use Rattle.std.specs.FinMap.{insert, len}
use Rattle.std.proofs.lemmas.Bool.{cases_eq}
use Rattle.std.proofs.lemmas.List.{length-set, get_or-set_same, get_or-set_other}
use Rattle.std.proofs.lemmas.Option.{same_Some}
use Rattle.realm_model.specs.Machine.{Cell, RealmRow}
use Rattle.realm_model.specs.Update.{machine_after_all}
use Rattle.realm_model.specs.Command.Check.{put_rec}
use Rattle.realm_model.proofs.Booleans.{false_from}
use Rattle.rmi_monitor.specs.Attributes.{RealmAttributes, RecAttributes, realm_row, rec_row}
use Rattle.rtt.specs.Tables.{rows}
use Rattle.rmi_monitor.specs.View.{MonitorView, seen_in, after_command}
use Rattle.rmi_monitor.specs.Inside.{Fields, rec_at, is_of_realm, rec_of, recs_of, descriptor_of, cell_of, machine_of, seen_as, IsSoundAt, IsRecOf, HasRecs, IsWhole}
use Rattle.rmi_monitor.proofs.Gathered.{len-insert_there, gathered-put, gathered-same}
use Rattle.rmi_monitor.proofs.Machines.{one_put, cell_stays, descriptor_stays}
use Rattle.rmi_monitor.proofs.Granules.{machine_is, cell_is, after_by, in_machine}
use Rattle.rmi_monitor.proofs.RecFound.{IsKept, rec_inside, row_found}
use Rattle.rmi_monitor.proofs.RealmFound.{row_of}
use Rattle.rmi_monitor.proofs.Listed.{put_back}
use Rattle.rmi_monitor.proofs.RealmPlaces.{realm_inside}
use Rattle.rmi_monitor.proofs.RecEntries.{rec_of-other, rec_of-some, rec_of-number, realm_of, of_realm, numbered_recs}

abbrev pub with_recs : Fields → List (Option RecAttributes) → Fields
with_recs fields recs = record fields { recs = recs }

module _ (old : Fields) (whole : IsWhole old) (granule : ℕ) (rec : RecAttributes) (rd : ℕ) (realm : RealmAttributes) (kept : IsKept old granule rec rd realm)
    (now : RecAttributes) (number : now.number ≡ rec.number) (auxiliaries : now.auxiliaries ≡ rec.auxiliaries) where
  abbrev new : Fields
  new = with_recs old (set old.recs granule (Some now))

  here : rec_at new granule ≡ Some now
  here = get_or-set_same old.recs granule (Some now) None (subst (λ n. granule < n) (sym whole.rec_places) inside)
    where
      inside : granule < length old.granules
      inside = rec_inside old whole granule rec kept.at

  elsewhere : (g : ℕ) → g ≢ granule → rec_at new g ≡ rec_at old g
  elsewhere g differs = get_or-set_other old.recs granule g (Some now) None differs

  -- granule `g` held a REC before, with the number and the auxiliary granules of `other`
  record Was (g : ℕ) (other : RecAttributes) : Type 0 where
    before : RecAttributes
    at : rec_at old g ≡ Some before
    same_number : before.number ≡ other.number
    same_auxiliaries : before.auxiliaries ≡ other.auxiliaries

  was : (g : ℕ) (other : RecAttributes) → rec_at new g ≡ Some other → Was g other
  was g other e = ⊎_elim
      (λ (s : g ≡ granule).
      let same : now ≡ other = same_Some now other (sym here ∙ ap (rec_at new) (sym s) ∙ e) in
      record {
        before = rec;
        at = ap (rec_at old) s ∙ kept.at;
        same_number = sym number ∙ ap (λ (r : RecAttributes). r.number) same;
        same_auxiliaries = sym auxiliaries ∙ ap (λ (r : RecAttributes). r.auxiliaries) same;
      })
      (λ (ne : g ≢ granule). record { before = other; at = sym (elsewhere g ne) ∙ e; same_number = refl; same_auxiliaries = refl })
      (cases_eq g granule)

  has_recs : HasRecs new
  has_recs = record {
    of = λ g other e.
        let w = was g other e in
        let is : IsRecOf old g w.before = whole.recs.of g w.before w.at in
        record { rd = is.rd; of = is.of; realm = is.realm; there = is.there; below = subst (λ n. n < is.realm.next) w.same_number is.below };
    once = λ g h other another e e' same numbers.
        let w = was g other e in
        let v = was h another e' in
        whole.recs.once g h w.before v.before w.at v.at same (w.same_number ∙ numbers ∙ sym v.same_number);
    auxiliaries = λ g other i auxiliary e listed.
        let w = was g other e in
        whole.recs.auxiliaries g w.before i auxiliary w.at (ap (λ xs. slice_get xs i) w.same_auxiliaries ∙ listed);
    auxiliaries_once = λ g h other another i j auxiliary e e' listed listed'.
        let w = was g other e in
        let v = was h another e' in
        whole.recs.auxiliaries_once g h w.before v.before i j auxiliary w.at v.at (ap (λ xs. slice_get xs i) w.same_auxiliaries ∙ listed)
        (ap (λ xs. slice_get xs j) v.same_auxiliaries ∙ listed');
  }

  sound : (g : ℕ) → IsSoundAt new g
  sound g = record {
    host = (whole.each g).host;
    zero = (whole.each g).zero;
    rd = (whole.each g).rd;
    rec = some_rec ∙ (whole.each g).rec;
  }
    where
      some_rec : is_some (rec_at new g) ≡ is_some (rec_at old g)
      some_rec = ⊎_elim
          (λ (s : g ≡ granule). ap (λ h. is_some (rec_at new h)) s ∙ ap is_some here ∙ sym (ap is_some kept.at) ∙ ap (λ h. is_some (rec_at old h)) (sym s))
          (λ (ne : g ≢ granule). ap is_some (elsewhere g ne))
          (cases_eq g granule)

  -- ---- the RECs of each realm

  place_elsewhere : (of g : ℕ) → g ≢ granule → rec_of new.granules new.recs of g ≡ rec_of old.granules old.recs of g
  place_elsewhere of g ne = ap (λ o. if is_of_realm old.granules of g then option_map (λ r. (r.number, rec_row g r)) o else None) (elsewhere g ne)

  -- the RECs of another realm stay the same
  others_recs : (other : ℕ) → other ≢ rd → recs_of new.granules new.recs other ≡ recs_of old.granules old.recs other
  unfolding recs_of
  others_recs other differs =
      gathered-same (rec_of new.granules new.recs other) (rec_of old.granules old.recs other) (length old.granules)
      (λ g lt. ⊎_elim (λ (s : g ≡ granule). none g s) (place_elsewhere other g) (cases_eq g granule))
    where
      not_of : is_of_realm old.granules other granule ≡ false
      not_of = false_from _ (λ e. differs (same_Some other rd (sym (realm_of old.granules other granule e) ∙ kept.of)))

      none : (g : ℕ) → g ≡ granule → rec_of new.granules new.recs other g ≡ rec_of old.granules old.recs other g
      none g s =
          let e : is_of_realm old.granules other g ≡ false = ap (is_of_realm old.granules other) s ∙ not_of in
          rec_of-other new.granules new.recs other g e ∙ sym (rec_of-other old.granules old.recs other g e)

  -- the RECs of the REC's own realm change only in the REC's record
  own_recs : recs_of new.granules new.recs rd ≡ insert (recs_of old.granules old.recs rd) rec.number (rec_row granule now)
  unfolding recs_of
  own_recs =
      gathered-put (rec_of old.granules old.recs rd) (rec_of new.granules new.recs rd) (length old.granules) granule rec.number (rec_row granule now)
      (numbered_recs new has_recs rd) (rec_inside old whole granule rec kept.at)
      (rec_of-some new.granules new.recs rd granule now (of_realm old.granules rd granule kept.of) here ∙ ap (λ n. Some (n, rec_row granule now)) number)
      (λ before e. sym (rec_of-number old.granules old.recs rd granule rec before.0 before.1 kept.at e))
      (λ g lt ne. place_elsewhere rd g ne)

  -- each realm has as many RECs as before
  counts : (r : ℕ) → len (recs_of new.granules new.recs r) ≡ len (recs_of old.granules old.recs r)
  counts r = ⊎_elim
      (λ (s : r ≡ rd).
      ap (λ k. len (recs_of new.granules new.recs k)) s
      ∙ ap len own_recs
      ∙ len-insert_there (recs_of old.granules old.recs rd) rec.number (rec_row granule now) (rec_row granule rec) (row_found old whole granule rec rd realm kept)
      ∙ ap (λ k. len (recs_of old.granules old.recs k)) (sym s))
      (λ (ne : r ≢ rd). ap len (others_recs r ne))
      (cases_eq r rd)

  pub whole_with_rec : IsWhole (with_recs old (set old.recs granule (Some now)))
  whole_with_rec = record {
    backed = whole.backed;
    realm_places = whole.realm_places;
    count_places = whole.count_places;
    rec_places = length-set old.recs granule (Some now) ∙ whole.rec_places;
    each = sound;
    tables = whole.tables;
    recs = has_recs;
    counted = λ r. whole.counted r ∙ sym (counts r);
    vmids_used = whole.vmids_used;
  }

  -- ---- the machine

  pub machine_with_rec : machine_of (with_recs old (set old.recs granule (Some now)))
      ≡ set (machine_of old) rd (record (cell_of old rd) {
        descriptor = Some (realm_row realm (insert (recs_of old.granules old.recs rd) rec.number (rec_row granule now)) (rows old.pages realm.root));
      })
  machine_with_rec =
      one_put old new refl rd _ (realm_inside old whole rd realm kept.there)
      (λ i. record (cell_of old rd) { descriptor = descriptor i })
      (λ g lt differs. cell_stays old new g refl (λ not_table. refl) (descriptor_stays old new g refl (others_recs g differs) (λ r there. refl)))
    where
      descriptor : descriptor_of new rd ≡ Some (realm_row realm (insert (recs_of old.granules old.recs rd) rec.number (rec_row granule now)) (rows old.pages realm.root))
      descriptor =
          ap (option_map (λ (r : RealmAttributes). realm_row r (recs_of new.granules new.recs rd) (rows old.pages r.root))) kept.there
          ∙ ap (λ recs. Some (realm_row realm recs (rows old.pages realm.root))) own_recs

  -- ---- the RMM

  module _ (recs : List (Option RecAttributes)) (made : recs ≡ set old.recs granule (Some now)) where
    pub whole_recs : IsWhole (with_recs old recs)
    whole_recs = subst (λ rs. IsWhole (with_recs old rs)) (sym made) whole_with_rec

    abbrev row : RealmRow
    row = row_of old rd realm

    -- a command that sets the REC's record to that of `now` leads to the RMM with the REC changed
    pub rec_put : (monitor : MonitorView) → seen_as old ≡ monitor → seen_as (with_recs old recs)
        ≡ after_command (Ok (put_rec (seen_in monitor rd) (row_of old rd realm) rec.number (rec_row granule now) ∷ [])) monitor
    unfolding machine_after_all
    rec_put monitor view_is =
        ap (λ rs. seen_as (with_recs old rs)) made
        ∙ after_by monitor old view_is whole (Ok (put_rec (seen_in monitor rd) row rec.number (rec_row granule now) ∷ [])) new refl refl refl
        (machine_with_rec
        ∙ ap (λ (c : Cell). set (machine_of old) rd (record c { descriptor = Some (record row { recs = insert row.recs rec.number (rec_row granule now) }) }))
        (sym (cell_is monitor old view_is whole rd (in_machine monitor old view_is whole rd (realm_inside old whole rd realm kept.there))))
        ∙ ap (λ m. set m rd (record (seen_in monitor rd).cell { descriptor = Some (record row { recs = insert row.recs rec.number (rec_row granule now) }) })) (machine_is monitor old view_is whole))

-- the invariant holds after a REC's attributes are written back as they were read
pub whole_rec_unmoved : (fields : Fields) → IsWhole fields → (number : ℕ) (x y : Option RecAttributes) → x ≡ get_or fields.recs number x → x ≡ y
    → IsWhole (with_recs fields (set fields.recs number y))
whole_rec_unmoved fields whole number x y read is =
    subst (λ (recs : List (Option RecAttributes)). IsWhole (with_recs fields recs)) (sym (put_back fields.recs number x y (sym read ∙ is))) whole
