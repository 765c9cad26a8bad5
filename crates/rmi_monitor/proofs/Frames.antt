-- Proofs that an RMM's invariant still holds after a command that changes at most one realm, and leaves the other
-- realms, their tables and their RECs unchanged.
use Rattle.std.proofs.Common.{◌≡◌, ◌≢◌, ℕ, ◌<◌, ◌≤◌, Bool, true, false, cond, List, length, get_or, Some, None, option_map, refl, sym, ap, ◌∙◌, subst, arith}
use Rattle.std.specs.Prelude.{is_some, nat_eq, ◌==◌}
use Rattle.std.specs.Option.{option_eq}
use Rattle.std.specs.FinMap.{len}
use Rattle.std.proofs.lemmas.Bool.{eqb-true, eqb-false}
use Rattle.rtt.specs.Granules.{granule_at, IsIn}
use Rattle.rtt.specs.declared.granule.Granule.{Granule}
use Rattle.page_arena.specs.Page.{page_at, is_free}
use Rattle.realm_model.specs.declared.states.GranuleState.{GranuleState}
use Rattle.realm_model.specs.declared.states.GranuleState.TheVariants.{Data as InData, Rec as InRec, RecAux as InRecAux, Rtt as InRtt}
use Rattle.realm_model.specs.Sound.{is_host_state, is_rd_state}
use Rattle.realm_model.specs.Machine.{RecRow}
use Rattle.rmi_monitor.specs.Attributes.{RealmAttributes, RecAttributes, rec_row}
use Rattle.rtt.specs.Tables.{rows}
use Rattle.rtt.specs.Realm.{IsBacked, HasTables, LeavesAlone, LeavesOthers}
use Rattle.rtt.proofs.FrameLaws.{rows-alone, HasTables-alone}
use Rattle.rmi_monitor.specs.Inside.{Fields, realm_at, rec_count_at, rec_at, is_of_realm, rec_of, recs_of, cell_of, is_rec_state, IsSoundAt, IsRecOf, HasRecs, IsWhole}
use Rattle.rmi_monitor.specs.Gathered.{gathered}
use Rattle.rmi_monitor.proofs.Gathered.{gathered-same}
use Rattle.rmi_monitor.proofs.Machines.{cell_stays, descriptor_stays}
use Rattle.rmi_monitor.proofs.RecEntries.{rec_of-none}
use Rattle.rmi_monitor.proofs.UsedVmids.{AreUsed}

-- ---- granules

-- A granule at which `touched` is false keeps its state, its realm and its REC, and also its contents unless it is a
-- table. The free flags and the numbers of granules and of pages stay the same.
pub record Stays (old new : Fields) (touched : ℕ → Bool) : Type 0 where
  pub free : new.free ≡ old.free
  pub granule_count : length new.granules ≡ length old.granules
  pub page_count : length new.pages ≡ length old.pages
  pub granule : (g : ℕ) → touched g ≡ false → granule_at new.granules g ≡ granule_at old.granules g
  pub page : (g : ℕ) → touched g ≡ false → (granule_at old.granules g).state ≢ InRtt → page_at new.pages g ≡ page_at old.pages g
  pub rec : (g : ℕ) → touched g ≡ false → rec_at new g ≡ rec_at old g

module _ (old new : Fields) (touched : ℕ → Bool) (stays : Stays old new touched) where
  -- `IsSoundAt` still holds for a granule that is not touched, if `realm_at` has the same value there in `old` and
  -- `new`
  sound_kept : (g : ℕ) → touched g ≡ false → realm_at new g ≡ realm_at old g → IsSoundAt old g → IsSoundAt new g
  sound_kept g e realm was =
      let same : (granule_at new.granules g).state ≡ (granule_at old.granules g).state = ap (λ (x : Granule). x.state) (stays.granule g e) in
      let of : (granule_at new.granules g).realm ≡ (granule_at old.granules g).realm = ap (λ (x : Granule). x.realm) (stays.granule g e) in
      record {
        host = λ h. of ∙ was.host (sym (ap is_host_state same) ∙ h);
        zero = λ h. stays.page g e (λ is. cc) ∙ was.zero (sym same ∙ h);
        rd = ap is_some realm ∙ was.rd ∙ sym (ap is_rd_state same);
        rec = ap is_some (stays.rec g e) ∙ was.rec ∙ sym (ap is_rec_state same);
      }

  -- `IsBacked` still holds after the change, if no touched granule was free before
  pub backed_after : IsBacked old.pages old.free old.granules → ((g : ℕ) → touched g ≡ true → is_free old.free g ≡ false) → IsBacked new.pages new.free new.granules
  backed_after was taken = record {
    as_many = stays.granule_count ∙ was.as_many ∙ sym stays.page_count;
    taken = λ g inside used.
        ap (λ flags. is_free flags g) stays.free
        ∙ elim (touched g) as (λ t. touched g ≡ t → is_free old.free g ≡ false) [
          | true ↦ taken g
          | false ↦ λ e. was.taken g (subst (λ n. g < n) stays.granule_count inside) (λ is. used (ap (λ (x : Granule). x.state) (stays.granule g e) ∙ is))
        ] refl;
  }

  -- A realm is left alone if the contents of no table change, and no granule in state RTT or DATA is touched.
  pub alone_after : ((g : ℕ) → (granule_at old.granules g).state ≡ InRtt → page_at new.pages g ≡ page_at old.pages g)
      → ((g : ℕ) → (granule_at old.granules g).state ≡ InRtt → touched g ≡ false)
      → ((g : ℕ) → (granule_at old.granules g).state ≡ InData → touched g ≡ false)
      → (rd : ℕ) → LeavesAlone rd old.pages old.granules new.pages new.granules
  alone_after pages tables data_pages rd = record {
    page = λ g is. pages g (ap (λ (x : Granule). x.state) is.is);
    table = λ g is. moved g (tables g (ap (λ (x : Granule). x.state) is.is)) InRtt is;
    «data» = λ g is. moved g (data_pages g (ap (λ (x : Granule). x.state) is.is)) InData is;
  }
    where
      moved : (g : ℕ) → touched g ≡ false → (state : GranuleState) → IsIn old.granules g state (Some rd) → IsIn new.granules g state (Some rd)
      moved g e state is = record { inside = subst (λ n. g < n) (sym stays.granule_count) is.inside; is = stays.granule g e ∙ is.is }

-- ---- RECs

-- a granule at which the fields have the attributes of a REC is in state REC, if `IsSoundAt` holds for it
pub in_rec : (fields : Fields) (g : ℕ) → IsSoundAt fields g → (rec : RecAttributes) → rec_at fields g ≡ Some rec → (granule_at fields.granules g).state ≡ InRec
in_rec fields g sound rec e = rec_state (granule_at fields.granules g).state (sym sound.rec ∙ ap is_some e)
  where
    rec_state : (state : GranuleState) → is_rec_state state ≡ true → state ≡ InRec
    rec_state InRec h = refl
    rec_state _ h = cc

-- The RECs and their granules stay the same.
pub record StayRecs (old new : Fields) : Type 0 where
  pub granule_count : length new.granules ≡ length old.granules
  pub rec : (g : ℕ) → rec_at new g ≡ rec_at old g
  pub granule : (g : ℕ) → (granule_at old.granules g).state ≡ InRec → granule_at new.granules g ≡ granule_at old.granules g
  pub auxiliary : (g : ℕ) → (granule_at old.granules g).state ≡ InRecAux → granule_at new.granules g ≡ granule_at old.granules g

-- The invariant of RECs holds after a command, and each realm but `rd` has the same RECs as before. The count kept for
-- each realm is the number of its RECs.
pub record LeavesRecs (old new : Fields) (rd : ℕ) : Type 0 where
  pub has : HasRecs new
  pub others : (r : ℕ) → r ≢ rd → recs_of new.granules new.recs r ≡ recs_of old.granules old.recs r
  pub counted : (r : ℕ) → rec_count_at new r ≡ len (recs_of new.granules new.recs r)

module _ (old new : Fields) (stay : StayRecs old new) (whole : IsWhole old) where
  rec_granule : (g : ℕ) (rec : RecAttributes) → rec_at old g ≡ Some rec → granule_at new.granules g ≡ granule_at old.granules g
  rec_granule g rec e = stay.granule g (in_rec old g (whole.each g) rec e)

  -- each realm has the same RECs as before
  pub recs_of_stay : (rd : ℕ) → recs_of new.granules new.recs rd ≡ recs_of old.granules old.recs rd
  unfolding recs_of
  recs_of_stay rd =
      ap (λ n. gathered (rec_of new.granules new.recs rd) n) stay.granule_count
      ∙ gathered-same (rec_of new.granules new.recs rd) (rec_of old.granules old.recs rd) (length old.granules) (λ g h. same g)
    where
      numbered : ℕ → RecAttributes → ℕ × RecRow
      numbered g rec = (rec.number, rec_row g rec)

      same : (g : ℕ) → rec_of new.granules new.recs rd g ≡ rec_of old.granules old.recs rd g
      same g = elim (rec_at old g) as (λ o. rec_at old g ≡ o → rec_of new.granules new.recs rd g ≡ rec_of old.granules old.recs rd g) [
        | Some rec ↦ λ e.
            ap (λ o. cond (is_of_realm new.granules rd g) (option_map (numbered g) o) None) (stay.rec g)
            ∙ ap (λ (x : Granule). cond (option_eq nat_eq x.realm (Some rd)) (option_map (numbered g) (rec_at old g)) None) (rec_granule g rec e)
        | None ↦ λ e. rec_of-none new.granules new.recs rd g (stay.rec g ∙ e) ∙ sym (rec_of-none old.granules old.recs rd g e)
      ] refl

  -- the invariant of RECs holds, if each realm that had a REC still exists, with no smaller next REC number
  HasRecs_stay : ((g rd : ℕ) (rec : RecAttributes) (realm : RealmAttributes) → rec_at old g ≡ Some rec → (granule_at old.granules g).realm ≡ Some rd → realm_at old rd ≡ Some realm
      → (now : RealmAttributes) × (realm_at new rd ≡ Some now) × (realm.next ≤ now.next))
      → HasRecs new
  HasRecs_stay there = record {
    of = of;
    once = λ g h rec other e e' same numbers.
        let at : rec_at old g ≡ Some rec = sym (stay.rec g) ∙ e in
        let at' : rec_at old h ≡ Some other = sym (stay.rec h) ∙ e' in
        whole.recs.once g h rec other at at' (sym (realm_same g rec at) ∙ same ∙ realm_same h other at') numbers;
    auxiliaries = λ g rec i auxiliary e listed.
        let at : rec_at old g ≡ Some rec = sym (stay.rec g) ∙ e in
        let is = whole.recs.auxiliaries g rec i auxiliary at listed in
        record {
          inside = subst (λ n. auxiliary < n) (sym stay.granule_count) is.inside;
          is = stay.auxiliary auxiliary (ap (λ (x : Granule). x.state) is.is) ∙ is.is ∙ ap (λ realm. record { state = InRecAux; realm = realm }) (sym (realm_same g rec at));
        };
    auxiliaries_once = λ g h rec other i j auxiliary e e'.
        whole.recs.auxiliaries_once g h rec other i j auxiliary (sym (stay.rec g) ∙ e) (sym (stay.rec h) ∙ e');
  }
    where
      realm_same : (g : ℕ) (rec : RecAttributes) → rec_at old g ≡ Some rec → (granule_at new.granules g).realm ≡ (granule_at old.granules g).realm
      realm_same g rec e = ap (λ (x : Granule). x.realm) (rec_granule g rec e)

      nat_within : (a b c : ℕ) → a < b → b ≤ c → a < c
      nat_within a b c h k = omega (arith, h, k)

      of : (g : ℕ) (rec : RecAttributes) → rec_at new g ≡ Some rec → IsRecOf new g rec
      of g rec e =
          let at : rec_at old g ≡ Some rec = sym (stay.rec g) ∙ e in
          let before : IsRecOf old g rec = whole.recs.of g rec at in
          let after = there g before.rd rec before.realm at before.of before.there in
          record { rd = before.rd; of = realm_same g rec at ∙ before.of; realm = after.0; there = after.1; below = nat_within rec.number before.realm.next after.0.next before.below after.2 }

  -- `LeavesRecs` holds for any realm, if the counts of RECs stay the same, and each realm that had a REC still exists,
  -- with no smaller next REC number
  pub recs_stay : new.rec_counts ≡ old.rec_counts
      → ((g rd : ℕ) (rec : RecAttributes) (realm : RealmAttributes) → rec_at old g ≡ Some rec → (granule_at old.granules g).realm ≡ Some rd → realm_at old rd ≡ Some realm
      → (now : RealmAttributes) × (realm_at new rd ≡ Some now) × (realm.next ≤ now.next))
      → (rd : ℕ) → LeavesRecs old new rd
  recs_stay counts there rd = record {
    has = HasRecs_stay there;
    others = λ r differs. recs_of_stay r;
    counted = λ r. ap (λ cs. get_or cs r 0) counts ∙ whole.counted r ∙ ap len (sym (recs_of_stay r));
  }

-- if the fields meet their invariant, the invariant of RECs still holds with any other pages and free flags
pub recs_beside : (old : Fields) → IsWhole old → (pages : List (List ℕ)) (free : List Bool) → HasRecs (record old { pages = pages; free = free })
recs_beside old whole pages free =
    (recs_stay old (record old { pages = pages; free = free }) (record { granule_count = refl; rec = λ g. refl; granule = λ g is. refl; auxiliary = λ g is. refl })
    whole refl (λ g rd rec realm at of there. (realm, there, omega arith)) 0).has

-- ---- tables

-- A realm whose tables are left alone still has these tables, and its rows stay the same.
module _ (old new : Fields) (whole : IsWhole old) (rd : ℕ) (alone : LeavesAlone rd old.pages old.granules new.pages new.granules)
    (realm : RealmAttributes) (there : realm_at old rd ≡ Some realm) where
  pub tables_stay : HasTables new.pages new.granules rd realm.root
  tables_stay = HasTables-alone old.pages old.granules new.pages new.granules rd realm.root (whole.tables rd realm there) alone

  pub rows_stay : rows new.pages realm.root ≡ rows old.pages realm.root
  rows_stay = rows-alone old.pages old.granules new.pages new.granules rd realm.root (whole.tables rd realm there) alone

-- ---- all together

-- From `old` to `new`, only realm `rd` may be created, changed or destroyed, and it has its tables if it exists in
-- `new`. The granules that are touched are sound, and the other realms are left alone.
pub record Leaves (old new : Fields) (rd : ℕ) (touched : ℕ → Bool) : Type 0 where
  pub stays : Stays old new touched
  pub realm_places : length new.realms ≡ length old.realms
  pub count_places : length new.rec_counts ≡ length old.rec_counts
  pub rec_places : length new.recs ≡ length old.recs
  pub backed : IsBacked new.pages new.free new.granules
  pub sound : (g : ℕ) → g ≢ rd → touched g ≡ true → IsSoundAt new g
  pub sound_rd : IsSoundAt new rd
  pub realms : (g : ℕ) → g ≢ rd → realm_at new g ≡ realm_at old g
  pub tables : (realm : RealmAttributes) → realm_at new rd ≡ Some realm → HasTables new.pages new.granules rd realm.root
  pub alone : LeavesOthers rd old.pages old.granules new.pages new.granules
  pub recs : LeavesRecs old new rd
  pub vmids_used : AreUsed new.realms new.used

module _ (old new : Fields) (rd : ℕ) (touched : ℕ → Bool) (leaves : Leaves old new rd touched) (whole : IsWhole old) where
  each_after : (g : ℕ) → IsSoundAt new g
  each_after g = elim (g == rd) as (λ t. (g == rd) ≡ t → IsSoundAt new g) [
    | true ↦ λ e. subst (IsSoundAt new) (sym (eqb-true g rd e)) leaves.sound_rd
    | false ↦ λ e. elim (touched g) as (λ t. touched g ≡ t → IsSoundAt new g) [
      | true ↦ leaves.sound g (eqb-false g rd e)
      | false ↦ λ out. sound_kept old new touched leaves.stays g out (leaves.realms g (eqb-false g rd e)) (whole.each g)
    ] refl
  ] refl

  tables_after : (g : ℕ) (realm : RealmAttributes) → realm_at new g ≡ Some realm → HasTables new.pages new.granules g realm.root
  tables_after g realm at = elim (g == rd) as (λ t. (g == rd) ≡ t → HasTables new.pages new.granules g realm.root) [
    | true ↦ λ e.
        let same = eqb-true g rd e in
        subst (λ h. HasTables new.pages new.granules h realm.root) (sym same) (leaves.tables realm (ap (realm_at new) (sym same) ∙ at))
    | false ↦ λ e.
        let differs = eqb-false g rd e in
        tables_stay old new whole g (leaves.alone g differs) realm (sym (leaves.realms g differs) ∙ at)
  ] refl

  -- the invariant holds after a change that meets `Leaves`
  pub whole_after : IsWhole new
  whole_after = record {
    backed = leaves.backed;
    realm_places = leaves.realm_places ∙ whole.realm_places ∙ sym leaves.stays.granule_count;
    count_places = leaves.count_places ∙ whole.count_places ∙ sym leaves.stays.granule_count;
    rec_places = leaves.rec_places ∙ whole.rec_places ∙ sym leaves.stays.granule_count;
    each = each_after;
    tables = tables_after;
    recs = leaves.recs.has;
    counted = leaves.recs.counted;
    vmids_used = leaves.vmids_used;
  }

  -- a granule that is neither touched nor the RD has the same cell as before
  pub cell_after : (g : ℕ) → touched g ≡ false → g ≢ rd → cell_of new g ≡ cell_of old g
  cell_after g e differs =
      cell_stays old new g (leaves.stays.granule g e) (leaves.stays.page g e)
      (descriptor_stays old new g (leaves.realms g differs) (leaves.recs.others g differs) (rows_stay old new whole g (leaves.alone g differs)))
