-- The proof that a command that changes one realm preserves the invariant of all realms.
use Rattle.std.proofs.Common.{◌≡◌, ◌≢◌, ℕ, ◌≤◌, Bool, true, false, cond, length, Some, option_map, refl, sym, ap, ◌∙◌, subst, arith}
use Rattle.std.specs.Prelude.{◌==◌, is_some}
use Rattle.std.specs.FinMap.{FinMap}
use Rattle.std.specs.Ordering.{nat_cmp}
use Rattle.std.proofs.lemmas.Bool.{eqb-true, eqb-false}
use Rattle.std.proofs.lemmas.Option.{same_Some}
use Rattle.rtt.specs.Granules.{granule_at}
use Rattle.rtt.specs.declared.granule.Granule.{Granule}
use Rattle.page_arena.specs.Page.{page_at}
use Rattle.realm_model.specs.declared.states.GranuleState.TheVariants.{Delegated, Rd as InRd, Rtt as InRtt}
use Rattle.realm_model.specs.Machine.{Cell, RealmRow, RecRow}
use Rattle.realm_model.specs.Rows.{Rows}
use Rattle.realm_model.specs.Sound.{is_host_state, is_rd_state}
use Rattle.rmi_monitor.specs.Attributes.{RealmAttributes, realm_row}
use Rattle.rtt.specs.Tables.{rows}
use Rattle.rtt.specs.Realm.{IsBacked, HasTables, LeavesOthers}
use Rattle.rmi_monitor.specs.Inside.{Fields, realm_at, recs_of, descriptor_of, bytes_of, cell_of, is_rec_state, IsSoundAt, IsWhole}
use Rattle.granule_addr.specs.Vmids.{is_used}
use Rattle.rmi_monitor.proofs.Frames.{Stays, LeavesRecs, Leaves, whole_after, cell_after}
use Rattle.rmi_monitor.proofs.RealmPlaces.{in_rd}
use Rattle.rmi_monitor.proofs.UsedVmids.{used-kept}

-- `now` has the starting tables, the IPA width and the VMID of `realm`, and no smaller number for the next REC.
pub record Keeps (realm now : RealmAttributes) : Type 0 where
  pub root : now.root ≡ realm.root
  pub vmid : now.vmid ≡ realm.vmid
  pub next : realm.next ≤ now.next

pub keeps_all : (realm : RealmAttributes) → Keeps realm realm
keeps_all realm = record { root = refl; vmid = refl; next = omega arith }

-- the cell with the given realm's record as its descriptor
abbrev pub with_row_of : Cell → RealmRow → Cell
with_row_of cell row = record cell { descriptor = Some row }

-- From `old` to `new`, the attributes of realm `rd` change from `realm` to `now`, and its tables and its RECs may
-- change. Granules may be moved to the realm or from it, but not its RD. The other realms are left alone.
pub record Changes (old new : Fields) (rd : ℕ) (moved : ℕ → Bool) (realm now : RealmAttributes) : Type 0 where
  pub there : realm_at old rd ≡ Some realm
  pub is : realm_at new rd ≡ Some now
  pub keeps : Keeps realm now
  pub realms : (g : ℕ) → g ≢ rd → realm_at new g ≡ realm_at old g
  pub used : new.used ≡ old.used
  pub realm_places : length new.realms ≡ length old.realms
  pub count_places : length new.rec_counts ≡ length old.rec_counts
  pub rec_places : length new.recs ≡ length old.recs
  pub stays : Stays old new moved
  pub rd_stays : moved rd ≡ false
  pub sound : (g : ℕ) → moved g ≡ true → IsSoundAt new g
  pub backed : IsBacked new.pages new.free new.granules
  pub tables : HasTables new.pages new.granules rd realm.root
  pub alone : LeavesOthers rd old.pages old.granules new.pages new.granules
  pub recs : LeavesRecs old new rd

-- a realm that existed still exists, with no smaller next REC number
pub still_there : (old new : Fields) (rd : ℕ) (realm now : RealmAttributes) → realm_at old rd ≡ Some realm → realm_at new rd ≡ Some now → Keeps realm now
    → ((g : ℕ) → g ≢ rd → realm_at new g ≡ realm_at old g)
    → (g : ℕ) (r : RealmAttributes) → realm_at old g ≡ Some r → (after : RealmAttributes) × (realm_at new g ≡ Some after) × (r.next ≤ after.next)
still_there old new rd realm now there is keeps others g r at =
    elim (g == rd) as (λ t. (g == rd) ≡ t → (after : RealmAttributes) × (realm_at new g ≡ Some after) × (r.next ≤ after.next)) [
      | true ↦ λ e.
          let same = eqb-true g rd e in
          let was : realm ≡ r = same_Some realm r (sym there ∙ ap (realm_at old) (sym same) ∙ at) in
          (now, ap (realm_at new) same ∙ is, subst (λ (x : RealmAttributes). x.next ≤ now.next) was keeps.next)
      | false ↦ λ e. (r, others g (eqb-false g rd e) ∙ at, omega arith)
    ] refl

module _ (old new : Fields) (rd : ℕ) (moved : ℕ → Bool) (realm now : RealmAttributes) (changes : Changes old new rd moved realm now) (whole : IsWhole old) where
  was_rd : (granule_at old.granules rd).state ≡ InRd
  was_rd = in_rd old whole rd realm changes.there

  rd_granule : granule_at new.granules rd ≡ granule_at old.granules rd
  rd_granule = changes.stays.granule rd changes.rd_stays

  rd_page : page_at new.pages rd ≡ page_at old.pages rd
  rd_page = changes.stays.page rd changes.rd_stays (λ e. let differ : InRd ≡ InRtt = sym was_rd ∙ e in cc)

  sound_rd : IsSoundAt new rd
  sound_rd =
      let state : (granule_at new.granules rd).state ≡ InRd = ap (λ (x : Granule). x.state) rd_granule ∙ was_rd in
      record {
        host = λ h. let differ : false ≡ true = sym (ap is_host_state state) ∙ h in cc;
        zero = λ h. let differ : InRd ≡ Delegated = sym state ∙ h in cc;
        rd = ap is_some changes.is ∙ sym (ap is_rd_state state);
        rec = ap is_some (changes.stays.rec rd changes.rd_stays) ∙ (whole.each rd).rec ∙ ap is_rec_state was_rd ∙ sym (ap is_rec_state state);
      }

  leaves : Leaves old new rd moved
  leaves = record {
    stays = changes.stays;
    realm_places = changes.realm_places;
    count_places = changes.count_places;
    rec_places = changes.rec_places;
    backed = changes.backed;
    sound = λ g differs. changes.sound g;
    sound_rd = sound_rd;
    realms = changes.realms;
    tables = λ r at.
        let root : realm.root ≡ r.root = sym changes.keeps.root ∙ ap (λ (x : RealmAttributes). x.root) (same_Some now r (sym changes.is ∙ at)) in
        subst (HasTables new.pages new.granules rd) root changes.tables;
    alone = changes.alone;
    recs = changes.recs;
    vmids_used = λ vmid.
        used-kept old.realms new.realms old.used whole.vmids_used changes.realm_places rd realm now changes.there changes.is changes.keeps.vmid changes.realms vmid
        ∙ ap (λ used. cond (is_used used vmid) 1 0) (sym changes.used);
  }

  pub whole_changed : IsWhole new
  whole_changed = whole_after old new rd moved leaves whole

  pub cell_unchanged : (g : ℕ) → moved g ≡ false → g ≢ rd → cell_of new g ≡ cell_of old g
  cell_unchanged = cell_after old new rd moved leaves whole

  -- the cell of the realm's RD changes only in its descriptor, which has the new attributes, RECs and translation
  pub cell_changed : (recs : FinMap nat_cmp RecRow) (translation : Rows) → recs_of new.granules new.recs rd ≡ recs → rows new.pages realm.root ≡ translation
      → cell_of new rd ≡ with_row_of (cell_of old rd) (realm_row now recs translation)
  cell_changed recs translation recs_are rows_are =
      let row : descriptor_of new rd ≡ Some (realm_row now recs translation) =
      ap (option_map (λ (r : RealmAttributes). realm_row r (recs_of new.granules new.recs rd) (rows new.pages r.root))) changes.is
      ∙ (λ i. Some (realm_row now (recs_are i) ((ap (rows new.pages) changes.keeps.root ∙ rows_are) i))) in
      λ i. record { state = (rd_granule i).state; realm = (rd_granule i).realm; bytes = bytes_of (rd_granule i).state (rd_page i); descriptor = row i }
