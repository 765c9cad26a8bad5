-- Proofs that the invariant of an RMM's fields holds after a call on a realm's tables that changes the state of at most
-- one granule.
use Rattle.std.proofs.Common.{◌≡◌, ◌≢◌, ℕ, ◌<◌, ◌≤◌, Bool, true, false, List, length, set, Option, Some, None, refl, sym, ap, ◌∙◌, subst}
use Rattle.std.specs.Prelude.{◌==◌, is_some}
use Rattle.std.proofs.lemmas.Bool.{eqb-true, eqb-false, ne_eqb}
use Rattle.std.proofs.lemmas.List.{length-set, get_or-set_same, get_or-set_other}
use Rattle.rtt.specs.Granules.{granule_at, undelegated}
use Rattle.rtt.specs.declared.granule.Granule.{Granule}
use Rattle.page_arena.specs.Page.{page_at}
use Rattle.granule_addr.specs.Page.{zero_page}
use Rattle.realm_model.specs.declared.states.GranuleState.{GranuleState}
use Rattle.realm_model.specs.declared.states.GranuleState.TheVariants.{Undelegated, Delegated, Data as InData, Rd as InRd, Rec as InRec, RecAux as InRecAux, Rtt as InRtt}
use Rattle.realm_model.specs.Sound.{is_host_state, is_rd_state}
use Rattle.rmi_monitor.specs.Attributes.{RealmAttributes, RecAttributes, realm_row}
use Rattle.rtt.specs.Tables.{rows}
use Rattle.rtt.specs.Realm.{IsBacked, HasTables, IsTableOf, LeavesOthers}
use Rattle.rmi_monitor.specs.Inside.{Fields, realm_at, rec_at, recs_of, bytes_of, cell_of, machine_of, is_rec_state, IsSoundAt, IsWhole}
use Rattle.rmi_monitor.proofs.Machines.{one_put, two_put, cell_plain}
use Rattle.rmi_monitor.proofs.Frames.{StayRecs, recs_of_stay, recs_stay}
use Rattle.rmi_monitor.proofs.RealmPlaces.{realm_inside, in_rd, no_table, no_realm_there}
use Rattle.rmi_monitor.proofs.RealmAfter.{Keeps, Changes, with_row_of, still_there, whole_changed, cell_unchanged, cell_changed}

-- the state is DELEGATED, DATA or RTT
abbrev pub is_moved_state : GranuleState → Bool
is_moved_state Delegated = true
is_moved_state InData = true
is_moved_state InRtt = true
is_moved_state _ = false

not_moved : (state wanted : GranuleState) → is_moved_state wanted ≡ false → is_moved_state state ≡ true → state ≡ wanted → ⊥
not_moved state wanted held own is = let differ : true ≡ false = sym own ∙ ap is_moved_state is ∙ held in cc

moved_not_rd : (state : GranuleState) → is_moved_state state ≡ true → is_rd_state state ≡ false
moved_not_rd Delegated h = refl
moved_not_rd InData h = refl
moved_not_rd InRtt h = refl
moved_not_rd _ h = cc

moved_not_rec : (state : GranuleState) → is_moved_state state ≡ true → is_rec_state state ≡ false
moved_not_rec Delegated h = refl
moved_not_rec InData h = refl
moved_not_rec InRtt h = refl
moved_not_rec _ h = cc

module _ (old : Fields) (whole : IsWhole old) (rd : ℕ) (realm now : RealmAttributes) (there : realm_at old rd ≡ Some realm)
    (keeps : Keeps realm now) (granules : List Granule) (pages : List (List ℕ)) (free : List Bool)
    (flags : free ≡ old.free) (backed : IsBacked pages free granules) (tables : HasTables pages granules rd realm.root)
    (alone : LeavesOthers rd old.pages old.granules pages granules) where
  abbrev new : Fields
  new = record old { granules = granules; pages = pages; free = free; realms = set old.realms rd (Some now) }

  rd_inside : rd < length old.granules
  rd_inside = realm_inside old whole rd realm there

  realm_is : realm_at new rd ≡ Some now
  realm_is = get_or-set_same old.realms rd (Some now) None (subst (λ n. rd < n) (sym whole.realm_places) rd_inside)

  realm_other : (g : ℕ) → g ≢ rd → realm_at new g ≡ realm_at old g
  realm_other g differs = get_or-set_other old.realms rd g (Some now) None differs

  page_count : length granules ≡ length old.granules → length pages ≡ length old.pages
  page_count same = sym backed.as_many ∙ same ∙ whole.backed.as_many

  -- a realm that has a REC still exists, with no smaller next REC number
  survives : (g r : ℕ) (rec : RecAttributes) (a : RealmAttributes) → rec_at old g ≡ Some rec → (granule_at old.granules g).realm ≡ Some r → realm_at old r ≡ Some a
      → (after : RealmAttributes) × (realm_at new r ≡ Some after) × (a.next ≤ after.next)
  survives g r rec a at of is = still_there old new rd realm now there realm_is keeps realm_other r a is

  -- ---- no granule is moved

  module _ (same : granules ≡ old.granules) (page_stays : (g : ℕ) → (IsTableOf old.pages realm.root g → ⊥) → page_at pages g ≡ page_at old.pages g) where
    abbrev none : ℕ → Bool
    none g = false

    granule_same : (g : ℕ) → granule_at granules g ≡ granule_at old.granules g
    granule_same g = ap (λ gs. granule_at gs g) same

    stay_recs : StayRecs old new
    stay_recs = record { granule_count = ap length same; rec = λ g. refl; granule = λ g is. granule_same g; auxiliary = λ g is. granule_same g }

    still : Changes old new rd none realm now
    still = record {
      there = there;
      is = realm_is;
      keeps = keeps;
      realms = realm_other;
      used = refl;
      realm_places = length-set old.realms rd (Some now);
      count_places = refl;
      rec_places = refl;
      stays = record {
        free = flags;
        granule_count = ap length same;
        page_count = page_count (ap length same);
        granule = λ g e. granule_same g;
        page = λ g e not_rtt. page_stays g (no_table old whole rd realm there g not_rtt);
        rec = λ g e. refl;
      };
      rd_stays = refl;
      sound = λ g e. cc;
      backed = backed;
      tables = tables;
      alone = alone;
      recs = recs_stay old new stay_recs whole refl survives rd;
    }

    pub whole_still : IsWhole new
    whole_still = whole_changed old new rd none realm now still whole

    pub machine_still : machine_of new ≡ set (machine_of old) rd (with_row_of (cell_of old rd) (realm_row now (recs_of old.granules old.recs rd) (rows pages realm.root)))
    machine_still =
        one_put old new (ap length same) rd _ rd_inside
        (cell_changed old new rd none realm now still whole (recs_of old.granules old.recs rd) (rows pages realm.root) (recs_of_stay old new stay_recs whole rd) refl)
        (λ g inside differs. cell_unchanged old new rd none realm now still whole g refl differs)

  -- ---- a granule is moved

  module _ (m : ℕ) (inside : m < length old.granules) (state : GranuleState) (owner : Option ℕ) (moved : granules ≡ set old.granules m (record { state = state; realm = owner }))
      (was : is_moved_state (granule_at old.granules m).state ≡ true) (is : is_moved_state state ≡ true)
      (host : state ≡ Delegated → owner ≡ None) (zero : state ≡ Delegated → page_at pages m ≡ zero_page)
      (page_stays : (g : ℕ) → g ≢ m → (IsTableOf old.pages realm.root g → ⊥) → page_at pages g ≡ page_at old.pages g) where
    abbrev here : ℕ → Bool
    here g = g == m

    apart : rd ≢ m
    apart e = not_moved (granule_at old.granules m).state InRd refl was (ap (λ g. (granule_at old.granules g).state) (sym e) ∙ in_rd old whole rd realm there)

    count : length granules ≡ length old.granules
    count = ap length moved ∙ length-set old.granules m (record { state = state; realm = owner })

    granule_other : (g : ℕ) → g ≢ m → granule_at granules g ≡ granule_at old.granules g
    granule_other g differs = ap (λ gs. granule_at gs g) moved ∙ get_or-set_other old.granules m g (record { state = state; realm = owner }) undelegated differs

    granule_is : granule_at granules m ≡ record { state = state; realm = owner }
    granule_is = ap (λ gs. granule_at gs m) moved ∙ get_or-set_same old.granules m (record { state = state; realm = owner }) undelegated inside

    state_is : (granule_at granules m).state ≡ state
    state_is = ap (λ (x : Granule). x.state) granule_is

    not_here : (wanted : GranuleState) → is_moved_state wanted ≡ false → (g : ℕ) → (granule_at old.granules g).state ≡ wanted → g ≢ m
    not_here wanted held g at e = not_moved (granule_at old.granules m).state wanted held was (ap (λ k. (granule_at old.granules k).state) (sym e) ∙ at)

    sound_moved : IsSoundAt new m
    sound_moved = record {
      host = λ h. ap (λ (x : Granule). x.realm) granule_is ∙ host (host_delegated state is (sym (ap is_host_state state_is) ∙ h));
      zero = λ h. zero (sym state_is ∙ h);
      rd = ap is_some (realm_other m (λ e. apart (sym e))) ∙ (whole.each m).rd ∙ moved_not_rd (granule_at old.granules m).state was ∙ sym (ap is_rd_state state_is ∙ moved_not_rd state is);
      rec = (whole.each m).rec ∙ moved_not_rec (granule_at old.granules m).state was ∙ sym (ap is_rec_state state_is ∙ moved_not_rec state is);
    }
      where
        host_delegated : (s : GranuleState) → is_moved_state s ≡ true → is_host_state s ≡ true → s ≡ Delegated
        host_delegated Delegated a b = refl
        host_delegated Undelegated a b = cc
        host_delegated _ a b = cc

    moved_recs : StayRecs old new
    moved_recs = record {
      granule_count = count;
      rec = λ g. refl;
      granule = λ g at. granule_other g (not_here InRec refl g at);
      auxiliary = λ g at. granule_other g (not_here InRecAux refl g at);
    }

    changed : Changes old new rd here realm now
    changed = record {
      there = there;
      is = realm_is;
      keeps = keeps;
      realms = realm_other;
      used = refl;
      realm_places = length-set old.realms rd (Some now);
      count_places = refl;
      rec_places = refl;
      stays = record {
        free = flags;
        granule_count = count;
        page_count = page_count count;
        granule = λ g e. granule_other g (eqb-false g m e);
        page = λ g e not_rtt. page_stays g (eqb-false g m e) (no_table old whole rd realm there g not_rtt);
        rec = λ g e. refl;
      };
      rd_stays = ne_eqb rd m apart;
      sound = λ g e. subst (IsSoundAt new) (sym (eqb-true g m e)) sound_moved;
      backed = backed;
      tables = tables;
      alone = alone;
      recs = recs_stay old new moved_recs whole refl survives rd;
    }

    pub whole_moved_to : IsWhole new
    whole_moved_to = whole_changed old new rd here realm now changed whole

    cell_moved : cell_of new m ≡ record { state = state; realm = owner; bytes = bytes_of state (page_at pages m); descriptor = None }
    cell_moved =
        let none : realm_at new m ≡ None =
        realm_other m (λ e. apart (sym e)) ∙ no_realm_there old m (whole.each m) (moved_not_rd (granule_at old.granules m).state was) in
        cell_plain new m (record { state = state; realm = owner }) (page_at pages m) granule_is refl none

    pub machine_moved_to : machine_of new
        ≡ set (set (machine_of old) m (record { state = state; realm = owner; bytes = bytes_of state (page_at pages m); descriptor = None })) rd
        (with_row_of (cell_of old rd) (realm_row now (recs_of old.granules old.recs rd) (rows pages realm.root)))
    machine_moved_to =
        two_put old new count m rd _ _ inside rd_inside (λ e. apart (sym e)) cell_moved
        (cell_changed old new rd here realm now changed whole (recs_of old.granules old.recs rd) (rows pages realm.root) (recs_of_stay old new moved_recs whole rd) refl)
        (λ g within not_m not_rd. cell_unchanged old new rd here realm now changed whole g (ne_eqb g m not_m) not_rd)
