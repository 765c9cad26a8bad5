-- Proofs that changing one granule preserves the invariant and all other cells of an RMM, if the granule is UNDELEGATED
-- or DELEGATED before and afterwards. The granule is not free, and it is zero if it is DELEGATED afterwards.
use Rattle.std.proofs.Common.{◌≡◌, ◌≢◌, ℕ, ◌<◌, Bool, true, false, List, [], length, set, None, refl, sym, ap, ◌∙◌, subst, arith}
use Rattle.std.specs.Prelude.{◌==◌}
use Rattle.std.proofs.lemmas.Bool.{eqb-true, eqb-false, ne_eqb}
use Rattle.std.proofs.lemmas.List.{length-set, get_or-set_same, get_or-set_other}
use Rattle.rtt.specs.Granules.{granule_at, undelegated}
use Rattle.rtt.specs.declared.granule.Granule.{Granule}
use Rattle.page_arena.specs.Page.{page_at, is_free}
use Rattle.granule_addr.specs.Page.{zero_page}
use Rattle.realm_model.specs.declared.states.GranuleState.{GranuleState}
use Rattle.realm_model.specs.declared.states.GranuleState.TheVariants.{Undelegated, Delegated, Data as InData, Rec as InRec, RecAux as InRecAux, Rtt as InRtt}
use Rattle.realm_model.specs.Machine.{Cell}
use Rattle.realm_model.specs.Sound.{is_host_state, is_rd_state}
use Rattle.realm_model.proofs.Roles.{host_no_rd}
use Rattle.rtt.specs.Realm.{LeavesAlone}
use Rattle.rmi_monitor.specs.Inside.{Fields, bytes_of, cell_of, machine_of, is_rec_state, IsSoundAt, IsWhole}
use Rattle.rmi_monitor.proofs.Machines.{one_put, cell_plain}
use Rattle.rmi_monitor.proofs.Frames.{Stays, StayRecs, backed_after, alone_after, recs_stay, tables_stay, Leaves, whole_after, cell_after}
use Rattle.rmi_monitor.proofs.RealmPlaces.{no_realm_there}

-- the fields after one granule gets the given state and contents, and belongs to no realm
abbrev pub moved : Fields → ℕ → GranuleState → List ℕ → Fields
moved fields g state page = record fields {
  granules = set fields.granules g (record { state = state; realm = None });
  pages = set fields.pages g page;
}

-- the cell of a granule that belongs to no realm, with the given state and contents
abbrev pub host_cell : GranuleState → List ℕ → Cell
host_cell state page = record { state = state; realm = None; bytes = page; descriptor = None }

-- a state that is UNDELEGATED or DELEGATED differs from each state that is neither
not_in : (state wanted : GranuleState) → is_host_state wanted ≡ false → is_host_state state ≡ true → state ≡ wanted → ⊥
not_in state wanted held own is = absurd (true_is_not_false (sym own ∙ ap is_host_state is ∙ held))
  where
    true_is_not_false : true ≡ false → ⊥
    true_is_not_false e = cc

pub not_rec : (s : GranuleState) → is_host_state s ≡ true → is_rec_state s ≡ false
not_rec Undelegated h = refl
not_rec Delegated h = refl
not_rec _ h = cc

-- the cell of an UNDELEGATED or DELEGATED granule has the granule's state and contents, no realm and no descriptor
pub cell_of-host : (fields : Fields) (g : ℕ) → IsSoundAt fields g → {state : GranuleState} → (granule_at fields.granules g).state ≡ state → is_host_state state ≡ true
    → {page : List ℕ} → page_at fields.pages g ≡ page → cell_of fields g ≡ host_cell state page
cell_of-host fields g sound {state} at is {page} page_is =
    let host : is_host_state (granule_at fields.granules g).state ≡ true = ap is_host_state at ∙ is in
    cell_plain fields g (record { state = state; realm = None }) page (λ i. record { state = at i; realm = sound.host host i }) page_is
    (no_realm_there fields g sound (host_no_rd (granule_at fields.granules g).state host))
    ∙ ap (λ b. record { state = state; realm = None; bytes = b; descriptor = None }) (plain state is)
  where
    plain : (s : GranuleState) → is_host_state s ≡ true → bytes_of s page ≡ page
    plain Undelegated h = refl
    plain Delegated h = refl
    plain _ h = cc

module _ (old : Fields) (whole : IsWhole old) (g : ℕ) (inside : g < length old.granules) (taken : is_free old.free g ≡ false)
    (state : GranuleState) (page : List ℕ) (was : is_host_state (granule_at old.granules g).state ≡ true) (is : is_host_state state ≡ true)
    (zero : state ≡ Delegated → page ≡ zero_page) where
  abbrev new : Fields
  new = moved old g state page

  abbrev touched : ℕ → Bool
  touched h = h == g

  other : (h : ℕ) → touched h ≡ false → h ≢ g
  other h e = eqb-false h g e

  stays : Stays old new touched
  stays = record {
    free = refl;
    granule_count = length-set old.granules g (record { state = state; realm = None });
    page_count = length-set old.pages g page;
    granule = λ h e. get_or-set_other old.granules g h (record { state = state; realm = None }) undelegated (other h e);
    page = λ h e not_table. get_or-set_other old.pages g h page [] (other h e);
    rec = λ h e. refl;
  }

  granule_is : granule_at new.granules g ≡ record { state = state; realm = None }
  granule_is = get_or-set_same old.granules g (record { state = state; realm = None }) undelegated inside

  state_is : (granule_at new.granules g).state ≡ state
  state_is = ap (λ (x : Granule). x.state) granule_is

  page_is : page_at new.pages g ≡ page
  page_is = get_or-set_same old.pages g page [] (subst (λ n. g < n) whole.backed.as_many inside)

  sound : IsSoundAt new g
  sound = record {
    host = λ h. ap (λ (x : Granule). x.realm) granule_is;
    zero = λ h. page_is ∙ zero (sym state_is ∙ h);
    rd = (whole.each g).rd ∙ host_no_rd (granule_at old.granules g).state was ∙ sym (ap is_rd_state state_is ∙ host_no_rd state is);
    rec = (whole.each g).rec ∙ not_rec (granule_at old.granules g).state was ∙ sym (ap is_rec_state state_is ∙ not_rec state is);
  }

  not_touched : (wanted : GranuleState) → is_host_state wanted ≡ false → (h : ℕ) → (granule_at old.granules h).state ≡ wanted → touched h ≡ false
  not_touched wanted held h at = elim (touched h) as (λ t. touched h ≡ t → touched h ≡ false) [
    | true ↦ λ e. absurd (not_in (granule_at old.granules g).state wanted held was (ap (λ k. (granule_at old.granules k).state) (sym (eqb-true h g e)) ∙ at))
    | false ↦ λ e. e
  ] refl

  alone : (rd : ℕ) → LeavesAlone rd old.pages old.granules new.pages new.granules
  alone = alone_after old new touched stays
      (λ h at. get_or-set_other old.pages g h page [] (other h (not_touched InRtt refl h at)))
      (not_touched InRtt refl) (not_touched InData refl)

  stay_recs : StayRecs old new
  stay_recs = record {
    granule_count = stays.granule_count;
    rec = λ h. refl;
    granule = λ h at. stays.granule h (not_touched InRec refl h at);
    auxiliary = λ h at. stays.granule h (not_touched InRecAux refl h at);
  }

  leaves : Leaves old new g touched
  leaves = record {
    stays = stays;
    realm_places = refl;
    count_places = refl;
    rec_places = refl;
    backed = backed_after old new touched stays whole.backed (λ h e. ap (is_free old.free) (eqb-true h g e) ∙ taken);
    sound = λ h differs e. absurd (differs (eqb-true h g e));
    sound_rd = sound;
    realms = λ h differs. refl;
    tables = tables_stay old new whole g (alone g);
    alone = λ h differs. alone h;
    recs = recs_stay old new stay_recs whole refl (λ h rd rec realm at of there. (realm, there, omega arith)) g;
    vmids_used = whole.vmids_used;
  }

  pub whole_moved : IsWhole (moved old g state page)
  whole_moved = whole_after old new g touched leaves whole

  cell_is : cell_of new g ≡ host_cell state page
  cell_is = cell_of-host new g sound state_is is page_is

  -- changing one granule by `moved` sets the granule's cell in the machine, and changes no other cell
  pub machine_of-moved : machine_of (moved old g state page) ≡ set (machine_of old) g (host_cell state page)
  machine_of-moved =
      one_put old new stays.granule_count g (host_cell state page) inside cell_is
      (λ h within differs. cell_after old new g touched leaves whole h (ne_eqb h g differs) differs)
