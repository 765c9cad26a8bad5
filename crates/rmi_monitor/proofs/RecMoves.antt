-- Lemmas about the granules that change state when a REC is created or destroyed: all other RECs and all tables stay
-- the same.
use Rattle.std.proofs.Common.{◌≡◌, ◌≢◌, ℕ, ◌<◌, Bool, true, false, cond, List, ◌∷◌, length, set, get_or, Option, Some, None, option_map, refl, sym, ap, ◌∙◌, subst}
use Rattle.std.specs.Prelude.{◌==◌, nat_eq}
use Rattle.std.specs.Option.{option_eq}
use Rattle.std.proofs.lemmas.Bool.{eqb-true, eqb-false}
use Rattle.std.proofs.lemmas.List.{length-set, get_or-set_same, get_or-set_other}
use Rattle.granule_addr.specs.Page.{zero_page}
use Rattle.rtt.specs.Granules.{granule_at, undelegated}
use Rattle.rtt.specs.declared.granule.Granule.{Granule}
use Rattle.page_arena.specs.Page.{page_at}
use Rattle.realm_model.specs.declared.states.GranuleState.{GranuleState}
use Rattle.realm_model.specs.declared.states.GranuleState.TheVariants.{Undelegated, Delegated, Rd as InRd, Rec as InRec, RecAux as InRecAux, Rtt as InRtt}
use Rattle.realm_model.specs.Machine.{RecRow}
use Rattle.realm_model.specs.Sound.{is_rd_state}
use Rattle.realm_model.proofs.Booleans.{or_parts, true_false, false_from, none_from}
use Rattle.realm_model.specs.Command.Check.{is_in}
use Rattle.realm_model.proofs.Lists.{is_in_head, is_in_more}
use Rattle.rmi_monitor.specs.Attributes.{RealmAttributes, RecAttributes, rec_row}
use Rattle.rtt.specs.Tables.{rows}
use Rattle.rtt.specs.Realm.{IsBacked, LeavesAlone}
use Rattle.rmi_monitor.specs.Gathered.{gathered}
use Rattle.rmi_monitor.specs.Inside.{Fields, realm_at, rec_count_at, rec_at, rec_of, recs_of, bytes_of, cell_of, is_rec_state, IsSoundAt, IsWhole}
use Rattle.rmi_monitor.proofs.Frames.{Stays, backed_after, alone_after, LeavesRecs, tables_stay, rows_stay}
use Rattle.rmi_monitor.proofs.Gathered.{gathered-same}
use Rattle.rmi_monitor.proofs.Machines.{cell_plain}
use Rattle.rmi_monitor.proofs.Puts.{put_all, length-put_all, put_all-first, put_all-rest, put_all-out, out_of}
use Rattle.rmi_monitor.proofs.RealmAfter.{Keeps, Changes}
use Rattle.rmi_monitor.proofs.RealmPlaces.{realm_inside, in_rd}
use Rattle.rmi_monitor.proofs.RecEntries.{rec_of-none}

-- the state is DELEGATED, REC or REC_AUX
abbrev pub is_moved_state : GranuleState → Bool
is_moved_state Delegated = true
is_moved_state InRec = true
is_moved_state InRecAux = true
is_moved_state _ = false

-- The creation or the removal of a REC. It has the REC's granule and auxiliaries with their new states, and the new
-- pages. It has the realm's attributes before and after, the new count of its RECs, and the new REC, or none for a
-- removal. No auxiliary was in state REC before.
pub record RecMove (old : Fields) : Type 0 where
  pub rd : ℕ
  pub granule : ℕ
  pub auxiliaries : List ℕ
  pub first : Granule
  pub rest : Granule
  pub pages : List (List ℕ)
  pub realms : List (Option RealmAttributes)
  pub realm : RealmAttributes
  pub now : RealmAttributes
  pub count : ℕ
  pub rec : Option RecAttributes
  pub there : realm_at old rd ≡ Some realm
  pub is : get_or realms rd None ≡ Some now
  pub keeps : Keeps realm now
  pub others : (g : ℕ) → g ≢ rd → get_or realms g None ≡ realm_at old g
  pub realm_places : length realms ≡ length old.realms
  pub inside : (g : ℕ) → is_in g (granule ∷ auxiliaries) ≡ true → g < length old.granules
  pub states : (g : ℕ) → is_in g (granule ∷ auxiliaries) ≡ true → is_moved_state (granule_at old.granules g).state ≡ true
  pub no_recs : (g : ℕ) → is_in g auxiliaries ≡ true → is_rec_state (granule_at old.granules g).state ≡ false
  pub own : is_in granule auxiliaries ≡ false
  pub page_count : length pages ≡ length old.pages
  pub page : (g : ℕ) → is_in g (granule ∷ auxiliaries) ≡ false → page_at pages g ≡ page_at old.pages g

abbrev pub after_move : (old : Fields) → RecMove old → Fields
after_move old move = record old {
  granules = put_all old.granules move.granule move.auxiliaries move.first move.rest;
  pages = move.pages;
  realms = move.realms;
  rec_counts = set old.rec_counts move.rd move.count;
  recs = set old.recs move.granule move.rec;
}

module _ (old : Fields) (whole : IsWhole old) (move : RecMove old) where
  abbrev new : Fields
  new = after_move old move

  abbrev rd : ℕ
  rd = move.rd

  abbrev moved : ℕ → Bool
  moved g = is_in g (move.granule ∷ move.auxiliaries)

  -- ---- the granules after the command

  pub granule_count : length new.granules ≡ length old.granules
  granule_count = length-put_all old.granules move.granule move.auxiliaries move.first move.rest undelegated

  first_inside : move.granule < length old.granules
  first_inside = move.inside move.granule (is_in_head move.granule move.auxiliaries)

  pub granule_first : granule_at new.granules move.granule ≡ move.first
  granule_first = put_all-first old.granules move.granule move.auxiliaries move.first move.rest undelegated move.own first_inside

  pub granule_rest : (g : ℕ) → is_in g move.auxiliaries ≡ true → granule_at new.granules g ≡ move.rest
  granule_rest g e =
      put_all-rest old.granules move.granule move.auxiliaries move.first move.rest undelegated g (move.inside g (is_in_more g move.granule move.auxiliaries e)) e

  pub granule_out : (g : ℕ) → moved g ≡ false → granule_at new.granules g ≡ granule_at old.granules g
  granule_out = put_all-out old.granules move.granule move.auxiliaries move.first move.rest undelegated

  pub rec_first : rec_at new move.granule ≡ move.rec
  rec_first = get_or-set_same old.recs move.granule move.rec None (subst (λ n. move.granule < n) (sym whole.rec_places) first_inside)

  pub rec_out : (g : ℕ) → g ≢ move.granule → rec_at new g ≡ rec_at old g
  rec_out g differs = get_or-set_other old.recs move.granule g move.rec None differs

  pub count_rd : rec_count_at new rd ≡ move.count
  count_rd = get_or-set_same old.rec_counts rd move.count 0 (subst (λ n. rd < n) (sym whole.count_places) (realm_inside old whole rd move.realm move.there))

  pub count_out : (g : ℕ) → g ≢ rd → rec_count_at new g ≡ rec_count_at old g
  count_out g differs = get_or-set_other old.rec_counts rd g move.count 0 differs

  -- ---- no granule that is moved is an RD, and no auxiliary is a REC

  not_rd : (g : ℕ) → moved g ≡ true → is_rd_state (granule_at old.granules g).state ≡ false
  not_rd g e = other (granule_at old.granules g).state (move.states g e)
    where
      other : (state : GranuleState) → is_moved_state state ≡ true → is_rd_state state ≡ false
      other InRd h = cc
      other _ h = refl

  -- a granule in a state other than DELEGATED, REC and REC_AUX is not moved
  not_moved : (g : ℕ) → is_moved_state (granule_at old.granules g).state ≡ false → moved g ≡ false
  not_moved g e = false_from _ (λ there. true_false _ (move.states g there) e)

  rd_stays : moved rd ≡ false
  rd_stays = not_moved rd (ap is_moved_state (in_rd old whole rd move.realm move.there))

  pub no_realm : (g : ℕ) → moved g ≡ true → realm_at new g ≡ None
  no_realm g e =
      move.others g (λ same. true_false _ e (ap moved same ∙ rd_stays)) ∙ none_from (realm_at old g) ((whole.each g).rd ∙ not_rd g e)

  pub no_rec : (g : ℕ) → is_in g move.auxiliaries ≡ true → rec_at old g ≡ None
  no_rec g e = none_from (rec_at old g) ((whole.each g).rec ∙ move.no_recs g e)

  -- ---- the RECs of realms

  -- each granule but the REC's has the same entry among a realm's RECs as before
  pub rec_of_stays : (r g : ℕ) → g ≢ move.granule → rec_of new.granules new.recs r g ≡ rec_of old.granules old.recs r g
  rec_of_stays r g differs = elim (is_in g move.auxiliaries) as (λ t. is_in g move.auxiliaries ≡ t → rec_of new.granules new.recs r g ≡ rec_of old.granules old.recs r g) [
    | true ↦ λ e.
        rec_of-none new.granules new.recs r g (rec_out g differs ∙ no_rec g e)
        ∙ sym (rec_of-none old.granules old.recs r g (no_rec g e))
    | false ↦ λ e.
        let granule : granule_at new.granules g ≡ granule_at old.granules g = granule_out g (out_of g move.granule move.auxiliaries differs e) in
        ap (λ o. at_place r g (granule_at new.granules g) o) (rec_out g differs) ∙ ap (λ x. at_place r g x (rec_at old g)) granule
  ] refl
    where
      at_place : ℕ → ℕ → Granule → Option RecAttributes → Option (ℕ × RecRow)
      at_place r g x o = cond (option_eq nat_eq x.realm (Some r)) (option_map (λ rec. (rec.number, rec_row g rec)) o) None

  -- a realm has the same RECs as before, if the granule of the created or removed REC has the same entry among them
  pub recs_of_stays : (r : ℕ) → rec_of new.granules new.recs r move.granule ≡ rec_of old.granules old.recs r move.granule
      → recs_of new.granules new.recs r ≡ recs_of old.granules old.recs r
  unfolding recs_of
  recs_of_stays r here =
      ap (λ n. gathered (rec_of new.granules new.recs r) n) granule_count
      ∙ gathered-same (rec_of new.granules new.recs r) (rec_of old.granules old.recs r) (length old.granules) (λ g lt.
      elim (g == move.granule) as (λ t. (g == move.granule) ≡ t → rec_of new.granules new.recs r g ≡ rec_of old.granules old.recs r g) [
        | true ↦ λ e. let same = eqb-true g move.granule e in ap (rec_of new.granules new.recs r) same ∙ here ∙ ap (rec_of old.granules old.recs r) (sym same)
        | false ↦ λ e. rec_of_stays r g (eqb-false g move.granule e)
      ] refl)

  -- ---- all together

  stays : Stays old new moved
  stays = record {
    free = refl;
    granule_count = granule_count;
    page_count = move.page_count;
    granule = granule_out;
    page = λ g e not_table. move.page g e;
    rec = λ g e. rec_out g (eqb-false g move.granule (or_parts (g == move.granule) (is_in g move.auxiliaries) e).0);
  }

  backed : IsBacked new.pages new.free new.granules
  backed = backed_after old new moved stays whole.backed (λ g e. whole.backed.taken g (move.inside g e) (used (granule_at old.granules g).state (move.states g e)))
    where
      used : (state : GranuleState) → is_moved_state state ≡ true → state ≢ Undelegated
      used state e is = let differ : true ≡ false = sym e ∙ ap is_moved_state is in cc

  alone : (r : ℕ) → LeavesAlone r old.pages old.granules new.pages new.granules
  alone = alone_after old new moved stays
      (λ g at. move.page g (not_moved g (ap is_moved_state at))) (λ g at. not_moved g (ap is_moved_state at)) (λ g at. not_moved g (ap is_moved_state at))

  pub translation : rows new.pages move.realm.root ≡ rows old.pages move.realm.root
  translation = rows_stay old new whole rd (alone rd) move.realm move.there

  pub changes : ((g : ℕ) → moved g ≡ true → IsSoundAt new g) → LeavesRecs old new rd → Changes old new rd moved move.realm move.now
  changes sound recs = record {
    there = move.there;
    is = move.is;
    keeps = move.keeps;
    realms = move.others;
    used = refl;
    realm_places = move.realm_places;
    count_places = length-set old.rec_counts rd move.count;
    rec_places = length-set old.recs move.granule move.rec;
    stays = stays;
    rd_stays = rd_stays;
    sound = sound;
    backed = backed;
    tables = tables_stay old new whole rd (alone rd) move.realm move.there;
    alone = λ r differs. alone r;
    recs = recs;
  }

-- a granule that is no RD, and whose contents are zero, has a cell with zero bytes and no descriptor
pub zero_cell : (fields : Fields) (g : ℕ) (granule : Granule) → granule_at fields.granules g ≡ granule → page_at fields.pages g ≡ zero_page → realm_at fields g ≡ None
    → cell_of fields g ≡ record { state = granule.state; realm = granule.realm; bytes = zero_page; descriptor = None }
zero_cell fields g granule at page none =
    cell_plain fields g granule zero_page at page none
    ∙ ap (λ b. record { state = granule.state; realm = granule.realm; bytes = b; descriptor = None }) (zero granule.state)
  where
    zero : (state : GranuleState) → bytes_of state zero_page ≡ zero_page
    zero InRtt = refl
    zero _ = refl
