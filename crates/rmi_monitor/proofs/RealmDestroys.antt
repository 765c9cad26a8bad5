-- The proof that RMI_REALM_DESTROY changes the fields of an RMM as the model's command changes the machine.
use Rattle.std.proofs.Common.{◌≡◌, ◌≢◌, ℕ, ◌<◌, Bool, true, false, List, [], ◌∷◌, length, map, set, Some, None, is_some, refl, sym, ap, ◌∙◌, subst, arith}
use Rattle.std.specs.Prelude.{◌==◌}
use Rattle.std.proofs.lemmas.Bool.{eqb-true, eqb-false, ne_eqb}
use Rattle.std.proofs.lemmas.List.{length-set, get_or-set_same, get_or-set_other}
use Rattle.std.proofs.lemmas.Option.{same_Some}
use Rattle.granule_addr.specs.Page.{zero_page}
use Rattle.granule_addr.specs.Root.{starting_tables}
use Rattle.rtt.specs.Granules.{granule_at, undelegated, IsIn}
use Rattle.rtt.specs.declared.granule.Granule.{Granule}
use Rattle.page_arena.specs.Page.{page_at, is_free}
use Rattle.realm_model.specs.declared.states.GranuleState.{GranuleState}
use Rattle.realm_model.specs.declared.states.GranuleState.TheVariants.{Undelegated, Delegated, Data as InData, Rd as InRd, Rec as InRec, RecAux as InRecAux, Rtt as InRtt}
use Rattle.realm_model.specs.Machine.{left}
use Rattle.realm_model.specs.Sound.{is_rd_state}
use Rattle.realm_model.specs.StepLaw.{set_each}
use Rattle.realm_model.specs.Update.{Put, machine_after_all}
use Rattle.realm_model.proofs.Booleans.{or_parts, false_from}
use Rattle.realm_model.specs.Command.Check.{is_in}
use Rattle.realm_model.proofs.SetEach.{length-set_each}
use Rattle.rmi_monitor.specs.Attributes.{RealmAttributes, RecAttributes}
use Rattle.rtt.specs.Realm.{LeavesAlone}
use Rattle.rtt.specs.Calls.{with_state, with_states}
use Rattle.rtt.proofs.Walks.{start_in}
use Rattle.rmi_monitor.specs.Inside.{Fields, realm_at, rec_at, machine_of, is_rec_state, IsSoundAt, IsWhole}
use Rattle.granule_addr.specs.Vmids.{IsMarked}
use Rattle.rmi_monitor.proofs.Frames.{Stays, StayRecs, backed_after, recs_stay, Leaves, whole_after, cell_after}
use Rattle.rmi_monitor.proofs.HostMoves.{cell_of-host}
use Rattle.rmi_monitor.proofs.Comparisons.{or_rest}
use Rattle.rmi_monitor.proofs.Puts.{set_each_in, set_each_out, out_of, one_and_others}
use Rattle.rmi_monitor.proofs.RealmPlaces.{realm_inside, in_rd, no_realm_there}
use Rattle.rmi_monitor.proofs.Starting.{number_of}
use Rattle.rmi_monitor.proofs.UsedVmids.{used-destroy}

-- the state is RD or RTT
abbrev is_realm_state : GranuleState → Bool
is_realm_state InRd = true
is_realm_state InRtt = true
is_realm_state _ = false

module _ (old : Fields) (whole : IsWhole old) (rd : ℕ) (realm : RealmAttributes) (there : realm_at old rd ≡ Some realm)
    (no_rec : (g : ℕ) (rec : RecAttributes) → rec_at old g ≡ Some rec → (granule_at old.granules g).realm ≡ Some rd → ⊥) where
  abbrev tables : List ℕ
  tables = starting_tables realm.root

  rd_inside : rd < length old.granules
  rd_inside = realm_inside old whole rd realm there

  rd_was : (granule_at old.granules rd).state ≡ InRd
  rd_was = in_rd old whole rd realm there

  pub table_in : (table : ℕ) → is_in table tables ≡ true → IsIn old.granules table InRtt (Some rd)
  table_in table e =
      let found = number_of realm.root table e in
      subst (λ t. IsIn old.granules t InRtt (Some rd)) found.2 (start_in old.pages old.granules rd realm.root (whole.tables rd realm there) found.0 found.1)

  table_was : (table : ℕ) → is_in table tables ≡ true → (granule_at old.granules table).state ≡ InRtt
  table_was table e = ap (λ (x : Granule). x.state) (table_in table e).is

  rd_apart : is_in rd tables ≡ false
  rd_apart = false_from (is_in rd tables) (λ e. let differ : InRd ≡ InRtt = sym rd_was ∙ table_was rd e in cc)

  not_rd : (table : ℕ) → is_in table tables ≡ true → table ≢ rd
  not_rd table e same = let differ : InRd ≡ InRtt = sym rd_was ∙ ap (λ g. (granule_at old.granules g).state) (sym same) ∙ table_was table e in cc

  abbrev left_granule : Granule
  left_granule = record { state = Delegated; realm = None }

  -- the granules of `old`, but with the starting tables DELEGATED
  abbrev without_tables : List Granule
  without_tables = with_states old.granules tables Delegated None

  -- the granules of `old`, but with the starting tables and the RD DELEGATED
  abbrev without_all : List Granule
  without_all = with_state without_tables rd Delegated None

  pub count_tables : length without_tables ≡ length old.granules
  count_tables = length-set_each left_granule tables old.granules

  count : length without_all ≡ length old.granules
  count = length-set without_tables rd left_granule ∙ count_tables

  pub rd_still : granule_at without_tables rd ≡ granule_at old.granules rd
  rd_still = set_each_out left_granule tables old.granules rd undelegated rd_apart

  rd_is : granule_at without_all rd ≡ left_granule
  rd_is = get_or-set_same without_tables rd left_granule undelegated (subst (λ n. rd < n) (sym count_tables) rd_inside)

  table_is : (table : ℕ) → is_in table tables ≡ true → granule_at without_all table ≡ left_granule
  table_is table e =
      get_or-set_other without_tables rd table left_granule undelegated (not_rd table e)
      ∙ set_each_in left_granule tables old.granules table undelegated (table_in table e).inside e

  granule_other : (g : ℕ) → is_in g (rd ∷ tables) ≡ false → granule_at without_all g ≡ granule_at old.granules g
  granule_other g out =
      let parts = or_parts (g == rd) (is_in g tables) out in
      get_or-set_other without_tables rd g left_granule undelegated (eqb-false g rd parts.0)
      ∙ set_each_out left_granule tables old.granules g undelegated parts.1

  -- the pages of `old`, but with those of the starting tables cleared
  abbrev pages_without_tables : List (List ℕ)
  pages_without_tables = set_each zero_page tables old.pages

  -- the pages of `old`, but with those of the starting tables and of the RD cleared
  abbrev pages_without : List (List ℕ)
  pages_without = set pages_without_tables rd zero_page

  page_count_tables : length pages_without_tables ≡ length old.pages
  page_count_tables = length-set_each zero_page tables old.pages

  page_rd : page_at pages_without rd ≡ zero_page
  page_rd = get_or-set_same pages_without_tables rd zero_page [] (subst (λ n. rd < n) (whole.backed.as_many ∙ sym page_count_tables) rd_inside)

  page_table : (table : ℕ) → is_in table tables ≡ true → page_at pages_without table ≡ zero_page
  page_table table e =
      get_or-set_other pages_without_tables rd table zero_page [] (not_rd table e)
      ∙ set_each_in zero_page tables old.pages table [] (subst (λ n. table < n) whole.backed.as_many (table_in table e).inside) e

  page_other : (g : ℕ) → is_in g (rd ∷ tables) ≡ false → page_at pages_without g ≡ page_at old.pages g
  page_other g out =
      let parts = or_parts (g == rd) (is_in g tables) out in
      get_or-set_other pages_without_tables rd g zero_page [] (eqb-false g rd parts.0) ∙ set_each_out zero_page tables old.pages g [] parts.1

  -- in `used`, the realm's VMID is no longer marked as in use
  module _ (used : List Bool) (marked : IsMarked old.used used realm.vmid false) where
    abbrev new : Fields
    new = record old { granules = without_all; pages = pages_without; realms = set old.realms rd None; used = used }

    abbrev touched : ℕ → Bool
    touched g = is_in g (rd ∷ tables)

    no_realm_now : realm_at new rd ≡ None
    no_realm_now = get_or-set_same old.realms rd None None (subst (λ n. rd < n) (sym whole.realm_places) rd_inside)

    realm_other : (g : ℕ) → g ≢ rd → realm_at new g ≡ realm_at old g
    realm_other g differs = get_or-set_other old.realms rd g None None differs

    stays : Stays old new touched
    stays = record {
      free = refl;
      granule_count = count;
      page_count = length-set pages_without_tables rd zero_page ∙ page_count_tables;
      granule = granule_other;
      page = λ g e not_table. page_other g e;
      rec = λ g e. refl;
    }

    -- a granule that was neither in state RD nor in state RTT is neither the RD nor a starting table
    not_realm : (wanted : GranuleState) → is_realm_state wanted ≡ false → (g : ℕ) → (granule_at old.granules g).state ≡ wanted → is_in g (rd ∷ tables) ≡ false
    not_realm wanted other g at = out_of g rd tables
        (λ e. let differ : true ≡ false = ap is_realm_state (sym rd_was ∙ ap (λ k. (granule_at old.granules k).state) (sym e) ∙ at) ∙ other in cc)
        (false_from (is_in g tables) (λ e. let differ : true ≡ false = ap is_realm_state (sym (table_was g e) ∙ at) ∙ other in cc))

    -- another realm's table is neither the RD nor a starting table of this realm
    not_own : (g h : ℕ) → g ≢ rd → IsIn old.granules h InRtt (Some g) → is_in h (rd ∷ tables) ≡ false
    not_own g h differs is = out_of h rd tables
        (λ e. let differ : InRd ≡ InRtt = sym rd_was ∙ ap (λ k. (granule_at old.granules k).state) (sym e) ∙ ap (λ (x : Granule). x.state) is.is in cc)
        (false_from (is_in h tables) (λ e. differs (same_Some g rd (sym (ap (λ (x : Granule). x.realm) is.is) ∙ ap (λ (x : Granule). x.realm) (table_in h e).is))))

    alone : (g : ℕ) → g ≢ rd → LeavesAlone g old.pages old.granules pages_without without_all
    alone g differs = record {
      page = λ h is. page_other h (not_own g h differs is);
      table = λ h is. record { inside = subst (λ n. h < n) (sym count) is.inside; is = granule_other h (not_own g h differs is) ∙ is.is };
      «data» = λ h is. record { inside = subst (λ n. h < n) (sym count) is.inside; is = granule_other h (not_realm InData refl h (ap (λ (x : Granule). x.state) is.is)) ∙ is.is };
    }

    sound_rd : IsSoundAt new rd
    sound_rd =
        let state : (granule_at without_all rd).state ≡ Delegated = ap (λ (x : Granule). x.state) rd_is in
        record {
          host = λ h. ap (λ (x : Granule). x.realm) rd_is;
          zero = λ h. page_rd;
          rd = ap is_some no_realm_now ∙ sym (ap is_rd_state state);
          rec = (whole.each rd).rec ∙ ap is_rec_state rd_was ∙ sym (ap is_rec_state state);
        }

    sound_table : (table : ℕ) → is_in table tables ≡ true → IsSoundAt new table
    sound_table table e =
        let state : (granule_at without_all table).state ≡ Delegated = ap (λ (x : Granule). x.state) (table_is table e) in
        record {
          host = λ h. ap (λ (x : Granule). x.realm) (table_is table e);
          zero = λ h. page_table table e;
          rd = ap is_some (realm_other table (not_rd table e) ∙ no_realm_there old table (whole.each table) (ap is_rd_state (table_was table e))) ∙ sym (ap is_rd_state state);
          rec = (whole.each table).rec ∙ ap is_rec_state (table_was table e) ∙ sym (ap is_rec_state state);
        }

    taken_touched : (g : ℕ) → touched g ≡ true → is_free old.free g ≡ false
    taken_touched g e = elim (g == rd) as (λ t. (g == rd) ≡ t → is_free old.free g ≡ false) [
      | true ↦ λ at. ap (is_free old.free) (eqb-true g rd at) ∙ whole.backed.taken rd rd_inside (λ is. let differ : Undelegated ≡ InRd = sym is ∙ rd_was in cc)
      | false ↦ λ at.
          let of = or_rest (g == rd) (is_in g tables) at e in
          whole.backed.taken g (table_in g of).inside (λ is. let differ : Undelegated ≡ InRtt = sym is ∙ table_was g of in cc)
    ] refl

    stay_recs : StayRecs old new
    stay_recs = record {
      granule_count = count;
      rec = λ g. refl;
      granule = λ g at. granule_other g (not_realm InRec refl g at);
      auxiliary = λ g at. granule_other g (not_realm InRecAux refl g at);
    }

    leaves : Leaves old new rd touched
    leaves = record {
      stays = stays;
      realm_places = length-set old.realms rd None;
      count_places = refl;
      rec_places = refl;
      backed = backed_after old new touched stays whole.backed taken_touched;
      sound = λ g differs e. sound_table g (or_rest (g == rd) (is_in g tables) (ne_eqb g rd differs) e);
      sound_rd = sound_rd;
      realms = realm_other;
      tables = λ r at. let differ : None ≡ Some r = sym no_realm_now ∙ at in cc;
      alone = alone;
      recs = recs_stay old new stay_recs whole refl (λ h g rec r at of is. (r, realm_other g (λ e. no_rec h rec at (of ∙ ap Some e)) ∙ is, omega arith)) rd;
      vmids_used = used-destroy old.realms old.used used whole.vmids_used rd (subst (λ n. rd < n) (sym whole.realm_places) rd_inside) realm there marked;
    }

    pub whole_destroyed : IsWhole new
    whole_destroyed = whole_after old new rd touched leaves whole

    pub machine_destroyed : machine_of new ≡ machine_after_all (Put rd left ∷ map (λ table. Put table left) tables) (machine_of old)
    machine_destroyed =
        one_and_others old new count rd tables left left rd_inside
        (λ h within e. cell_of-host new h (sound_table h e) (ap (λ (x : Granule). x.state) (table_is h e)) refl (page_table h e))
        (cell_of-host new rd sound_rd (ap (λ (x : Granule). x.state) rd_is) refl page_rd)
        (λ h within out. cell_after old new rd touched leaves whole h out (eqb-false h rd (or_parts (h == rd) (is_in h tables) out).0))
