-- The proof that RMI_REALM_CREATE changes the fields of an RMM as the model's command changes the machine.
use Rattle.std.proofs.Common.{◌≡◌, ◌≢◌, ℕ, ◌<◌, Bool, true, false, List, [], ◌∷◌, length, map, set, Some, None, is_some, option_map, refl, sym, ap, ◌∙◌, subst, arith}
use Rattle.std.specs.Prelude.{◌==◌}
use Rattle.std.specs.List.{All}
use Rattle.std.specs.FinMap.{empty}
use Rattle.std.proofs.lemmas.Bool.{eqb-true, eqb-false}
use Rattle.std.proofs.lemmas.List.{length-set, get_or-set_same, get_or-set_other}
use Rattle.std.proofs.lemmas.Option.{same_Some}
use Rattle.granule_addr.specs.Page.{zero_page}
use Rattle.granule_addr.specs.Root.{starting_tables}
use Rattle.granule_addr.specs.declared.width.Root.{Root}
use Rattle.rtt.specs.Granules.{granule_at, undelegated, IsIn}
use Rattle.rtt.specs.declared.granule.Granule.{Granule}
use Rattle.page_arena.specs.Page.{page_at}
use Rattle.realm_model.specs.declared.states.GranuleState.{GranuleState}
use Rattle.realm_model.specs.declared.states.GranuleState.TheVariants.{Delegated, Data as InData, Rd as InRd, Rec as InRec, RecAux as InRecAux, Rtt as InRtt}
use Rattle.realm_model.specs.Rows.{root_rows}
use Rattle.realm_model.specs.Machine.{Cell, held}
use Rattle.realm_model.specs.Sound.{is_host_state, is_rd_state}
use Rattle.realm_model.specs.StepLaw.{set_each}
use Rattle.realm_model.specs.Update.{Put, machine_after_all}
use Rattle.realm_model.specs.Command.Realm.{new_realm}
use Rattle.realm_model.proofs.Booleans.{or_parts, false_from}
use Rattle.realm_model.specs.Command.Check.{is_in}
use Rattle.rmi_monitor.specs.Attributes.{RealmAttributes, realm_row}
use Rattle.rtt.specs.Tables.{rows}
use Rattle.rtt.specs.Realm.{IsBacked, HasTables, LeavesAlone, LeavesOthers}
use Rattle.rmi_monitor.specs.Inside.{Fields, realm_at, recs_of, descriptor_of, bytes_of, cell_of, machine_of, is_rec_state, IsSoundAt, IsWhole}
use Rattle.granule_addr.specs.Vmids.{is_used, IsMarked}
use Rattle.rmi_monitor.proofs.Machines.{cell_plain}
use Rattle.rmi_monitor.proofs.Frames.{Stays, StayRecs, recs_of_stay, recs_stay, Leaves, whole_after, cell_after}
use Rattle.rmi_monitor.proofs.Listed.{each_in}
use Rattle.rmi_monitor.proofs.Puts.{put_all, length-put_all, put_all-first, put_all-rest, put_all-out, set_each_out, out_of, one_and_others}
use Rattle.rmi_monitor.proofs.Comparisons.{or_rest}
use Rattle.rmi_monitor.proofs.RealmPlaces.{no_realm_there}
use Rattle.rmi_monitor.proofs.RealmRecs.{recs_of-none}
use Rattle.rmi_monitor.proofs.UsedVmids.{used-create}

-- the state is DELEGATED
abbrev is_delegated_state : GranuleState → Bool
is_delegated_state Delegated = true
is_delegated_state _ = false

-- a granule can be a starting table
pub record CanStart (old : Fields) (rd table : ℕ) : Type 0 where
  pub inside : table < length old.granules
  pub was : (granule_at old.granules table).state ≡ Delegated
  pub beside : table ≢ rd

module _ (old : Fields) (whole : IsWhole old) (rd : ℕ) (root : Root) (rd_inside : rd < length old.granules) (rd_was : (granule_at old.granules rd).state ≡ Delegated)
    (starts : (table : ℕ) → is_in table (starting_tables root) ≡ true → CanStart old rd table) where
  abbrev tables : List ℕ
  tables = starting_tables root

  abbrev rd_granule : Granule
  rd_granule = record { state = InRd; realm = Some rd }

  abbrev table_granule : Granule
  table_granule = record { state = InRtt; realm = Some rd }

  -- the granules of `old`, but with `rd` as the RD of the new realm
  abbrev with_rd : List Granule
  with_rd = set old.granules rd rd_granule

  -- the granules of `old`, but with `rd` as the RD of the new realm, and `tables` as its starting tables
  abbrev with_tables : List Granule
  with_tables = put_all old.granules rd tables rd_granule table_granule

  rd_apart : is_in rd tables ≡ false
  rd_apart = false_from (is_in rd tables) (λ e. (starts rd e).beside refl)

  count_rd : length with_rd ≡ length old.granules
  count_rd = length-set old.granules rd rd_granule

  count : length with_tables ≡ length old.granules
  count = length-put_all old.granules rd tables rd_granule table_granule undelegated

  rd_is : granule_at with_tables rd ≡ rd_granule
  rd_is = put_all-first old.granules rd tables rd_granule table_granule undelegated rd_apart rd_inside

  table_is : (table : ℕ) → is_in table tables ≡ true → granule_at with_tables table ≡ table_granule
  table_is table e = put_all-rest old.granules rd tables rd_granule table_granule undelegated table (starts table e).inside e

  granule_other : (g : ℕ) → is_in g (rd ∷ tables) ≡ false → granule_at with_tables g ≡ granule_at old.granules g
  granule_other g out = put_all-out old.granules rd tables rd_granule table_granule undelegated g out

  with_rd_other : (g : ℕ) → g ≢ rd → granule_at with_rd g ≡ granule_at old.granules g
  with_rd_other g differs = get_or-set_other old.granules rd g rd_granule undelegated differs

  -- after granule `rd` has become the realm's RD, the starting tables are still DELEGATED, and belong to no realm
  pub tables_delegated : All (λ table. IsIn with_rd table Delegated None) tables
  tables_delegated = each_in (λ table. IsIn with_rd table Delegated None) tables (λ table e.
      let start = starts table e in
      record {
        inside = subst (λ n. table < n) (sym count_rd) start.inside;
        is = with_rd_other table start.beside ∙ (λ i. record { state = start.was i; realm = (whole.each table).host (ap is_host_state start.was) i });
      })

  no_realm_rd : realm_at old rd ≡ None
  no_realm_rd = no_realm_there old rd (whole.each rd) (ap is_rd_state rd_was)

  module _ (realm : RealmAttributes) (realm_root : realm.root ≡ root) (fresh : realm_row realm empty (root_rows root.width) ≡ new_realm realm.vmid root)
      (pages : List (List ℕ)) (free : List Bool) (flags : free ≡ old.free) (backed : IsBacked pages free with_tables) (has_tables : HasTables pages with_tables rd root)
      (translation : rows pages root ≡ root_rows root.width) (cleared : pages ≡ set_each zero_page tables old.pages)
      (alone : LeavesOthers rd old.pages with_rd pages with_tables)
      (used : List Bool) (unused : is_used old.used realm.vmid ≡ false) (marked : IsMarked old.used used realm.vmid true) where
    abbrev new : Fields
    new = record old { granules = with_tables; pages = pages; free = free; realms = set old.realms rd (Some realm); used = used }

    abbrev touched : ℕ → Bool
    touched g = is_in g (rd ∷ tables)

    realm_is : realm_at new rd ≡ Some realm
    realm_is = get_or-set_same old.realms rd (Some realm) None (subst (λ n. rd < n) (sym whole.realm_places) rd_inside)

    realm_other : (g : ℕ) → g ≢ rd → realm_at new g ≡ realm_at old g
    realm_other g differs = get_or-set_other old.realms rd g (Some realm) None differs

    page_other : (g : ℕ) → is_in g tables ≡ false → page_at pages g ≡ page_at old.pages g
    page_other g out = ap (λ ps. page_at ps g) cleared ∙ set_each_out zero_page tables old.pages g [] out

    stays : Stays old new touched
    stays = record {
      free = flags;
      granule_count = count;
      page_count = sym backed.as_many ∙ count ∙ whole.backed.as_many;
      granule = granule_other;
      page = λ g e not_table. page_other g (or_parts (g == rd) (is_in g tables) e).1;
      rec = λ g e. refl;
    }

    -- a granule that was not DELEGATED is neither the new RD nor a starting table
    not_delegated : (wanted : GranuleState) → is_delegated_state wanted ≡ false → (g : ℕ) → (granule_at old.granules g).state ≡ wanted → is_in g (rd ∷ tables) ≡ false
    not_delegated wanted other g at =
        out_of g rd tables (λ e. away (ap (λ k. (granule_at old.granules k).state) e ∙ rd_was)) (false_from (is_in g tables) (λ e. away (starts g e).was))
      where
        away : (granule_at old.granules g).state ≡ Delegated → ⊥
        away was = let differ : true ≡ false = ap is_delegated_state (sym was ∙ at) ∙ other in cc

    -- each realm other than the new one is left alone
    alone_from : (g : ℕ) → g ≢ rd → LeavesAlone g old.pages old.granules pages with_tables
    alone_from g differs = record {
      page = λ h is. (alone g differs).page h (early h InRtt refl is);
      table = λ h is. (alone g differs).table h (early h InRtt refl is);
      «data» = λ h is. (alone g differs).«data» h (early h InData refl is);
    }
      where
        early : (h : ℕ) (state : GranuleState) → is_delegated_state state ≡ false → IsIn old.granules h state (Some g) → IsIn with_rd h state (Some g)
        early h state other is = record {
          inside = subst (λ n. h < n) (sym count_rd) is.inside;
          is = with_rd_other h (eqb-false h rd (or_parts (h == rd) (is_in h tables) (not_delegated state other h (ap (λ (x : Granule). x.state) is.is))).0) ∙ is.is;
        }

    sound_rd : IsSoundAt new rd
    sound_rd =
        let state : (granule_at with_tables rd).state ≡ InRd = ap (λ (x : Granule). x.state) rd_is in
        record {
          host = λ h. let differ : false ≡ true = sym (ap is_host_state state) ∙ h in cc;
          zero = λ h. let differ : InRd ≡ Delegated = sym state ∙ h in cc;
          rd = ap is_some realm_is ∙ sym (ap is_rd_state state);
          rec = (whole.each rd).rec ∙ ap is_rec_state rd_was ∙ sym (ap is_rec_state state);
        }

    no_realm_table : (table : ℕ) → is_in table tables ≡ true → realm_at new table ≡ None
    no_realm_table table e = let start = starts table e in realm_other table start.beside ∙ no_realm_there old table (whole.each table) (ap is_rd_state start.was)

    sound_table : (table : ℕ) → is_in table tables ≡ true → IsSoundAt new table
    sound_table table e =
        let state : (granule_at with_tables table).state ≡ InRtt = ap (λ (x : Granule). x.state) (table_is table e) in
        record {
          host = λ h. let differ : false ≡ true = sym (ap is_host_state state) ∙ h in cc;
          zero = λ h. let differ : InRtt ≡ Delegated = sym state ∙ h in cc;
          rd = ap is_some (no_realm_table table e) ∙ sym (ap is_rd_state state);
          rec = (whole.each table).rec ∙ ap is_rec_state (starts table e).was ∙ sym (ap is_rec_state state);
        }

    stay_recs : StayRecs old new
    stay_recs = record {
      granule_count = count;
      rec = λ g. refl;
      granule = λ g at. granule_other g (not_delegated InRec refl g at);
      auxiliary = λ g at. granule_other g (not_delegated InRecAux refl g at);
    }

    -- a realm that existed before has another RD than the new realm
    not_new : (g : ℕ) (r : RealmAttributes) → realm_at old g ≡ Some r → g ≢ rd
    not_new g r at e = let differ : None ≡ Some r = sym no_realm_rd ∙ ap (realm_at old) (sym e) ∙ at in cc

    leaves : Leaves old new rd touched
    leaves = record {
      stays = stays;
      realm_places = length-set old.realms rd (Some realm);
      count_places = refl;
      rec_places = refl;
      backed = backed;
      sound = λ g differs e. sound_table g (or_rest (g == rd) (is_in g tables) (false_from (g == rd) (λ s. differs (eqb-true g rd s))) e);
      sound_rd = sound_rd;
      realms = realm_other;
      tables = λ r at. subst (HasTables pages with_tables rd) (sym realm_root ∙ ap (λ (x : RealmAttributes). x.root) (same_Some realm r (sym realm_is ∙ at))) has_tables;
      alone = alone_from;
      recs = recs_stay old new stay_recs whole refl (λ h g rec r at of there. (r, realm_other g (not_new g r there) ∙ there, omega arith)) rd;
      vmids_used = used-create old.realms old.used used whole.vmids_used rd (subst (λ n. rd < n) (sym whole.realm_places) rd_inside) realm no_realm_rd unused marked;
    }

    pub whole_created : IsWhole new
    whole_created = whole_after old new rd touched leaves whole

    abbrev pub rd_cell : Cell
    rd_cell = record { state = InRd; realm = Some rd; bytes = zero_page; descriptor = Some (new_realm realm.vmid root) }

    cell_rd : cell_of new rd ≡ rd_cell
    cell_rd =
        let page : page_at pages rd ≡ zero_page = page_other rd rd_apart ∙ (whole.each rd).zero rd_was in
        let recs : recs_of new.granules new.recs rd ≡ empty = recs_of_stay old new stay_recs whole rd ∙ recs_of-none old whole rd no_realm_rd in
        let translated : rows pages realm.root ≡ root_rows root.width = ap (rows pages) realm_root ∙ translation in
        let row : descriptor_of new rd ≡ Some (new_realm realm.vmid root) =
        ap (option_map (λ (r : RealmAttributes). realm_row r (recs_of new.granules new.recs rd) (rows pages r.root))) realm_is
        ∙ (λ i. Some (realm_row realm (recs i) (translated i))) ∙ ap Some fresh in
        (λ i. record { state = (rd_is i).state; realm = (rd_is i).realm; bytes = bytes_of (rd_is i).state (page i); descriptor = row i })

    cell_table : (table : ℕ) → is_in table tables ≡ true → cell_of new table ≡ held InRtt rd
    cell_table table e = cell_plain new table table_granule (page_at pages table) (table_is table e) refl (no_realm_table table e)

    pub machine_created : machine_of new ≡ machine_after_all (Put rd rd_cell ∷ map (λ table. Put table (held InRtt rd)) tables) (machine_of old)
    machine_created =
        one_and_others old new count rd tables rd_cell (held InRtt rd) rd_inside (λ h within e. cell_table h e) cell_rd
        (λ h within out. cell_after old new rd touched leaves whole h out (eqb-false h rd (or_parts (h == rd) (is_in h tables) out).0))
