-- The proof that commands preserve the invariant `IsSoundCell` of each granule of a build.
use Rattle.std.proofs.Common.{◌≡◌, ℕ, ◌+◌, ◌-◌, ◌%◌, ◌<◌, true, false, cond, inl, inr, List, [], ◌∷◌, map, set, Option, Some, None, refl, sym, ap, ◌∙◌, subst, arith}
use Rattle.std.specs.Prelude.{option_map, is_some}
use Rattle.std.specs.Ordering.{nat_cmp, eq_by_cmp}
use Rattle.std.specs.Cmp.{nat_cmp_total}
use Rattle.std.specs.FinMap.{get, insert, remove, get-insert, get-remove, get-empty}
use Rattle.std.proofs.lemmas.Bool.{and_parts, eqb-true}
use Rattle.std.proofs.lemmas.Option.{same_Some}
use Rattle.granule_addr.specs.Ipa.{first_covered, is_width}
use Rattle.granule_addr.specs.Root.{start_count, starting_tables}
use Rattle.granule_addr.specs.declared.width.Root.{Root}
use Rattle.realm_model.specs.declared.states.GranuleState.{GranuleState}
use Rattle.realm_model.specs.declared.states.GranuleState.TheVariants.{Undelegated, Delegated, Rec as InRec, RecAux, Data as InData, Rtt as InRtt}
use Rattle.realm_model.specs.declared.states.RealmState.TheVariants.{Active}
use Rattle.realm_model.specs.declared.states.RecState.TheVariants.{Ready, Running}
use Rattle.realm_model.specs.declared.states.Ripas.TheVariants.{Ram}
use Rattle.realm_model.specs.declared.act.Act.{Act}
use Rattle.realm_model.specs.declared.act.Act.TheVariants.{Take, UnTake, Fill, Peek, Delegate, Undelegate, Realm, UnRealm, Activate}
use Rattle.realm_model.specs.declared.act.Act.TheVariants.{Rtt, UnRtt, Ripas, Data, Unknown, UnData, Rec, UnRec, Enter, Exit, Poke}
use Rattle.realm_model.specs.Rows.{Row, Rows, row_at, put_row, assigned, unassigned, unmapped_ripas}
use Rattle.realm_model.specs.Machine.{Limits, RecRow, RealmRow, Cell, Seen, blank, left, held, cell_at, seen}
use Rattle.realm_model.specs.Update.{Update, Put, PutByte, Lease, Free, granule_of, cell_after}
use Rattle.realm_model.specs.Command.Check.{is_undelegated, is_delegated, is_protected}
use Rattle.realm_model.specs.Command.Realm.{new_realm}
use Rattle.realm_model.specs.Measurement.{measurement_after, ripas_event, data_event, rec_event}
use Rattle.realm_model.specs.Act.{named}
use Rattle.realm_model.specs.Outcome.{outcome_of}
use Rattle.realm_model.specs.World.{World, updated, updated_all}
use Rattle.realm_model.specs.Step.{used_vmids}
use Rattle.realm_model.specs.Ownership.{mapping_of_row}
use Rattle.realm_model.specs.Sound.{mapping_at, IsShaped, is_table_kind, is_host_state, is_rd_state, IsSoundRows, IsFull, HasEmptyRows}
use Rattle.realm_model.proofs.Booleans.{guarded, not_true, true_false}
use Rattle.realm_model.proofs.SoundRows.{root_sound, put_sound, with_table_sound, without_table_sound, with_ram_sound}
use Rattle.realm_model.proofs.FullRows.{root_full, put_full, with_table_full, without_table_full, with_ram_full}
use Rattle.realm_model.proofs.EmptyRows.{root_empty, put_empty, with_table_empty, without_table_empty, with_ram_empty}
use Rattle.realm_model.proofs.RealmOf.{IsAt}
use Rattle.realm_model.proofs.Outcomes.{Yields, Yields-Ok, Yields-Err, Yields-with_rec, Yields-with_realm, Yields-with_end, Yields-check, Yields-with_granule}
use Rattle.realm_model.proofs.Walks.{walk_at}
use Rattle.realm_model.proofs.Maps.{nat_place}
use Rattle.realm_model.proofs.Written.{set_cases, put_seen, each_in_front, each_alone}
use Rattle.realm_model.proofs.NewRealms.{can_be_made}
use Rattle.realm_model.proofs.TablePlaces.{table_place}
use Rattle.realm_model.proofs.RowKinds.{plain_unassigned, plain_assigned}
use Rattle.realm_model.proofs.Parts.{IsSoundRealm, IsSoundCell}

abbrev pub IsGood : ℕ → Update → Type 0
IsGood o (Put g x) = IsSoundCell o g x
IsGood o (PutByte g offset v) = Unit {0}
IsGood o (Lease g) = Unit {0}
IsGood o (Free g) = Unit {0}

abbrev pub AllGood : ℕ → List Update → Type 0
AllGood o [] = Unit {0}
AllGood o (u ∷ us) = IsGood o u × AllGood o us

abbrev pub AllCells : ℕ → World → Type 0
AllCells o w = (g : ℕ) → IsSoundCell o g (cell_at w.machine g)

pub blank_sound : (o g : ℕ) → IsSoundCell o g blank
blank_sound o g = record { realm = λ h. refl; descriptor = refl; alone = λ e. cc; itself = λ e. cc; row = λ r e. cc }

left_sound : (o g : ℕ) → IsSoundCell o g left
left_sound o g = record { realm = λ h. refl; descriptor = refl; alone = λ e. cc; itself = λ e. cc; row = λ r e. cc }

good_cell : (o : ℕ) (u : Update) (old : Cell) → IsGood o u → IsSoundCell o (granule_of u) old → IsSoundCell o (granule_of u) (cell_after u old)
good_cell o (Put g x) old good h = good
good_cell o (PutByte g offset v) old good h = record { realm = h.realm; descriptor = h.descriptor; alone = h.alone; itself = h.itself; row = h.row }
good_cell o (Lease g) old good h = h
good_cell o (Free g) old good h = blank_sound o g

good_updated : (o b : ℕ) (u : Update) (w : World) → IsGood o u → AllCells o w → AllCells o (updated b u w)
good_updated o b u w good all k =
    let g = granule_of u in
    let x = cell_after u (cell_at w.machine g) in
    elim (set_cases w.machine g x k) as (λ _. IsSoundCell o k (cell_at (set w.machine g x) k)) [
      | inl e ↦ subst (IsSoundCell o k) (sym e) (all k)
      | inr both ↦ subst (IsSoundCell o k) (sym both.1) (subst (λ n. IsSoundCell o n x) (sym both.0) (good_cell o u (cell_at w.machine g) good (all g)))
    ]

pub good_updated_all : (o b : ℕ) (us : List Update) (w v : World) → AllGood o us → AllCells o w → updated_all b us w ≡ Some v → AllCells o v
unfolding updated_all
good_updated_all o b [] w v good all e = let same : w ≡ v = same_Some _ _ e in subst (AllCells o) same all
good_updated_all o b (u ∷ us) w v good all e = good_updated_all o b us (updated b u w) v good.1 (good_updated o b u w good.0 all) (guarded _ _ _ e).1

-- ---- states

pub delegated_state : (c : Cell) (g : ℕ) → is_delegated (record { number = g; cell = c }) ≡ true → c.state ≡ Delegated
delegated_state c g e = elim c.state as (λ s. elim s [ Delegated ↦ true | _ ↦ false ] ≡ true → s ≡ Delegated) [ Delegated ↦ λ e. refl | _ ↦ λ e. cc ] e

-- if the operation creates a realm, the RD of that realm is `o`
abbrev pub StandsAt : ℕ → Act → Type 0
StandsAt o (Realm rd root v) = rd ≡ o
StandsAt o _ = Unit {0}

pub undelegated_state : (c : Cell) (g : ℕ) → is_undelegated (record { number = g; cell = c }) ≡ true → c.state ≡ Undelegated
undelegated_state c g e = elim c.state as (λ s. elim s [ Undelegated ↦ true | _ ↦ false ] ≡ true → s ≡ Undelegated) [ Undelegated ↦ λ e. refl | _ ↦ λ e. cc ] e

-- ---- commands

module _ (limits : Limits) (w : World) (o : ℕ) (sound : AllCells o w) where
  seen_sound : (rd : Seen) → cell_at w.machine rd.number ≡ rd.cell → IsSoundCell o rd.number rd.cell
  seen_sound rd at = subst (IsSoundCell o rd.number) at (sound rd.number)

  rd_is : (rd : Seen) (d : RealmRow) → cell_at w.machine rd.number ≡ rd.cell → rd.cell.descriptor ≡ Some d → rd.number ≡ o
  rd_is rd d at is = let c = seen_sound rd at in c.alone (sym c.descriptor ∙ ap is_some is)

  realm_is_sound : (rd : Seen) (d : RealmRow) → cell_at w.machine rd.number ≡ rd.cell → rd.cell.descriptor ≡ Some d → IsSoundRealm d
  realm_is_sound rd d at is = (seen_sound rd at).row d is

  realm_put : (rd : Seen) (d new : RealmRow) → cell_at w.machine rd.number ≡ rd.cell → rd.cell.descriptor ≡ Some d → IsSoundRealm new
      → IsSoundCell o rd.number (record rd.cell { descriptor = Some new })
  realm_put rd d new at is h =
      let c = seen_sound rd at in
      record { realm = c.realm; descriptor = sym (ap is_some is) ∙ c.descriptor; alone = c.alone; itself = c.itself; row = λ r e. subst IsSoundRealm (same_Some _ _ e) h }

  held_sound : (state : GranuleState) (g n : ℕ) → is_host_state state ≡ false → is_rd_state state ≡ false → n ≡ o → IsSoundCell o g (held state n)
  held_sound state g n host rd same = record {
    realm = λ h. absurd (true_false _ h host);
    descriptor = sym rd;
    alone = λ e. absurd (true_false _ e rd);
    itself = λ e. absurd (true_false _ e rd);
    row = λ r e. cc;
  }

  leases_good : (gs : List Seen) → AllGood o (map (λ (g : Seen). Lease g.number) gs)
  leases_good [] = tt
  leases_good (g ∷ gs) = (tt, leases_good gs)

  frees_good : (gs : List Seen) → AllGood o (map (λ (g : Seen). Free g.number) gs)
  frees_good [] = tt
  frees_good (g ∷ gs) = (tt, frees_good gs)

  -- a realm stays sound when a REC is changed, added or removed
  rec_kept : (d : RealmRow) (n : ℕ) (rec new : RecRow) → IsSoundRealm d → get d.recs n ≡ Some rec → IsSoundRealm (record d { recs = insert d.recs n new })
  rec_kept d n rec new h there = record {
    width = h.width;
    aligned = h.aligned;
    rows = h.rows;
    full = h.full;
    empty = h.empty;
    recs = λ k r e. elim (eq_by_cmp nat_cmp k n) as (λ t. eq_by_cmp nat_cmp k n ≡ t → cond t (Some new) (get d.recs k) ≡ Some r → k < d.next) [
      | true ↦ λ same e. subst (λ x. x < d.next) (sym (nat_place k n same)) (h.recs n rec there)
      | false ↦ λ same e. h.recs k r e
    ] refl (sym (get-insert nat_cmp_total d.recs n new k) ∙ e);
  }

  rec_new : (d : RealmRow) (new : RecRow) (m : List ℕ) → IsSoundRealm d → IsSoundRealm (record d { recs = insert d.recs d.next new; next = d.next + 1; measurement = m })
  rec_new d new m h = record {
    width = h.width;
    aligned = h.aligned;
    rows = h.rows;
    full = h.full;
    empty = h.empty;
    recs = λ k r e. elim (eq_by_cmp nat_cmp k d.next) as (λ t. eq_by_cmp nat_cmp k d.next ≡ t → cond t (Some new) (get d.recs k) ≡ Some r → k < d.next + 1) [
      | true ↦ λ same e. let at : k ≡ d.next = nat_place k d.next same in omega arith
      | false ↦ λ same e. let less : k < d.next = h.recs k r e in omega arith
    ] refl (sym (get-insert nat_cmp_total d.recs d.next new k) ∙ e);
  }

  rec_gone : (d : RealmRow) (n : ℕ) → IsSoundRealm d → IsSoundRealm (record d { recs = remove d.recs n })
  rec_gone d n h = record {
    width = h.width;
    aligned = h.aligned;
    rows = h.rows;
    full = h.full;
    empty = h.empty;
    recs = λ k r e. elim (eq_by_cmp nat_cmp k n) as (λ t. cond t None (get d.recs k) ≡ Some r → k < d.next) [
      | true ↦ λ e. cc
      | false ↦ λ e. h.recs k r e
    ] (sym (get-remove nat_cmp_total d.recs n k) ∙ e);
  }

  -- a realm stays sound with other rows, if these satisfy `IsSoundRows`, `IsFull` and `HasEmptyRows`
  rows_put : (d : RealmRow) (rows : Rows) (m : List ℕ) → IsSoundRealm d → IsSoundRows d.root.width (mapping_at rows) → IsFull d.root.width (mapping_at rows) → HasEmptyRows d.root.width rows
      → IsSoundRealm (record d { rows = rows; measurement = m })
  rows_put d rows m h sound full empty = record { width = h.width; aligned = h.aligned; rows = sound; full = full; empty = empty; recs = h.recs }

  -- a realm stays sound when a row of level 3 for a protected IPA granule is replaced by one of a valid shape
  leaf_put : (d : RealmRow) (ipa : ℕ) (old new : Row) (m : List ℕ) → IsSoundRealm d → is_protected d ipa ≡ true → row_at d.rows 3 ipa ≡ Some old → is_table_kind (Some (mapping_of_row old)) ≡ false
      → IsShaped 3 (Some (mapping_of_row new)) → is_table_kind (Some (mapping_of_row new)) ≡ false → IsSoundRealm (record d { rows = put_row d.rows 3 ipa new; measurement = m })
  leaf_put d ipa old new m h protected there plain shaped leaf =
      let place : ℕ × ℕ = (3, first_covered 3 ipa) in
      let sound = put_sound d.rows place new h.rows (ap (λ o. is_some (option_map mapping_of_row o)) there) (ap (λ o. is_table_kind (option_map mapping_of_row o)) there ∙ plain) shaped in
      rows_put d (insert d.rows place new) m h sound (put_full d.rows place new h.full leaf)
      (put_empty d.rows 3 ipa new h.width h.empty protected (λ table. absurd (true_false _ table leaf)))

  abbrev G : List Update → Type 0
  G = AllGood o

  new_sound : (vmid : ℕ) (root : Root) → is_width root.width ≡ true → root.first % start_count root.width ≡ 0 → IsSoundRealm (new_realm vmid root)
  unfolding new_realm
  new_sound vmid root width aligned = record {
    width = width;
    aligned = aligned;
    rows = root_sound root.width;
    full = root_full root.width;
    empty = root_empty root.width;
    recs = λ n r e. absurd (true_false _ (ap is_some e) (ap is_some (get-empty {X = RecRow} nat_cmp n)));
  }

  pub good : (act : Act) (realm : Option Seen) → StandsAt o act → IsAt w.machine realm
      → Yields G (outcome_of limits.vmids limits.aux (used_vmids w.machine) act realm (map (seen w.machine) (named act)))
  unfolding outcome_of named
  good (Take order first) realm stands at = Yields-Ok G _ (leases_good _)
  good (UnTake order first) realm stands at = Yields-Ok G _ (frees_good _)
  good (Fill g v) realm stands at =
      let c = sound g in Yields-check G _ _ _ (λ _. Yields-Ok G _ (record { realm = c.realm; descriptor = c.descriptor; alone = c.alone; itself = c.itself; row = c.row }, tt))
  good (Peek g offset v) realm stands at = Yields-check G _ _ _ (λ _. Yields-Ok G _ tt)
  good (Delegate g) realm stands at = Yields-check G _ _ _ (λ _. Yields-Ok G _ (left_sound o g, tt))
  good (Undelegate g) realm stands at = Yields-check G _ _ _ (λ is. Yields-Ok G _ (
    let c = sound g in let s = delegated_state (cell_at w.machine g) g is in
        record { realm = λ h. c.realm (ap is_host_state s); descriptor = c.descriptor ∙ ap is_rd_state s; alone = λ e. cc; itself = λ e. cc; row = c.row },
    tt,
  ))
  good (Realm rd root v) realm stands at = Yields-check G _ _ _ (λ all.
      let new = can_be_made limits.vmids (used_vmids w.machine) w.machine rd root v all in
      Yields-Ok G _ (
        record { realm = λ e. cc; descriptor = refl; alone = λ e. stands; itself = λ e. refl; row = λ r e. subst IsSoundRealm (same_Some _ _ e) (new_sound v root new.width new.aligned) },
        each_alone G (put_seen (held InRtt rd)) (λ a us h. (held_sound InRtt a.number rd refl refl stands, h)) (map (seen w.machine) (starting_tables root)) tt,
      ))
  good (UnRealm rd root v) realm stands at = Yields-with_realm G _ _ (λ d is. Yields-check G _ _ _ (λ _. Yields-Ok G _
      (left_sound o rd, each_alone G (λ g. Put g left) (λ g us h. (left_sound o g, h)) (starting_tables d.root) tt)))
  good Activate None stands at = Yields-Err G _
  good Activate (Some rd) stands at = Yields-with_realm G _ _ (λ d is. Yields-check G _ _ _ (λ _. Yields-Ok G _ (
    let h = realm_is_sound rd d at is in realm_put rd d (record d { state = Active }) at is
        (record { width = h.width; aligned = h.aligned; rows = h.rows; full = h.full; empty = h.empty; recs = h.recs }),
    tt,
  )))
  good (Rtt g ipa level) None stands at = Yields-Err G _
  good (Rtt g ipa level) (Some rd) stands at =
      Yields-with_realm G _ _ (λ d is. Yields-check G _ _ _ (λ place. Yields-with_end G _ _ _ _ (λ end e. Yields-check G _ _ _ (λ last. Yields-check G _ _ _ (λ plain.
      let h = realm_is_sound rd d at is in
      let spot = table_place ipa level (and_parts _ _ (and_parts _ _ place).0).1 in
      let made = with_table_sound d.rows level ipa end.row h.rows spot
      (walk_at d.rows ipa (level - 1) end e (eqb-true end.level (level - 1) last)) g end.row.ripas (not_true _ plain) in
      let empty = with_table_empty d.rows ipa h.width h.empty (and_parts _ _ place).1 level spot g end.row.ripas in
      Yields-Ok G _ (
        held_sound InRtt g rd.number refl refl (rd_is rd d at is),
        (realm_put rd d _ at is (rows_put d _ d.measurement h made (with_table_full d.rows level ipa spot h.full g end.row.ripas) empty), tt),
      ))))))
  good (UnRtt g ipa level) None stands at = Yields-Err G _
  good (UnRtt g ipa level) (Some rd) stands at =
      Yields-with_realm G _ _ (λ d is. Yields-check G _ _ _ (λ place. Yields-with_end G _ _ _ _
      (λ end e. Yields-check G _ _ _ (λ last. Yields-check G _ _ _ (λ table. Yields-check G _ _ _ (λ unused. Yields-with_granule G _ _ (λ pa there.
      let h = realm_is_sound rd d at is in
      let spot = table_place ipa level (and_parts _ _ place).0 in
      let gone = without_table_sound d.rows level ipa end.row h.rows spot
      (walk_at d.rows ipa (level - 1) end e (eqb-true end.level (level - 1) last)) unused in
      let empty = without_table_empty d.rows ipa h.width h.empty (and_parts _ _ place).1 level spot in
      Yields-Ok G _ (left_sound o pa, (realm_put rd d _ at is (rows_put d _ d.measurement h gone (without_table_full d.rows level ipa spot h.full) empty), tt)))))))))
  good (Ripas ipa n) None stands at = Yields-Err G _
  good (Ripas ipa n) (Some rd) stands at =
      Yields-with_realm G _ _ (λ d is. Yields-check G _ _ _ (λ input. Yields-check G _ _ _ (λ _. Yields-with_end G _ _ _ _ (λ end e. Yields-check G _ _ _ (λ _. Yields-check G _ _ _ (λ all.
      let h = realm_is_sound rd d at is in
      let empty = with_ram_empty d.rows ipa h.width h.empty (and_parts _ _ input).1 n (and_parts _ _ (and_parts _ _ input).0).1 all in
      Yields-Ok G _ (
        realm_put rd d _ at is (rows_put d _ (measurement_after d.measurement (ripas_event ipa n)) h (with_ram_sound d.rows ipa n h.rows all)
            (with_ram_full d.rows ipa n h.full all) empty),
        tt,
      )))))))
  good (Data g ipa source) None stands at = Yields-Err G _
  good (Data g ipa source) (Some rd) stands at =
      Yields-with_realm G _ _ (λ d is. Yields-check G _ _ _ (λ input. Yields-check G _ _ _ (λ _. Yields-with_end G _ _ _ _ (λ end e. Yields-check G _ _ _ (λ last. Yields-check G _ _ _ (λ free.
      let h = realm_is_sound rd d at is in
      let c = held_sound InData g rd.number refl refl (rd_is rd d at is) in
      let new = leaf_put d ipa end.row (assigned Ram g) (measurement_after d.measurement (data_event ipa (cell_at w.machine source).bytes)) h (and_parts _ _ input).1
      (walk_at d.rows ipa 3 end e (eqb-true end.level 3 last)) (plain_unassigned end.row free) (refl, refl) refl in
      Yields-Ok G _ (
        record { realm = c.realm; descriptor = c.descriptor; alone = c.alone; itself = c.itself; row = c.row },
        (realm_put rd d _ at is new, tt),
      )))))))
  good (Unknown g ipa) None stands at = Yields-Err G _
  good (Unknown g ipa) (Some rd) stands at =
      Yields-with_realm G _ _ (λ d is. Yields-check G _ _ _ (λ input. Yields-with_end G _ _ _ _ (λ end e. Yields-check G _ _ _ (λ last. Yields-check G _ _ _ (λ free.
      let h = realm_is_sound rd d at is in
      let new = leaf_put d ipa end.row (assigned end.row.ripas g) d.measurement h (and_parts _ _ input).1 (walk_at d.rows ipa 3 end e (eqb-true end.level 3 last))
      (plain_unassigned end.row free) (refl, refl) refl in
      Yields-Ok G _ (held_sound InData g rd.number refl refl (rd_is rd d at is), (realm_put rd d _ at is new, tt)))))))
  good (UnData g ipa) None stands at = Yields-Err G _
  good (UnData g ipa) (Some rd) stands at =
      Yields-with_realm G _ _ (λ d is. Yields-check G _ _ _ (λ input. Yields-with_end G _ _ _ _
      (λ end e. Yields-check G _ _ _ (λ last. Yields-check G _ _ _ (λ used. Yields-with_granule G _ _ (λ pa there.
      let h = realm_is_sound rd d at is in
      let new = leaf_put d ipa end.row (unassigned (unmapped_ripas end.row.ripas)) d.measurement h input (walk_at d.rows ipa 3 end e (eqb-true end.level 3 last))
      (plain_assigned end.row used) refl refl in
      Yields-Ok G _ (left_sound o pa, (realm_put rd d _ at is new, tt))))))))
  good (Rec g aux n) None stands at = Yields-Err G _
  good (Rec g aux n) (Some rd) stands at = Yields-with_realm G _ _ (λ d is. Yields-check G _ _ _ (λ _. Yields-check G _ _ _ (λ _. Yields-Ok G _ (
    held_sound InRec g rd.number refl refl (rd_is rd d at is),
    each_in_front G (put_seen (held RecAux rd.number)) (λ a us h. (held_sound RecAux a.number rd.number refl refl (rd_is rd d at is), h)) (map (seen w.machine) aux.items) _
        (realm_put rd d _ at is (rec_new d _ (measurement_after d.measurement (rec_event d.next)) (realm_is_sound rd d at is)), tt),
  ))))
  good (UnRec g aux n) None stands at = Yields-Err G _
  good (UnRec g aux n) (Some rd) stands at = Yields-with_realm G _ _ (λ d is. Yields-with_rec G _ _ _ (λ rec there. Yields-check G _ _ _ (λ _. Yields-Ok G _
      (left_sound o rec.granule, each_in_front G (λ g. Put g left) (λ g us h. (left_sound o g, h)) rec.auxiliaries _ (realm_put rd d _ at is (rec_gone d n (realm_is_sound rd d at is)), tt)))))
  good (Enter n) None stands at = Yields-Err G _
  good (Enter n) (Some rd) stands at = Yields-with_realm G _ _ (λ d is. Yields-with_rec G _ _ _ (λ rec there. Yields-check G _ _ _ (λ _. Yields-check G _ _ _ (λ _. Yields-Ok G _
      (realm_put rd d _ at is (rec_kept d n rec (record rec { state = Running }) (realm_is_sound rd d at is) there), tt)))))
  good (Exit n) None stands at = Yields-Err G _
  good (Exit n) (Some rd) stands at = Yields-with_realm G _ _ (λ d is. Yields-with_rec G _ _ _ (λ rec there. Yields-check G _ _ _ (λ _. Yields-Ok G _
      (realm_put rd d _ at is (rec_kept d n rec (record rec { state = Ready }) (realm_is_sound rd d at is) there), tt))))
  good (Poke n ipa offset v) None stands at = Yields-Err G _
  good (Poke n ipa offset v) (Some rd) stands at = Yields-with_realm G _ _ (λ d is. Yields-with_rec G _ _ _ (λ rec there. Yields-check G _ _ _ (λ _. Yields-check G _ _ _ (λ _.
      Yields-with_end G _ _ _ _ (λ end e. Yields-check G _ _ _ (λ _. Yields-with_granule G _ _ (λ pa to. Yields-Ok G _ (tt, tt))))))))
