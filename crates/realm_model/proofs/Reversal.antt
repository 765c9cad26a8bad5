-- Proofs that the command of a reverse operation restores what its build owned before the reversed operation, and is
-- refused only if it would destroy a running REC. The ownership of the build is assumed to be unchanged since the
-- reversed operation.
use Rattle.std.proofs.Common.{◌≡◌, ℕ, ◌+◌, ◌-◌, ◌*◌, ◌<◌, ◌≤◌, Bool, true, false, cond, ◌&&◌, ◌||◌, not, List, [], ◌∷◌, ◌++◌, map, Option, Some, None, Ok, refl, sym, ap, ◌∙◌, subst, arith, lit≤}
use Rattle.std.specs.Prelude.{option_map, ◌==◌, nat_eq}
use Rattle.std.specs.List.{list_all}
use Rattle.std.specs.Option.{option_eq}
use Rattle.std.specs.Ordering.{nat_cmp, eq_by_cmp}
use Rattle.std.specs.Cmp.{nat_cmp_total, eq_by_cmp_equiv}
use Rattle.std.specs.FinMap.{FinMap, get, insert, remove, empty, len, get-insert, get-remove, get-empty, len-empty, same_map, nat_cmp-IsAntisymmetric}
use Rattle.std.specs.Str.{bytes_eq}
use Rattle.std.specs.Cmp.Lexicographic.{bytes_decides}
use Rattle.std.proofs.lemmas.Bool.{and_parts, and_from, eqb-true, eq-eqb}
use Rattle.std.proofs.lemmas.Option.{same_Some}
use Rattle.std.proofs.lemmas.List.{append-nil}
use Rattle.std.proofs.lemmas.List.Folds.{list_any-append}
use Rattle.arrayvec.specs.declared.array_vec.ArrayVec.{ArrayVec}
use Rattle.granule_addr.specs.Ipa.{covered_count, first_covered, is_protected_at}
use Rattle.granule_addr.specs.Root.{start_count, starting_tables}
use Rattle.granule_addr.specs.declared.width.Root.{Root}
use Rattle.realm_model.specs.declared.states.GranuleState.{GranuleState}
use Rattle.realm_model.specs.declared.states.GranuleState.TheVariants.{Undelegated, Delegated, Rec as InRec, RecAux, Data as InData, Rtt as InRtt}
use Rattle.realm_model.specs.declared.states.RecState.TheVariants.{Ready}
use Rattle.realm_model.specs.declared.states.EntryState.TheVariants.{Assigned, Table}
use Rattle.realm_model.specs.declared.states.Ripas.{Ripas}
use Rattle.realm_model.specs.declared.states.Ripas.TheVariants.{Ram, Empty}
use Rattle.realm_model.specs.declared.rmi.Rmi.{Rmi}
use Rattle.realm_model.specs.declared.act.Act.{Act}
use Rattle.realm_model.specs.declared.act.Act.TheVariants.{Take, UnTake, Fill, Peek, Delegate, Undelegate, Realm, UnRealm, Activate, Rtt}
use Rattle.realm_model.specs.declared.act.Act.TheVariants.{UnRtt, Ripas as ToRam, Data, Unknown, UnData, Rec, UnRec, Enter, Exit, Poke}
use Rattle.realm_model.specs.Rows.{Row, row_at, put_row, assigned, unassigned, unmapped_ripas, with_table, without_table}
use Rattle.realm_model.specs.Rows.{root_rows, is_unassigned, is_assigned, is_table, is_table_unused, place_cmp}
use Rattle.realm_model.specs.Rows.{is_table_place, has_root_table, is_unassigned_state, is_assigned_state, is_table_state}
use Rattle.realm_model.specs.Machine.{Limits, RecRow, RealmRow, Cell, Machine, Seen, numbers_of, left, held, held as held_cell, cell_at, seen}
use Rattle.realm_model.specs.Update.{Update, Put, granule_of}
use Rattle.realm_model.specs.Command.Check.{error_input, check, is_undelegated, is_delegated, is_ready, is_protected, error_rec, is_in}
use Rattle.realm_model.specs.Measurement.{measurement_after, data_event, rec_event}
use Rattle.realm_model.specs.Command.Realm.{new_realm}
use Rattle.realm_model.specs.Act.{named, reverse_of, is_paired}
use Rattle.realm_model.specs.Outcome.{outcome_of, fits, leads_to, realm_is, is_root}
use Rattle.realm_model.specs.World.{World, is_leased_to, realm_of}
use Rattle.realm_model.specs.Step.{used_vmids}
use Rattle.realm_model.specs.Ownership.{mapping_of_row, granules_of_rec, SameRealm, SameDescriptor, SameCell, Mapping, mapping}
use Rattle.realm_model.specs.Sound.{mapping_at, is_host_state, is_rd_state}
use Rattle.realm_model.specs.Running.{is_running}
use Rattle.realm_model.proofs.Written.{lefts, put_more, put_at, put_at-each_put, granules-each_put, put_other, put_last}
use Rattle.realm_model.proofs.NewRealms.{new_rd, creation, seen-creation, put_at-creation_rd, can_be_made}
use Rattle.realm_model.proofs.Roots.{root_same}
use Rattle.realm_model.proofs.Outcomes.{granule_there, realm_there, rec_there, Yields-Ok, check_true, Yields-with_realm, Yields-Err, Yields, Yields-check, end_there, Yields-with_end}
use Rattle.realm_model.proofs.Maps.{same_place, nat_place}
use Rattle.realm_model.proofs.SoundRows.{none_among, mapping_at-with_table, mapping_at-with_table_below}
use Rattle.realm_model.proofs.RealmOf.{IsHeld, realm_test, realm_of_there, IsAt}
use Rattle.realm_model.proofs.Rows.{place_self, put_there, mapping_at-insert, all_rows_from}
use Rattle.realm_model.proofs.OwnsSame.{descriptor_some, same_bare, descriptor_none}
use Rattle.realm_model.proofs.Booleans.{none_from, not_true, none_map, not_false}
use Rattle.realm_model.proofs.SoundCells.{undelegated_state, delegated_state}
use Rattle.realm_model.proofs.Lists.{AllDistinct}
use Rattle.realm_model.proofs.TableBack.{table_back}
use Rattle.realm_model.proofs.TablePlaces.{IsTablePlace, table_place}
use Rattle.realm_model.proofs.Puts.{is_of_block}
use Rattle.realm_model.proofs.Walks.{walk_at, walk_there}
use Rattle.realm_model.proofs.RowKinds.{free_unassigned, free_above, shape_of, Vacant, mapping_get}
use Rattle.realm_model.proofs.Parts.{IsSoundRealm, IsSoundCell, IsSoundPart}

pub record Reversal (limits : Limits) (b : ℕ) (u w : World) (act r : Act) : Type 0 where
  pub ready : Bool
  pub refusal : Rmi
  pub updates : List Update
  pub planned : (used : List ℕ) → outcome_of limits.vmids limits.aux used r (realm_of b w) (map (seen w.machine) (named r)) ≡ check ready refusal (Ok updates)
  pub fitting : fits r (realm_of b w) (map (seen w.machine) (named r)) ≡ true
  pub back : (k : ℕ) → SameCell (cell_at u.machine k) (put_at updates k (cell_at w.machine k))
  pub ready_if : is_running (realm_of b w) act ≡ false → ready ≡ true

-- ---- granules that leave a realm

abbrev pub Leaves : World → ℕ → Type 0
Leaves u g = SameCell (cell_at u.machine g) left

-- The ownership before the updates `us` is restored when the granules `gs` become DELEGATED again and the updates
-- `tail` are made. This is done in `w`, a world with the ownership that `us` led to. Before `us`, the granules `gs`
-- were DELEGATED and in no realm. `us` changed only `gs` and the granules of `tail`, and `tail` writes cells with the
-- old ownership.
pub back_left : (u w : World) (us tail : List Update) (gs : List ℕ) → map granule_of us ≡ gs ++ map granule_of tail
    → ((g : ℕ) → is_in g gs ≡ true → Leaves u g)
    → ((k : ℕ) (c : Cell) → is_in k (map granule_of tail) ≡ true → SameCell (cell_at u.machine k) (put_at tail k c))
    → ((k : ℕ) → SameCell (put_at us k (cell_at u.machine k)) (cell_at w.machine k))
    → (k : ℕ) → SameCell (cell_at u.machine k) (put_at (lefts gs ++ tail) k (cell_at w.machine k))
back_left u w us tail gs granules leave tailed same k =
    subst (SameCell (cell_at u.machine k)) (sym (put_more (lefts gs) tail k (cell_at w.machine k) ∙ ap (put_at tail k) (put_at-each_put left gs k (cell_at w.machine k))))
    (elim (is_in k (map granule_of tail)) as (λ t. is_in k (map granule_of tail) ≡ t → SameCell (cell_at u.machine k) (put_at tail k (cond (is_in k gs) left (cell_at w.machine k)))) [
      | true ↦ λ e. tailed k (cond (is_in k gs) left (cell_at w.machine k)) e
      | false ↦ λ e. subst (SameCell (cell_at u.machine k)) (sym (put_other tail k (cond (is_in k gs) left (cell_at w.machine k)) e))
          (elim (is_in k gs) as (λ t. is_in k gs ≡ t → SameCell (cell_at u.machine k) (cond t left (cell_at w.machine k))) [
            | true ↦ λ i. leave k i
            | false ↦ λ i.
                let out : is_in k (map granule_of us) ≡ false = ap (is_in k) granules ∙ list_any-append (λ g. k == g) gs (map granule_of tail) ∙ (λ j. i j || e j) in
                subst (λ c. SameCell c (cell_at w.machine k)) (put_other us k (cell_at u.machine k) out) (same k)
          ] refl)
    ] refl)

-- if cell `x` has the ownership of granule `n` in world `u`, writing `x` to `n` restores that ownership
pub tail_one : (u : World) (n : ℕ) (x : Cell) → SameCell (cell_at u.machine n) x → (k : ℕ) (c : Cell) → is_in k (n ∷ []) ≡ true → SameCell (cell_at u.machine k) (put_at (Put n x ∷ []) k c)
tail_one u n x h k c e =
    let here : (k == n) ≡ true = at_one (k == n) e in
    subst (λ t. SameCell (cell_at u.machine k) (cond t x c)) (sym here) (subst (λ j. SameCell (cell_at u.machine j) x) (sym (eqb-true k n here)) h)
  where
    at_one : (t : Bool) → (t || false) ≡ true → t ≡ true
    at_one true e = refl
    at_one false e = cc

pub bare : (o g : ℕ) (c : Cell) (s : GranuleState) → IsSoundCell o g c → c.state ≡ s → is_host_state s ≡ true → is_rd_state s ≡ false → (c.realm ≡ None) × (c.descriptor ≡ None)
bare o g c s sound is host rd = (sound.realm (ap is_host_state is ∙ host), none_from c.descriptor (sound.descriptor ∙ ap is_rd_state is ∙ rd))

pub delegated_leaves : (o : ℕ) (u : World) (g : ℕ) → IsSoundCell o g (cell_at u.machine g) → is_delegated (seen u.machine g) ≡ true → Leaves u g
delegated_leaves o u g sound e =
    let is = delegated_state (cell_at u.machine g) g e in
    let b = bare o g (cell_at u.machine g) Delegated sound is refl refl in
    same_bare (cell_at u.machine g) left is b.0 refl b.1 refl

-- ---- lists and maps

pub no_recs : (m : FinMap nat_cmp RecRow) → ((n : ℕ) → get m n ≡ None) → len m ≡ 0
no_recs m h = ap len (same_map nat_cmp_total nat_cmp-IsAntisymmetric m empty (λ n. h n ∙ sym (get-empty nat_cmp n))) ∙ len-empty nat_cmp RecRow

pub seen_numbers : (m : Machine) (gs : List ℕ) → numbers_of (map (seen m) gs) ≡ gs
seen_numbers m [] = refl
seen_numbers m (g ∷ gs) = ap (λ r. g ∷ r) (seen_numbers m gs)

-- ---- reverses

abbrev pub rev : Act → Act
rev (Take order first) = UnTake order first
rev (Delegate g) = Undelegate g
rev (Realm rd root v) = UnRealm rd root v
rev (Rtt g ipa level) = UnRtt g ipa level
rev (Data g ipa source) = UnData g ipa
rev (Unknown g ipa) = UnData g ipa
rev (Rec g aux n) = UnRec g aux n
rev act = act

pub reverse_is : (act r : Act) → reverse_of act ≡ Some r → rev act ≡ r
unfolding reverse_of
reverse_is (Take order first) r e = same_Some _ _ e
reverse_is (Delegate g) r e = same_Some _ _ e
reverse_is (Realm rd root v) r e = same_Some _ _ e
reverse_is (Rtt g ipa level) r e = same_Some _ _ e
reverse_is (Data g ipa source) r e = same_Some _ _ e
reverse_is (Unknown g ipa) r e = same_Some _ _ e
reverse_is (Rec g aux n) r e = same_Some _ _ e
reverse_is _ r e = cc

module _ (limits : Limits) (b : ℕ) (u w : World) (su : IsSoundPart u) (sw : IsSoundPart w) (leases : w.leases ≡ u.leases) where
  abbrev pub Leads : List Update → Type 0
  Leads us = (k : ℕ) → SameCell (put_at us k (cell_at u.machine k)) (cell_at w.machine k)

  leased_too : (g : ℕ) → is_leased_to (Some b) u.leases g ≡ true → is_leased_to (Some b) w.leases g ≡ true
  leased_too g h = ap (λ ls. is_leased_to (Some b) ls g) leases ∙ h

  -- ---- Delegate

  undone_delegate : (g : ℕ) → is_undelegated (seen u.machine g) ≡ true → Leads (Put g left ∷ []) → Reversal limits b u w (Delegate g) (Undelegate g)
  unfolding outcome_of named fits
  undone_delegate g host leads =
      let at_g : SameCell left (cell_at w.machine g) = subst (λ c. SameCell c (cell_at w.machine g)) (put_last [] g left (cell_at u.machine g)) (leads g) in
      let was : (cell_at u.machine g).state ≡ Undelegated = undelegated_state (cell_at u.machine g) g host in
      let clear = bare su.rd g (cell_at u.machine g) Undelegated (su.cells g) was refl refl in
      record {
        ready = is_delegated (seen w.machine g);
        refusal = error_input;
        updates = Put g (record (cell_at w.machine g) { state = Undelegated }) ∷ [];
        planned = λ used. refl;
        fitting = refl;
        back = back_left u w (Put g left ∷ []) (Put g (record (cell_at w.machine g) { state = Undelegated }) ∷ []) [] refl (λ k e. cc)
            (tail_one u g _ (same_bare (cell_at u.machine g) (record (cell_at w.machine g) { state = Undelegated }) was clear.0 (sym at_g.realm) clear.1 (descriptor_none _ at_g.descriptor))) leads;
        ready_if = λ r. ap (λ s. elim s [ Delegated ↦ true | _ ↦ false ]) (sym at_g.state);
      }

  -- ---- the realm in both worlds

  pub record InBoth (n : ℕ) (d1 : RealmRow) : Type 0 where
    pub realm : RealmRow
    pub there : (cell_at w.machine n).descriptor ≡ Some realm
    pub same : SameRealm d1 realm
    pub found : realm_of b w ≡ Some (seen w.machine n)

  in_both : (n : ℕ) (c : Cell) (d1 : RealmRow) → c.descriptor ≡ Some d1 → is_leased_to (Some b) u.leases n ≡ true → SameCell c (cell_at w.machine n) → InBoth n d1
  in_both n c d1 is held same =
      let found = descriptor_some d1 (cell_at w.machine n).descriptor (subst (λ o. SameDescriptor o (cell_at w.machine n).descriptor) is same.descriptor) in
      record { realm = found.0; there = found.1; same = found.2; found = realm_of_there b w sw n found.0 (leased_too n held) found.1 }

  -- an IPA that is protected in one world's realm is protected in the other's, since the width is the same
  protected_too : {n : ℕ} {d1 : RealmRow} (both : InBoth n d1) (ipa : ℕ) → is_protected d1 ipa ≡ true → is_protected both.realm ipa ≡ true
  protected_too both ipa protected = ap (λ (r : Root). is_protected_at ipa r.width) (sym both.same.root) ∙ protected

  realm_tail : (rd : Seen) (d d1 d3 : RealmRow) → cell_at u.machine rd.number ≡ rd.cell → rd.cell.descriptor ≡ Some d
      → SameCell (record rd.cell { descriptor = Some d1 }) (cell_at w.machine rd.number) → SameRealm d d3
      → SameCell (cell_at u.machine rd.number) (record (cell_at w.machine rd.number) { descriptor = Some d3 })
  realm_tail rd d d1 d3 at is same realm = record {
    state = ap (λ (c : Cell). c.state) at ∙ same.state;
    realm = ap (λ (c : Cell). c.realm) at ∙ same.realm;
    descriptor = subst (λ o. SameDescriptor o (Some d3)) (sym (ap (λ (c : Cell). c.descriptor) at ∙ is)) realm;
  }

  -- ---- Realm

  in_all : (gs : List ℕ) → list_all is_delegated (map (seen u.machine) gs) ≡ true → (k : ℕ) → is_in k gs ≡ true → Leaves u k
  in_all [] h k e = cc
  in_all (g ∷ gs) h k e =
      let parts = and_parts _ _ h in
      elim (k == g) as (λ t. (k == g) ≡ t → (t || is_in k gs) ≡ true → Leaves u k) [
        | true ↦ λ same e. subst (Leaves u) (sym (eqb-true k g same)) (delegated_leaves su.rd u g (su.cells g) parts.0)
        | false ↦ λ same e. in_all gs parts.1 k e
      ] refl e

  in_one : (g : ℕ) → Leaves u g → (k : ℕ) → is_in k (g ∷ []) ≡ true → Leaves u k
  in_one g h k e = elim (k == g) as (λ t. (k == g) ≡ t → (t || false) ≡ true → Leaves u k) [
    | true ↦ λ same e. subst (Leaves u) (sym (eqb-true k g same)) h
    | false ↦ λ same e. cc
  ] refl e

  no_table_free : (row : Row) → mapping_of_row row ≡ Vacant → not (is_table row) ≡ true
  no_table_free row e = ap (λ (p : Mapping). not (is_table_state p.state)) e

  new_rows_free : (v : ℕ) (root : Root) (d2 : RealmRow) → SameRealm (new_realm v root) d2 → not (has_root_table d2.root.width d2.rows) ≡ true
  unfolding new_realm root_rows
  new_rows_free v root d2 same =
      let count : ℕ = 512 * start_count root.width in
      ap (λ (r : Root). not (has_root_table r.width d2.rows)) (sym same.root)
      ∙ ap (λ t. not (not t)) (all_rows_from (λ row. not (is_table row)) no_table_free d2.rows 1 0 count
      (λ k less. sym (same.rows (1, 0 + k * covered_count 1)) ∙ put_there (unassigned Empty) empty 1 0 count k less))

  new_recs_none : (v : ℕ) (root : Root) (d2 : RealmRow) → SameRealm (new_realm v root) d2 → len d2.recs ≡ 0
  unfolding new_realm
  new_recs_none v root d2 same = no_recs d2.recs (λ n. none_map granules_of_rec (get d2.recs n) (sym (same.recs n) ∙ ap (option_map granules_of_rec) (get-empty {X = RecRow} nat_cmp n)))

  new_root : (v : ℕ) (root : Root) (d2 : RealmRow) → SameRealm (new_realm v root) d2 → (root ≡ d2.root) × (d2.vmid ≡ v)
  unfolding new_realm
  new_root v root d2 same = (same.root, sym same.vmid)

  undone_realm : (rd : ℕ) (root : Root) (v : ℕ) → list_all is_delegated (map (seen u.machine) (rd ∷ starting_tables root)) ≡ true
      → AllDistinct (rd ∷ starting_tables root) → is_leased_to (Some b) u.leases rd ≡ true
      → Leads (creation rd root v) → (act : Act) → Reversal limits b u w act (UnRealm rd root v)
  unfolding outcome_of named fits
  undone_realm rd root v delegated different held_rd leads act =
      let gs : List ℕ = starting_tables root in
      let at_rd = subst (λ c. SameCell c (cell_at w.machine rd)) (put_at-creation_rd rd root v (cell_at u.machine rd) different) (leads rd) in
      let both = in_both rd (new_rd rd root v) (new_realm v root) refl held_rd at_rd in
      let d2 : RealmRow = both.realm in
      let known = new_root v root d2 both.same in
      record {
        ready = true;
        refusal = error_input;
        updates = lefts (rd ∷ gs);
        planned = λ used. realm_there (seen w.machine rd) _ d2 both.there
            ∙ check_true _ _ _ (and_from _ _ (eq-eqb (len d2.recs) 0 (new_recs_none v root d2 both.same)) (new_rows_free v root d2 both.same))
            ∙ (λ i. Ok (lefts (rd ∷ starting_tables (sym known.0 i))))
            ∙ sym (check_true true error_input _ refl);
        fitting = ap (λ o. realm_is o (λ x y. x.number == rd && is_root root y.root && y.vmid == v)) both.found
            ∙ ap (λ o. elim o [ Some y ↦ rd == rd && is_root root y.root && y.vmid == v | None ↦ false ]) both.there
            ∙ and_from _ _ (and_from _ _ (eq-eqb rd rd refl) (root_same root d2.root known.0)) (eq-eqb d2.vmid v known.1);
        back = λ k. subst (λ us. SameCell (cell_at u.machine k) (put_at us k (cell_at w.machine k))) (append-nil (lefts (rd ∷ gs)))
            (back_left u w (creation rd root v) [] (rd ∷ gs) (ap (λ r. rd ∷ r) (granules-each_put (held InRtt rd) gs ∙ sym (append-nil gs))) (in_all (rd ∷ gs) delegated) (λ k c e. cc) leads k);
        ready_if = λ r. refl;
      }

  -- if the row of `ipa` at a level leads to granule `g`, the build's realm passes the test that its row of `ipa` at
  -- this level leads to `g`
  fits_row : (n level ipa g : ℕ) (d2 : RealmRow) (row : Row) → realm_of b w ≡ Some (seen w.machine n) → (cell_at w.machine n).descriptor ≡ Some d2
      → row_at d2.rows level ipa ≡ Some row → row.granule ≡ Some g → realm_is (realm_of b w) (λ x y. leads_to (row_at y.rows level ipa) g) ≡ true
  fits_row n level ipa g d2 row found there at granule =
      ap (λ o. realm_is o (λ x y. leads_to (row_at y.rows level ipa) g)) found
      ∙ ap (λ o. elim o [ Some y ↦ leads_to (row_at y.rows level ipa) g | None ↦ false ]) there
      ∙ ap (λ o. leads_to o g) at ∙ ap (λ o. option_eq nat_eq o (Some g)) granule ∙ eq-eqb g g refl

  -- ---- Rtt

  planned_rtt : (used : List ℕ) (d2 : RealmRow) (n ipa g level : ℕ) (row : Row) → (cell_at w.machine n).descriptor ≡ Some d2
      → get d2.rows (level - 1, first_covered (level - 1) ipa) ≡ Some row → is_table row ≡ true → row.granule ≡ Some g
      → is_table_place ipa level ≡ true → is_protected d2 ipa ≡ true → 1 ≤ level - 1 → is_table_unused d2.rows level ipa ≡ true → realm_of b w ≡ Some (seen w.machine n)
      → outcome_of limits.vmids limits.aux used (UnRtt g ipa level) (realm_of b w) (map (seen w.machine) (named (UnRtt g ipa level)))
      ≡ check true error_input (Ok (Put g left ∷ Put n (record (cell_at w.machine n) { descriptor = Some (record d2 { rows = without_table d2.rows level ipa }) }) ∷ []))
  unfolding outcome_of named
  planned_rtt used d2 n ipa g level row there at table granule place protected low unused found =
      ap (λ o. outcome_of limits.vmids limits.aux used (UnRtt g ipa level) o (map (seen w.machine) (named (UnRtt g ipa level)))) found
      ∙ realm_there (seen w.machine n) _ d2 there
      ∙ check_true _ _ _ (and_from _ _ place protected)
      ∙ end_there d2.rows ipa (level - 1) _ (record { level = level - 1; row = row }) (walk_there d2.rows ipa (level - 1) row low at)
      ∙ check_true _ _ _ (eq-eqb (level - 1) (level - 1) refl)
      ∙ check_true _ _ _ table
      ∙ check_true _ _ _ unused
      ∙ granule_there row _ g granule
      ∙ sym (check_true true error_input _ refl)

  undone_rtt : (act : Act) (rd : Seen) (d : RealmRow) (g ipa level : ℕ) (c : Cell) (above : Row)
      → cell_at u.machine rd.number ≡ rd.cell → rd.cell.descriptor ≡ Some d → is_leased_to (Some b) u.leases rd.number ≡ true
      → is_delegated (seen u.machine g) ≡ true → is_table_place ipa level ≡ true → is_protected d ipa ≡ true → row_at d.rows (level - 1) ipa ≡ Some above → is_table above ≡ false
      → Leads (Put g c ∷ Put rd.number (record rd.cell { descriptor = Some (record d { rows = with_table d.rows level ipa g above.ripas }) }) ∷ [])
      → Reversal limits b u w act (UnRtt g ipa level)
  unfolding outcome_of named fits is_table_unused
  undone_rtt act rd d g ipa level c above at is held_rd free_g place protected there plain leads =
      let n = rd.number in
      let d1 : RealmRow = record d { rows = with_table d.rows level ipa g above.ripas } in
      let z : Cell = record rd.cell { descriptor = Some d1 } in
      let at_n : SameCell z (cell_at w.machine n) = subst (λ x. SameCell x (cell_at w.machine n)) (put_last (Put g c ∷ []) n z (cell_at u.machine n)) (leads n) in
      let both = in_both n z d1 refl held_rd at_n in
      let d2 : RealmRow = both.realm in
      let spot : IsTablePlace ipa level = table_place ipa level place in
      let sound : IsSoundRealm d = (subst (IsSoundCell su.rd n) at (su.cells n)).row d is in
      let up : ℕ × ℕ = (level - 1, first_covered (level - 1) ipa) in
      let row = mapping_get (get d2.rows up) (mapping Table (Some g)) (sym (both.same.rows up) ∙ mapping_at-with_table d.rows level ipa above sound.rows spot there g above.ripas plain) in
      let unused : is_table_unused d2.rows level ipa ≡ true = all_rows_from is_unassigned (λ r e. ap (λ (p : Mapping). is_unassigned_state p.state) e) d2.rows level ipa 512
      (λ k less. sym (both.same.rows (level, ipa + k * covered_count level)) ∙ mapping_at-with_table_below d.rows level ipa above sound.rows spot there g above.ripas k less) in
      let d3 : RealmRow = record d2 { rows = without_table d2.rows level ipa } in
      let last : Cell = record (cell_at w.machine n) { descriptor = Some d3 } in
      let tail : List Update = Put n last ∷ [] in
      let was_free : mapping_of_row above ≡ Vacant = free_above (level - 1) above.state above.granule spot.low.1 (shape_of d.rows up above sound.rows there) plain in
      let rows_back : (q : ℕ × ℕ) → mapping_at d.rows q ≡ mapping_at d3.rows q = table_back d.rows d2.rows level ipa g above.ripas above there was_free
      (none_among d.rows level ipa above sound.rows spot there plain) both.same.rows in
      let granule : row.0.granule ≡ Some g = ap (λ (p : Mapping). p.granule) row.2 in
      record {
        ready = true;
        refusal = error_input;
        updates = lefts (g ∷ []) ++ tail;
        planned = λ used. planned_rtt used d2 n ipa g level row.0 both.there row.1 (ap (λ (p : Mapping). is_table_state p.state) row.2) granule place
            (protected_too both ipa protected) spot.low.0 unused both.found;
        fitting = fits_row n (level - 1) ipa g d2 row.0 both.found both.there row.1 granule;
        back = back_left u w (Put g c ∷ Put n z ∷ []) tail (g ∷ []) refl (in_one g (delegated_leaves su.rd u g (su.cells g) free_g))
            (tail_one u n last (realm_tail rd d d1 d3 at is at_n
            (record { vmid = both.same.vmid; root = both.same.root; recs = both.same.recs; rows = rows_back }))) leads;
        ready_if = λ r. refl;
      }

  -- ---- Data

  planned_data : (used : List ℕ) (d2 : RealmRow) (c : Cell) (n ipa g : ℕ) (row : Row) → (cell_at w.machine n).descriptor ≡ Some d2
      → get d2.rows (3, first_covered 3 ipa) ≡ Some row → is_assigned row ≡ true → row.granule ≡ Some g
      → is_protected d2 ipa ≡ true → realm_of b w ≡ Some (seen w.machine n)
      → outcome_of limits.vmids limits.aux used (UnData g ipa) (realm_of b w) (map (seen w.machine) (named (UnData g ipa)))
      ≡ check true error_input (Ok (Put g left ∷ Put n (record (cell_at w.machine n) { descriptor = Some (record d2 { rows = put_row d2.rows 3 ipa (unassigned (unmapped_ripas row.ripas)) }) }) ∷ []))
  unfolding outcome_of named
  planned_data used d2 c n ipa g row there at assigned granule protected found =
      ap (λ o. outcome_of limits.vmids limits.aux used (UnData g ipa) o (map (seen w.machine) (named (UnData g ipa)))) found
      ∙ realm_there (seen w.machine n) _ d2 there
      ∙ check_true _ _ _ protected
      ∙ end_there d2.rows ipa 3 _ (record { level = 3; row = row }) (walk_there d2.rows ipa 3 row (lit≤ tt) at)
      ∙ check_true _ _ _ refl
      ∙ check_true _ _ _ assigned
      ∙ granule_there row _ g granule
      ∙ sym (check_true true error_input _ refl)

  undone_data : (act : Act) (rd : Seen) (d : RealmRow) (m : List ℕ) (g ipa : ℕ) (ripas : Ripas) (old : Row) (c : Cell) → (r : is_running (realm_of b w) act ≡ false)
      → cell_at u.machine rd.number ≡ rd.cell → rd.cell.descriptor ≡ Some d → is_leased_to (Some b) u.leases rd.number ≡ true
      → is_delegated (seen u.machine g) ≡ true → is_protected d ipa ≡ true → row_at d.rows 3 ipa ≡ Some old → is_unassigned old ≡ true
      → Leads (Put g c ∷ Put rd.number (record rd.cell { descriptor = Some (record d { rows = put_row d.rows 3 ipa (assigned ripas g); measurement = m }) }) ∷ [])
      → Reversal limits b u w act (UnData g ipa)
  unfolding outcome_of named fits
  undone_data act rd d m g ipa ripas old c r at is held_rd free_g protected there free leads =
      let n = rd.number in
      let d1 : RealmRow = record d { rows = put_row d.rows 3 ipa (assigned ripas g); measurement = m } in
      let z : Cell = record rd.cell { descriptor = Some d1 } in
      let at_n : SameCell z (cell_at w.machine n) = subst (λ x. SameCell x (cell_at w.machine n)) (put_last (Put g c ∷ []) n z (cell_at u.machine n)) (leads n) in
      let both = in_both n z d1 refl held_rd at_n in
      let d2 : RealmRow = both.realm in
      let place : ℕ × ℕ = (3, first_covered 3 ipa) in
      let now_there : mapping_at d1.rows place ≡ Some (mapping Assigned (Some g)) = mapping_at-insert d.rows place place (assigned ripas g)
      ∙ ap (λ t. cond t (Some (mapping_of_row (assigned ripas g))) (mapping_at d.rows place)) (place_self place) in
      let row = mapping_get (get d2.rows place) (mapping Assigned (Some g)) (sym (both.same.rows place) ∙ now_there) in
      let d3 : RealmRow = record d2 { rows = put_row d2.rows 3 ipa (unassigned (unmapped_ripas row.0.ripas)) } in
      let last : Cell = record (cell_at w.machine n) { descriptor = Some d3 } in
      let tail : List Update = Put n last ∷ [] in
      let sound : IsSoundRealm d = (subst (IsSoundCell su.rd n) at (su.cells n)).row d is in
      let was_free : mapping_of_row old ≡ Vacant = free_unassigned 3 old.state old.granule (shape_of d.rows place old sound.rows there) free in
      let rows_back : (q : ℕ × ℕ) → mapping_at d.rows q ≡ mapping_at d3.rows q = λ q.
      elim (eq_by_cmp place_cmp q place) as (λ t. eq_by_cmp place_cmp q place ≡ t → mapping_at d.rows q ≡ cond t (Some Vacant) (mapping_at d2.rows q)) [
        | true ↦ λ e. ap (mapping_at d.rows) (same_place q place e) ∙ ap (option_map mapping_of_row) there ∙ ap Some was_free
        | false ↦ λ e. sym (mapping_at-insert d.rows place q (assigned ripas g) ∙ ap (λ t. cond t (Some (mapping_of_row (assigned ripas g))) (mapping_at d.rows q)) e) ∙ both.same.rows q
      ] refl ∙ sym (mapping_at-insert d2.rows place q (unassigned (unmapped_ripas row.0.ripas))) in
      let granule : row.0.granule ≡ Some g = ap (λ (p : Mapping). p.granule) row.2 in
      record {
        ready = true;
        refusal = error_input;
        updates = lefts (g ∷ []) ++ tail;
        planned = λ used. planned_data used d2 (cell_at w.machine n) n ipa g row.0 both.there row.1 (ap (λ (p : Mapping). is_assigned_state p.state) row.2) granule
            (protected_too both ipa protected) both.found;
        fitting = fits_row n 3 ipa g d2 row.0 both.found both.there row.1 granule;
        back = back_left u w (Put g c ∷ Put n z ∷ []) tail (g ∷ []) refl (in_one g (delegated_leaves su.rd u g (su.cells g) free_g))
            (tail_one u n last (realm_tail rd d d1 d3 at is at_n
            (record { vmid = both.same.vmid; root = both.same.root; recs = both.same.recs; rows = rows_back }))) leads;
        ready_if = λ r. refl;
      }

  -- ---- Rec

  abbrev auxes : ℕ → List ℕ → List Update
  auxes n gs = map (λ (a : Seen). Put a.number (held RecAux n)) (map (seen u.machine) gs)

  rec_granules : (g n : ℕ) (c z : Cell) (gs : List ℕ) → map granule_of ((Put g c ∷ auxes n gs) ++ Put n z ∷ []) ≡ (g ∷ gs) ++ n ∷ []
  rec_granules g n c z gs = ap (λ r. g ∷ r) (rest gs)
    where
      rest : (gs : List ℕ) → map granule_of (auxes n gs ++ Put n z ∷ []) ≡ gs ++ n ∷ []
      rest [] = refl
      rest (x ∷ gs) = ap (λ r. x ∷ r) (rest gs)

  look_rec : (o : Option RecRow) (p : ℕ × List ℕ) → option_map granules_of_rec o ≡ Some p → (rec : RecRow) × (o ≡ Some rec) × (granules_of_rec rec ≡ p)
  look_rec None p e = cc
  look_rec (Some rec) p e = (rec, refl, same_Some _ _ e)

  planned_rec : (used : List ℕ) (d2 : RealmRow) (k g : ℕ) (aux : ArrayVec ℕ 16 (Unit {0})) (n : ℕ) (rec : RecRow) → (cell_at w.machine k).descriptor ≡ Some d2
      → get d2.recs n ≡ Some rec → granules_of_rec rec ≡ (g, aux.items) → realm_of b w ≡ Some (seen w.machine k)
      → outcome_of limits.vmids limits.aux used (UnRec g aux n) (realm_of b w) (map (seen w.machine) (named (UnRec g aux n)))
      ≡ check (is_ready rec.state) error_rec (Ok (lefts (g ∷ aux.items) ++ Put k (record (cell_at w.machine k) { descriptor = Some (record d2 { recs = remove d2.recs n }) }) ∷ []))
  unfolding outcome_of named
  planned_rec used d2 k g aux n rec there at own found =
      ap (λ o. outcome_of limits.vmids limits.aux used (UnRec g aux n) o (map (seen w.machine) (named (UnRec g aux n)))) found
      ∙ realm_there (seen w.machine k) _ d2 there
      ∙ rec_there d2 n _ rec at
      ∙ ap (λ (p : ℕ × List ℕ). check (is_ready rec.state) error_rec (Ok (lefts (p.0 ∷ p.1) ++ Put k
      (record (cell_at w.machine k) { descriptor = Some (record d2 { recs = remove d2.recs n }) }) ∷ []))) own

  abbrev runs : Option RecRow → Bool
  runs None = false
  runs (Some rec) = not (is_ready rec.state)

  abbrev fits_rec : ℕ → List ℕ → Option RecRow → Bool
  fits_rec g items None = false
  fits_rec g items (Some rec) = rec.granule == g && bytes_eq rec.auxiliaries items

  undone_rec : (rd : Seen) (d : RealmRow) (m : List ℕ) (g : ℕ) (aux : ArrayVec ℕ 16 (Unit {0})) (n : ℕ)
      → cell_at u.machine rd.number ≡ rd.cell → rd.cell.descriptor ≡ Some d → is_leased_to (Some b) u.leases rd.number ≡ true
      → list_all is_delegated (map (seen u.machine) (g ∷ aux.items)) ≡ true → n ≡ d.next
      → Leads ((Put g (held InRec rd.number) ∷ auxes rd.number aux.items)
      ++ Put rd.number (record rd.cell {
        descriptor = Some (record d {
          recs = insert d.recs d.next (record { granule = g; auxiliaries = numbers_of (map (seen u.machine) aux.items); state = Ready });
          next = d.next + 1;
          measurement = m;
        });
      }) ∷ [])
      → Reversal limits b u w (Rec g aux n) (UnRec g aux n)
  unfolding outcome_of named fits
  undone_rec rd d m g aux n at is held_rd frees number leads =
      let k = rd.number in
      let rec1 : RecRow = record { granule = g; auxiliaries = numbers_of (map (seen u.machine) aux.items); state = Ready } in
      let d1 : RealmRow = record d { recs = insert d.recs d.next rec1; next = d.next + 1; measurement = m } in
      let z : Cell = record rd.cell { descriptor = Some d1 } in
      let us : List Update = Put g (held InRec k) ∷ auxes k aux.items in
      let at_k : SameCell z (cell_at w.machine k) = subst (λ x. SameCell x (cell_at w.machine k)) (put_last us k z (cell_at u.machine k)) (leads k) in
      let both = in_both k z d1 refl held_rd at_k in
      let d2 : RealmRow = both.realm in
      let sound : IsSoundRealm d = (subst (IsSoundCell su.rd k) at (su.cells k)).row d is in
      let made : get d1.recs d.next ≡ Some rec1 = get-insert nat_cmp_total d.recs d.next rec1 d.next ∙ ap (λ t. cond t (Some rec1) (get d.recs d.next)) ((eq_by_cmp_equiv nat_cmp_total).refl d.next) in
      let rec = look_rec (get d2.recs d.next) (g, aux.items) (sym (both.same.recs d.next) ∙ ap (option_map granules_of_rec) made ∙ (λ i. Some (g, seen_numbers u.machine aux.items i))) in
      let there : get d2.recs n ≡ Some rec.0 = ap (get d2.recs) number ∙ rec.1 in
      let d3 : RealmRow = record d2 { recs = remove d2.recs n } in
      let tail : List Update = Put k (record (cell_at w.machine k) { descriptor = Some d3 }) ∷ [] in
      let recs_back : (q : ℕ) → option_map granules_of_rec (get d.recs q) ≡ option_map granules_of_rec (get d3.recs q) = λ q.
      elim (eq_by_cmp nat_cmp q n) as (λ t. eq_by_cmp nat_cmp q n ≡ t → option_map granules_of_rec (get d.recs q) ≡ option_map granules_of_rec (cond t None (get d2.recs q))) [
        | true ↦ λ e. ap (option_map granules_of_rec) (unnumbered d q sound (nat_place q n e ∙ number))
        | false ↦ λ e. sym (ap (option_map granules_of_rec) (get-insert nat_cmp_total d.recs d.next rec1 q
            ∙ ap (λ t. cond t (Some rec1) (get d.recs q)) (ap (eq_by_cmp nat_cmp q) (sym number) ∙ e))) ∙ both.same.recs q
      ] refl ∙ sym (ap (option_map granules_of_rec) (get-remove nat_cmp_total d2.recs n q)) in
      record {
        ready = is_ready rec.0.state;
        refusal = error_rec;
        updates = lefts (g ∷ aux.items) ++ tail;
        planned = λ used. planned_rec used d2 k g aux n rec.0 both.there there rec.2 both.found;
        fitting = ap (λ o. realm_is o (λ x y. fits_rec g aux.items (get y.recs n))) both.found
            ∙ ap (λ o. elim o [ Some y ↦ fits_rec g aux.items (get y.recs n) | None ↦ false ]) both.there
            ∙ ap (fits_rec g aux.items) there
            ∙ and_from _ _ (eq-eqb rec.0.granule g (ap (λ (p : ℕ × List ℕ). p.0) rec.2)) ((bytes_decides rec.0.auxiliaries aux.items).1 (ap (λ (p : ℕ × List ℕ). p.1) rec.2));
        back = back_left u w (us ++ Put k z ∷ []) tail (g ∷ aux.items) (rec_granules g k (held InRec k) z aux.items) (in_all (g ∷ aux.items) frees)
            (tail_one u k _ (realm_tail rd d d1 d3 at is at_k (record { vmid = both.same.vmid; root = both.same.root; recs = recs_back; rows = both.same.rows }))) leads;
        ready_if = λ r. not_false (is_ready rec.0.state)
            (sym (ap (λ o. realm_is o (λ x y. runs (get y.recs n))) both.found ∙ ap (λ o. elim o [ Some y ↦ runs (get y.recs n) | None ↦ false ]) both.there ∙ ap runs there) ∙ r);
      }
    where
      unnumbered : (d : RealmRow) (q : ℕ) → IsSoundRealm d → q ≡ d.next → get d.recs q ≡ None
      unnumbered d q sound e = elim (get d.recs q) as (λ o. get d.recs q ≡ o → o ≡ None) [
        | None ↦ λ h. refl
        | Some rec ↦ λ h. let less : q < d.next = sound.recs q rec h in absurd (omega arith)
      ] refl

  -- ---- paired operations

  abbrev Y : Act → List Update → Type 0
  Y act us = Leads us → Reversal limits b u w act (rev act)

  pub undone : (act : Act) (realm : Option Seen) → is_of_block act ≡ false → is_paired act ≡ true → list_all (is_leased_to (Some b) u.leases) (named act) ≡ true
      → IsAt u.machine realm → IsHeld b u.leases realm → fits act realm (map (seen u.machine) (named act)) ≡ true
      → Yields (Y act) (outcome_of limits.vmids limits.aux (used_vmids u.machine) act realm (map (seen u.machine) (named act)))
  unfolding outcome_of named fits reverse_of
  undone (Delegate g) realm k p h at held fit = Yields-check (Y (Delegate g)) _ _ _ (λ host. Yields-Ok (Y (Delegate g)) _ (undone_delegate g host))
  undone (Realm rd root v) realm k p h at held fit =
      let P = Y (Realm rd root v) in
      Yields-check P _ _ _ (λ all.
      let new = can_be_made limits.vmids (used_vmids u.machine) u.machine rd root v all in
      Yields-Ok P _ (λ leads. undone_realm rd root v new.delegated new.different (and_parts _ _ h).0 (subst Leads (seen-creation u.machine rd root v) leads) (Realm rd root v)))
  undone (Rtt g ipa level) None k p h at held fit = Yields-Err (Y (Rtt g ipa level)) _
  undone (Rtt g ipa level) (Some rd) k p h at held fit =
      let P = Y (Rtt g ipa level) in
      Yields-with_realm P _ _ (λ d is. Yields-check P _ _ _ (λ all. Yields-with_end P _ _ _ _ (λ end e. Yields-check P _ _ _ (λ last. Yields-check P _ _ _ (λ plain.
      let outer = and_parts _ _ all in
      let inner = and_parts _ _ outer.0 in
      Yields-Ok P _ (λ leads. undone_rtt (Rtt g ipa level) rd d g ipa level (held_cell InRtt rd.number) end.row at is held inner.0 inner.1 outer.1
      (walk_at d.rows ipa (level - 1) end e (eqb-true end.level (level - 1) last)) (not_true _ plain) leads))))))
  undone (Data g ipa source) None k p h at held fit = Yields-Err (Y (Data g ipa source)) _
  undone (Data g ipa source) (Some rd) k p h at held fit =
      let P = Y (Data g ipa source) in
      Yields-with_realm P _ _ (λ d is. Yields-check P _ _ _ (λ all. Yields-check P _ _ _ (λ _. Yields-with_end P _ _ _ _ (λ end e. Yields-check P _ _ _ (λ last. Yields-check P _ _ _ (λ free.
      let outer = and_parts _ _ all in
      let inner = and_parts _ _ outer.0 in
      let bytes = (cell_at u.machine source).bytes in
      Yields-Ok P _ (λ leads. undone_data (Data g ipa source) rd d (measurement_after d.measurement (data_event ipa bytes)) g ipa Ram end.row
      (record (held_cell InData rd.number) { bytes = bytes }) refl at is held inner.0 outer.1
      (walk_at d.rows ipa 3 end e (eqb-true end.level 3 last)) free leads)))))))
  undone (Unknown g ipa) None k p h at held fit = Yields-Err (Y (Unknown g ipa)) _
  undone (Unknown g ipa) (Some rd) k p h at held fit =
      let P = Y (Unknown g ipa) in
      Yields-with_realm P _ _ (λ d is. Yields-check P _ _ _ (λ all. Yields-with_end P _ _ _ _ (λ end e. Yields-check P _ _ _ (λ last. Yields-check P _ _ _ (λ free.
      let outer = and_parts _ _ all in
      Yields-Ok P _ (λ leads. undone_data (Unknown g ipa) rd d d.measurement g ipa end.row.ripas end.row (held_cell InData rd.number) refl at is held outer.0 outer.1
      (walk_at d.rows ipa 3 end e (eqb-true end.level 3 last)) free leads))))))
  undone (Rec g aux n) None k p h at held fit = Yields-Err (Y (Rec g aux n)) _
  undone (Rec g aux n) (Some rd) k p h at held fit =
      let P = Y (Rec g aux n) in
      Yields-with_realm P _ _ (λ d is. Yields-check P _ _ _ (λ all. Yields-check P _ _ _ (λ _.
      Yields-Ok P _ (λ leads. undone_rec rd d (measurement_after d.measurement (rec_event d.next)) g aux n at is held (and_parts _ _ (and_parts _ _ all).0).0
      (eqb-true n d.next (realm_test rd d (λ x y. n == y.next) fit is)) leads))))
  undone (Take order first) realm k p h at held fit = cc
  undone (UnTake order first) realm k p h at held fit = cc
  undone (Fill g v) realm k p h at held fit = cc
  undone (Peek g o v) realm k p h at held fit = cc
  undone (Undelegate g) realm k p h at held fit = cc
  undone (UnRealm rd root v) realm k p h at held fit = cc
  undone Activate realm k p h at held fit = cc
  undone (UnRtt g ipa level) realm k p h at held fit = cc
  undone (ToRam ipa n) realm k p h at held fit = cc
  undone (UnData g ipa) realm k p h at held fit = cc
  undone (UnRec g aux n) realm k p h at held fit = cc
  undone (Enter n) realm k p h at held fit = cc
  undone (Exit n) realm k p h at held fit = cc
  undone (Poke n ipa o v) realm k p h at held fit = cc
