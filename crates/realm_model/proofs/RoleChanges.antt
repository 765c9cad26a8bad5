-- Proofs that updates of UNDELEGATED and DELEGATED granules, or of one realm, preserve the invariant that links realms
-- to the granules that they name.
use Rattle.std.proofs.Common.{◌≡◌, ℕ, Bool, true, false, cond, ◌||◌, ◌⊎◌, inl, inr, List, [], ◌∷◌, ◌++◌, map, Option, Some, None, refl, sym, ap, ◌∙◌, subst}
use Rattle.std.specs.Prelude.{is_some, ◌==◌, option_map}
use Rattle.std.specs.List.{list_all}
use Rattle.std.specs.FinMap.{get}
use Rattle.std.proofs.lemmas.Bool.{and_parts, eqb-true, eqb-false}
use Rattle.std.proofs.lemmas.Option.{same_Some}
use Rattle.realm_model.specs.declared.states.GranuleState.{GranuleState}
use Rattle.realm_model.specs.declared.states.GranuleState.TheVariants.{Rd}
use Rattle.realm_model.specs.Machine.{RealmRow, Cell, Seen, blank, cell_at, seen}
use Rattle.realm_model.specs.Update.{Update, Put, PutByte, granule_of, cell_after}
use Rattle.realm_model.specs.Command.Check.{is_delegated, is_undelegated, is_in}
use Rattle.realm_model.specs.World.{World}
use Rattle.realm_model.specs.Ownership.{granules_of_rec}
use Rattle.realm_model.specs.Sound.{mapping_at, is_host_state, is_rd_state}
use Rattle.realm_model.specs.Roles.{Role, AsStart, AtRow, AsRec, AsAux, row_target, start_target, aux_target, target, is_role_state, HasRole}
use Rattle.realm_model.proofs.Booleans.{true_false, none_from}
use Rattle.realm_model.proofs.Written.{put_at, put_more, put_last, put_other}
use Rattle.realm_model.proofs.SoundCells.{delegated_state, undelegated_state}
use Rattle.realm_model.proofs.Roles.{SameHead, linked_after, target_state, host_no_role, host_no_rd, role_no_host, rec_target}
use Rattle.realm_model.proofs.Parts.{IsSoundPart, IsLinked}

pub no_descriptor : (c : Cell) (e : RealmRow) → c.descriptor ≡ None → c.descriptor ≡ Some e → ⊥
no_descriptor c e none some = true_false _ (ap is_some some) (ap is_some none)

-- if a granule has a realm's row after a cell without such a row is written, the granule had the same row before
pub bare_one : (g : ℕ) (x : Cell) → x.descriptor ≡ None → (k : ℕ) (c : Cell) (e : RealmRow) → (put_at (Put g x ∷ []) k c).descriptor ≡ Some e → c.descriptor ≡ Some e
bare_one g x none k c e h = elim (k == g) as (λ t. (cond t x c).descriptor ≡ Some e → c.descriptor ≡ Some e) [ true ↦ λ h. absurd (no_descriptor x e none h) | false ↦ λ h. h ] h

module _ (w : World) (sound : IsSoundPart w) where
  abbrev now : ℕ → Cell
  now k = cell_at w.machine k

  pub host_bare : (k : ℕ) → is_host_state (now k).state ≡ true → (now k).descriptor ≡ None
  host_bare k host = none_from (now k).descriptor ((sound.cells k).descriptor ∙ host_no_rd (now k).state host)

  -- the part has one RD at most
  pub one_place : (k n : ℕ) (e d : RealmRow) → (now k).descriptor ≡ Some e → (now n).descriptor ≡ Some d → k ≡ n
  one_place k n e d is at = stands k e is ∙ sym (stands n d at)
    where
      stands : (k : ℕ) (e : RealmRow) → (now k).descriptor ≡ Some e → k ≡ sound.rd
      stands k e is = (sound.cells k).alone (sym (sound.cells k).descriptor ∙ ap is_some is)

  -- the RD of a realm is not in the state of a role
  pub rd_no_role : (k : ℕ) (d : RealmRow) → (now k).descriptor ≡ Some d → is_role_state (now k).state ≡ false
  rd_no_role k d is = of_state (now k).state (sym (sound.cells k).descriptor ∙ ap is_some is)
    where
      of_state : (s : GranuleState) → is_rd_state s ≡ true → is_role_state s ≡ false
      of_state Rd h = refl
      of_state _ h = cc

  pub delegated_host : (g : ℕ) → is_delegated (seen w.machine g) ≡ true → is_host_state (now g).state ≡ true
  delegated_host g h = ap is_host_state (delegated_state (now g) g h)

  pub undelegated_host : (g : ℕ) → is_undelegated (seen w.machine g) ≡ true → is_host_state (now g).state ≡ true
  undelegated_host g h = ap is_host_state (undelegated_state (now g) g h)

  pub all_host : (test : Seen → Bool) → ((g : ℕ) → test (seen w.machine g) ≡ true → is_host_state (now g).state ≡ true)
      → (gs : List ℕ) → list_all test (map (seen w.machine) gs) ≡ true → (k : ℕ) → is_in k gs ≡ true → is_host_state (now k).state ≡ true
  all_host test host [] h k e = cc
  all_host test host (g ∷ gs) h k e =
      let parts = and_parts _ _ h in
      elim (k == g) as (λ t. (k == g) ≡ t → (t || is_in k gs) ≡ true → is_host_state (now k).state ≡ true) [
        | true ↦ λ same e. ap (λ j. is_host_state (now j).state) (eqb-true k g same) ∙ host g parts.0
        | false ↦ λ same e. all_host test host gs parts.1 k e
      ] refl e

  module _ (old : IsLinked now) where
    -- if granules with a role keep their state and realm, no other granule gets the state of a role, and no realm
    -- changes, the invariant still holds
    kept : (after : ℕ → Cell) → ((k : ℕ) → is_role_state (now k).state ≡ true → SameHead (after k) (now k))
        → ((k : ℕ) → is_role_state (after k).state ≡ true → is_role_state (now k).state ≡ true)
        → ((k : ℕ) (e : RealmRow) → (after k).descriptor ≡ Some e → (now k).descriptor ≡ Some e)
        → ((k : ℕ) (e : RealmRow) → (now k).descriptor ≡ Some e → (after k).descriptor ≡ Some e)
        → IsLinked after
    kept after heads roles rows rows_back = linked_after now after old (λ k. None) (λ k q f. absurd (no_role q f))
        (λ k e is. (e, rows k e is, λ p to there. inl (there, λ f role. heads to.0 (ap is_role_state (old.names k e (rows k e is) p to there).0 ∙ target_state e p to there))))
        (λ g h.
        let r = old.named g (roles g h) in
        record { rd = r.rd; realm = r.realm; there = rows_back r.rd r.realm r.there; role = r.role; named = r.named ∙ (λ i. Some (g, sym (heads g (roles g h)).0 i)) })
      where
        no_role : (q : Role) → ◌≡◌ {A = Option Role} None (Some q) → ⊥
        no_role q f = cc

    -- the invariant holds after a write of a granule that is UNDELEGATED or DELEGATED before and after it
    pub host_put : (g : ℕ) (x : Cell) → is_host_state (now g).state ≡ true → is_host_state x.state ≡ true → x.descriptor ≡ None → IsLinked (λ k. put_at (Put g x ∷ []) k (now k))
    host_put g x host stays none = kept (λ k. put_at (Put g x ∷ []) k (now k))
        (λ k role. elim (k == g) as (λ t. (k == g) ≡ t → SameHead (cond t x (now k)) (now k)) [
          | true ↦ λ at. absurd (true_false _ (ap (λ j. is_host_state (now j).state) (eqb-true k g at) ∙ host) (role_no_host (now k).state role))
          | false ↦ λ at. (refl, refl)
        ] refl)
        (λ k role. elim (k == g) as (λ t. is_role_state (cond t x (now k)).state ≡ true → is_role_state (now k).state ≡ true) [
          | true ↦ λ role. absurd (true_false _ role (host_no_role x.state stays))
          | false ↦ λ role. role
        ] role)
        (λ k e. bare_one g x none k (now k) e)
        (λ k e is. elim (k == g) as (λ t. (k == g) ≡ t → (cond t x (now k)).descriptor ≡ Some e) [
          | true ↦ λ at. absurd (no_descriptor (now k) e (host_bare k (ap (λ j. is_host_state (now j).state) (eqb-true k g at) ∙ host)) is)
          | false ↦ λ at. is
        ] refl)

    -- the invariant holds after UNDELEGATED granules are given back
    pub freed : (gs : List ℕ) → list_all is_undelegated (map (seen w.machine) gs) ≡ true → IsLinked (λ k. cond (is_in k gs) blank (now k))
    freed gs free = kept (λ k. cond (is_in k gs) blank (now k))
        (λ k role. elim (is_in k gs) as (λ t. is_in k gs ≡ t → SameHead (cond t blank (now k)) (now k)) [
          | true ↦ λ i. absurd (true_false _ (host k i) (role_no_host (now k).state role))
          | false ↦ λ i. (refl, refl)
        ] refl)
        (λ k role. elim (is_in k gs) as (λ t. is_role_state (cond t blank (now k)).state ≡ true → is_role_state (now k).state ≡ true) [ true ↦ λ h. cc | false ↦ λ h. h ] role)
        (λ k e h. elim (is_in k gs) as (λ t. (cond t blank (now k)).descriptor ≡ Some e → (now k).descriptor ≡ Some e) [ true ↦ λ h. cc | false ↦ λ h. h ] h)
        (λ k e is. elim (is_in k gs) as (λ t. is_in k gs ≡ t → (cond t blank (now k)).descriptor ≡ Some e) [
          | true ↦ λ i. absurd (no_descriptor (now k) e (host_bare k (host k i)) is)
          | false ↦ λ i. is
        ] refl)
      where
        host : (k : ℕ) → is_in k gs ≡ true → is_host_state (now k).state ≡ true
        host = all_host is_undelegated undelegated_host gs free

    -- the invariant holds after a byte is written
    pub poked : (g o v : ℕ) → IsLinked (λ k. put_at (PutByte g o v ∷ []) k (now k))
    poked g o v = kept (λ k. put_at (PutByte g o v ∷ []) k (now k))
        (λ k role. elim (k == g) as (λ t. SameHead (cond t (cell_after (PutByte g o v) (now k)) (now k)) (now k)) [ true ↦ (refl, refl) | false ↦ (refl, refl) ])
        (λ k role. elim (k == g) as (λ t. is_role_state (cond t (cell_after (PutByte g o v) (now k)) (now k)).state ≡ true → is_role_state (now k).state ≡ true)
        [ true ↦ λ h. h | false ↦ λ h. h ] role)
        (λ k e h. elim (k == g) as (λ t. (cond t (cell_after (PutByte g o v) (now k)) (now k)).descriptor ≡ Some e → (now k).descriptor ≡ Some e) [ true ↦ λ h. h | false ↦ λ h. h ] h)
        (λ k e is. elim (k == g) as (λ t. (cond t (cell_after (PutByte g o v) (now k)) (now k)).descriptor ≡ Some e) [ true ↦ is | false ↦ is ])

    -- ---- updates of granules of which the last is a realm's own

    module _ (rd : Seen) (d e1 : RealmRow) (at : now rd.number ≡ rd.cell) (is : rd.cell.descriptor ≡ Some d) (us : List Update)
        (bare : (k : ℕ) (c : Cell) (e : RealmRow) → (put_at us k c).descriptor ≡ Some e → c.descriptor ≡ Some e) where
      abbrev n : ℕ
      n = rd.number

      abbrev z : Cell
      z = record rd.cell { descriptor = Some e1 }

      abbrev all : List Update
      all = us ++ Put n z ∷ []

      n_is : (now n).descriptor ≡ Some d
      n_is = ap (λ (c : Cell). c.descriptor) at ∙ is

      split : (k : ℕ) → put_at all k (now k) ≡ cond (k == n) z (put_at us k (now k))
      split k = put_more us (Put n z ∷ []) k (now k)

      row_after : (k : ℕ) (e : RealmRow) → (put_at all k (now k)).descriptor ≡ Some e → (k ≡ n) × (e1 ≡ e)
      row_after k e h = elim (k == n) as (λ t. (k == n) ≡ t → (cond t z (put_at us k (now k))).descriptor ≡ Some e → (k ≡ n) × (e1 ≡ e)) [
        | true ↦ λ here h. (eqb-true k n here, same_Some _ _ h)
        | false ↦ λ other h. absurd (eqb-false k n other (one_place k n e d (bare k (now k) e h) n_is))
      ] refl (sym (ap (λ (c : Cell). c.descriptor) (split k)) ∙ h)

      untouched : (k : ℕ) → is_in k (map granule_of us) ≡ false → SameHead (put_at all k (now k)) (now k)
      untouched k out = subst (λ c. SameHead c (now k)) (sym (split k))
          (elim (k == n) as (λ t. (k == n) ≡ t → SameHead (cond t z (put_at us k (now k))) (now k)) [
            | true ↦ λ here.
                let cell : rd.cell ≡ now k = sym at ∙ ap now (sym (eqb-true k n here)) in
                (ap (λ (c : Cell). c.state) cell, ap (λ (c : Cell). c.realm) cell)
            | false ↦ λ other. let cell = put_other us k (now k) out in (ap (λ (c : Cell). c.state) cell, ap (λ (c : Cell). c.realm) cell)
          ] refl)

      -- the update of the RD changes no granule that is UNDELEGATED or DELEGATED
      elsewhere : (k : ℕ) → is_host_state (now k).state ≡ true → put_at all k (now k) ≡ put_at us k (now k)
      elsewhere k host = split k
          ∙ elim (k == n) as (λ t. (k == n) ≡ t → cond t z (put_at us k (now k)) ≡ put_at us k (now k)) [
            | true ↦ λ here. absurd (no_descriptor (now k) d (host_bare k host) (ap (λ j. (now j).descriptor) (eqb-true k n here) ∙ n_is))
            | false ↦ λ other. refl
          ] refl

      named_after : ((p : Role) (to : ℕ × GranuleState) → target d p ≡ Some to → is_in to.0 (map granule_of us) ≡ false → target e1 p ≡ Some to)
          → ((k : ℕ) → is_in k (map granule_of us) ≡ true → is_role_state (put_at us k (now k)).state ≡ true → (p : Role) × (target e1 p ≡ Some (k, (put_at us k (now k)).state)))
          → (g : ℕ) → is_role_state (put_at all g (now g)).state ≡ true → HasRole (λ k. put_at all k (now k)) g
      named_after stays made g h =
          elim (g == n) as (λ t. (g == n) ≡ t → is_role_state (cond t z (put_at us g (now g))).state ≡ true → HasRole (λ k. put_at all k (now k)) g) [
            | true ↦ λ here h. absurd (true_false _ h (ap (λ (c : Cell). is_role_state c.state) (sym at) ∙ rd_no_role n d n_is))
            | false ↦ λ other h.
                let there : put_at all g (now g) ≡ put_at us g (now g) = split g ∙ ap (λ t. cond t z (put_at us g (now g))) other in
                let row : (put_at all n (now n)).descriptor ≡ Some e1 = ap (λ (c : Cell). c.descriptor) (put_last us n z (now n)) in
                elim (is_in g (map granule_of us)) as (λ t. is_in g (map granule_of us) ≡ t → HasRole (λ k. put_at all k (now k)) g) [
                  | true ↦ λ i. let p = made g i h in
                      record { rd = n; realm = e1; there = row; role = p.0; named = p.1 ∙ (λ j. Some (g, sym (ap (λ (c : Cell). c.state) there) j)) }
                  | false ↦ λ i.
                      let same : put_at us g (now g) ≡ now g = put_other us g (now g) i in
                      let r = old.named g (sym (ap (λ (c : Cell). is_role_state c.state) same) ∙ h) in
                      let place : r.rd ≡ n = one_place r.rd n r.realm d r.there n_is in
                      let realm : r.realm ≡ d = same_Some _ _ (sym r.there ∙ ap (λ j. (now j).descriptor) place ∙ n_is) in
                      record {
                        rd = n;
                        realm = e1;
                        there = row;
                        role = r.role;
                        named = stays r.role (g, (now g).state) (ap (λ x. target x r.role) (sym realm) ∙ r.named) i ∙ (λ j. Some (g, sym (ap (λ (c : Cell). c.state) (there ∙ same)) j));
                      }
                ] refl
          ] refl (sym (ap (λ (c : Cell). is_role_state c.state) (split g)) ∙ h)

      -- The invariant holds if the realm names only granules that were named before and are not updated, and fresh
      -- granules. Those were UNDELEGATED or DELEGATED, and the updates give them the realm and the state of their role.
      -- Each granule that the realm names no longer must be updated, and each updated granule in a role's state must be
      -- named.
      pub changed : (fresh : ℕ → Option Role) → ((k : ℕ) (q : Role) → fresh k ≡ Some q → is_host_state (now k).state ≡ true)
          → ((p : Role) (to : ℕ × GranuleState) → target e1 p ≡ Some to →
          ((target d p ≡ Some to) × (fresh to.0 ≡ None → old.roles to.0 ≡ p → is_in to.0 (map granule_of us) ≡ false))
          ⊎ ((fresh to.0 ≡ Some p) × ((put_at us to.0 (now to.0)).state ≡ to.1) × ((put_at us to.0 (now to.0)).realm ≡ Some n)))
          → ((p : Role) (to : ℕ × GranuleState) → target d p ≡ Some to → is_in to.0 (map granule_of us) ≡ false → target e1 p ≡ Some to)
          → ((k : ℕ) → is_in k (map granule_of us) ≡ true → is_role_state (put_at us k (now k)).state ≡ true → (p : Role) × (target e1 p ≡ Some (k, (put_at us k (now k)).state)))
          → IsLinked (λ k. put_at all k (now k))
      changed fresh host names stays made = linked_after now (λ k. put_at all k (now k)) old fresh (λ k q f. host_no_role (now k).state (host k q f))
          (λ k e h.
          let row = row_after k e h in (
            d,
            ap (λ j. (now j).descriptor) row.0 ∙ n_is,
            λ p to there.
                elim (names p to (ap (λ x. target x p) row.1 ∙ there)) [
                  | inl same ↦ inl (same.0, λ f role. untouched to.0 (same.1 f role))
                  | inr new ↦
                      let cell = elsewhere to.0 (host to.0 p new.0) in
                      inr (new.0, ap (λ (c : Cell). c.state) cell ∙ new.1, ap (λ (c : Cell). c.realm) cell ∙ new.2 ∙ ap Some (sym row.0))
                ],
          ))
          (named_after stays made)

    -- the invariant holds after a change of a realm that still names the same granules
    pub realm_same : (rd : Seen) (d e1 : RealmRow) → now rd.number ≡ rd.cell → rd.cell.descriptor ≡ Some d → e1.root ≡ d.root
        → ((q : ℕ × ℕ) → mapping_at d.rows q ≡ mapping_at e1.rows q) → ((q : ℕ) → option_map granules_of_rec (get d.recs q) ≡ option_map granules_of_rec (get e1.recs q))
        → IsLinked (λ k. put_at (Put rd.number (record rd.cell { descriptor = Some e1 }) ∷ []) k (now k))
    realm_same rd d e1 at is root rows recs =
        changed rd d e1 at is [] (λ k c e h. h) (λ k. None) (λ k q f. absurd (no_role q f)) (λ p to h. inl (sym (same p) ∙ h, λ f role. refl)) (λ p to h out. same p ∙ h) (λ k i h. cc)
      where
        no_role : (q : Role) → ◌≡◌ {A = Option Role} None (Some q) → ⊥
        no_role q f = cc

        same : (p : Role) → target e1 p ≡ target d p
        same (AsStart i) = ap (λ r. start_target r i) root
        same (AtRow q) = ap row_target (sym (rows q))
        same (AsRec q) = ap rec_target (sym (recs q))
        same (AsAux q i) = ap (λ o. aux_target o i) (sym (recs q))
