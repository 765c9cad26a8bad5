-- Proofs that creating or destroying a REC preserves the invariant that links realms to the granules that they name.
use Rattle.std.proofs.Common.{◌≡◌, ℕ, true, false, cond, ◌||◌, ◌⊎◌, inl, inr, List, [], ◌∷◌, ◌++◌, map, Option, Some, None, refl, sym, ap, ◌∙◌}
use Rattle.std.specs.Prelude.{is_some, ◌==◌, option_map, slice_get}
use Rattle.std.specs.List.{list_all}
use Rattle.std.specs.Ordering.{nat_cmp, eq_by_cmp}
use Rattle.std.specs.Cmp.{nat_cmp_total, eq_by_cmp_equiv}
use Rattle.std.specs.FinMap.{get}
use Rattle.std.proofs.lemmas.Bool.{eqb-true, eq-eqb, ne_eqb}
use Rattle.std.proofs.lemmas.Option.{same_Some}
use Rattle.realm_model.specs.declared.states.GranuleState.{GranuleState}
use Rattle.realm_model.specs.declared.states.GranuleState.TheVariants.{Rec as InRec, RecAux}
use Rattle.realm_model.specs.Machine.{RecRow, RealmRow, Cell, Seen, left, held, cell_at, seen}
use Rattle.realm_model.specs.Update.{Update, Put, granule_of}
use Rattle.realm_model.specs.Command.Check.{is_delegated, is_in}
use Rattle.realm_model.specs.World.{World}
use Rattle.realm_model.specs.Ownership.{granules_of_rec}
use Rattle.realm_model.specs.Sound.{mapping_at, is_host_state}
use Rattle.realm_model.specs.Roles.{Role, AsStart, AtRow, AsRec, AsAux, row_target, start_target, aux_target, target, is_role_state}
use Rattle.realm_model.proofs.Booleans.{true_false}
use Rattle.realm_model.proofs.Lists.{is_in_at, is_in_more, index_of, AllDistinct}
use Rattle.realm_model.proofs.Maps.{nat_place}
use Rattle.realm_model.proofs.Written.{put_at, put_at-each_put, granules-each_put, each_put, lefts}
use Rattle.realm_model.proofs.Roles.{rec_target}
use Rattle.realm_model.proofs.ListedRoles.{listed_role, listed_in, listed_out, listed_at, listed_target}
use Rattle.realm_model.proofs.RoleChanges.{all_host, delegated_host, changed}
use Rattle.realm_model.proofs.Parts.{IsSoundPart, IsLinked}

abbrev pub auxes : ℕ → List ℕ → List Update
auxes n gs = each_put (held RecAux n) gs

-- the role of granule `k` in REC `m`, whose granules are `g` and the auxiliary `gs`, or None if `k` is none of these
abbrev rec_role : ℕ → ℕ → List ℕ → ℕ → Option Role
rec_role m g gs k = cond (k == g) (Some (AsRec m)) (listed_role (AsAux m) gs k)

bare_lefts : (gs : List ℕ) (k : ℕ) (x : Cell) (e : RealmRow) → (put_at (lefts gs) k x).descriptor ≡ Some e → x.descriptor ≡ Some e
bare_lefts gs k x e h =
    elim (is_in k gs) as (λ t. (cond t left x).descriptor ≡ Some e → x.descriptor ≡ Some e) [ true ↦ λ h. cc | false ↦ λ h. h ]
    (sym (ap (λ (y : Cell). y.descriptor) (put_at-each_put left gs k x)) ∙ h)

module _ (w : World) (sound : IsSoundPart w) (old : IsLinked (λ k. cell_at w.machine k)) (rd : Seen) (d e1 : RealmRow)
    (at : cell_at w.machine rd.number ≡ rd.cell) (is : rd.cell.descriptor ≡ Some d) (root : e1.root ≡ d.root) (rows : e1.rows ≡ d.rows) where
  abbrev now : ℕ → Cell
  now k = cell_at w.machine k

  abbrev n : ℕ
  n = rd.number

  abbrev recs_of : RealmRow → ℕ → Option (ℕ × List ℕ)
  recs_of r q = option_map granules_of_rec (get r.recs q)

  same_row : (q : ℕ × ℕ) → row_target (mapping_at e1.rows q) ≡ row_target (mapping_at d.rows q)
  same_row q = ap (λ rs. row_target (mapping_at rs q)) rows

  -- the invariant holds after DELEGATED granules, all different, become a REC with a number that no REC had
  pub rec_more : (g : ℕ) (gs : List ℕ) (m : ℕ) → list_all is_delegated (map (seen w.machine) (g ∷ gs)) ≡ true → AllDistinct (g ∷ gs) → recs_of d m ≡ None
      → ((q : ℕ) → recs_of e1 q ≡ cond (eq_by_cmp nat_cmp q m) (Some (g, gs)) (recs_of d q))
      → IsLinked (λ k. put_at ((Put g (held InRec n) ∷ auxes n gs) ++ Put n (record rd.cell { descriptor = Some e1 }) ∷ []) k (now k))
  rec_more g gs m free different unused recs =
      changed w sound old rd d e1 at is us bare (rec_role m g gs) host names named made
    where
      c : Cell
      c = held InRec n

      us : List Update
      us = Put g (held InRec n) ∷ auxes n gs

      written : (k : ℕ) (x : Cell) → put_at us k x ≡ cond (is_in k gs) (held RecAux n) (cond (k == g) c x)
      written k x = put_at-each_put (held RecAux n) gs k (cond (k == g) c x)

      bare : (k : ℕ) (x : Cell) (e : RealmRow) → (put_at us k x).descriptor ≡ Some e → x.descriptor ≡ Some e
      bare k x e h = elim (is_in k gs) as (λ t. (cond t (held RecAux n) (cond (k == g) c x)).descriptor ≡ Some e → x.descriptor ≡ Some e) [
        | true ↦ λ h. cc
        | false ↦ λ h. elim (k == g) as (λ t. (cond t c x).descriptor ≡ Some e → x.descriptor ≡ Some e) [ true ↦ λ h. cc | false ↦ λ h. h ] h
      ] (sym (ap (λ (y : Cell). y.descriptor) (written k x)) ∙ h)

      host : (k : ℕ) (q : Role) → rec_role m g gs k ≡ Some q → is_host_state (now k).state ≡ true
      host k q f = all_host w sound is_delegated (delegated_host w sound) (g ∷ gs) free k
          (elim (k == g) as (λ t. cond t (Some (AsRec m)) (listed_role (AsAux m) gs k) ≡ Some q → (t || is_in k gs) ≡ true) [ true ↦ λ f. refl | false ↦ λ f. listed_in (AsAux m) gs k q f ] f)

      granules : (k : ℕ) → is_in k (map granule_of us) ≡ is_in k (g ∷ gs)
      granules k = ap (λ l. is_in k (g ∷ l)) (granules-each_put (held RecAux n) gs)

      out : (k : ℕ) → rec_role m g gs k ≡ None → is_in k (map granule_of us) ≡ false
      out k f = granules k
          ∙ elim (k == g) as (λ t. cond t (Some (AsRec m)) (listed_role (AsAux m) gs k) ≡ None → (t || is_in k gs) ≡ false) [ true ↦ λ f. cc | false ↦ λ f. listed_out (AsAux m) gs k f ] f

      -- after the updates, the REC's granule has the cell of a REC, and (`at_aux`) each auxiliary granule has the cell
      -- of an auxiliary granule
      at_rec : (k : ℕ) → k ≡ g → put_at us k (now k) ≡ c
      at_rec k here = written k (now k)
          ∙ ap (λ t. cond t (held RecAux n) (cond (k == g) c (now k))) (ap (λ j. is_in j gs) here ∙ different.0)
          ∙ ap (λ t. cond t c (now k)) (eq-eqb k g here)

      at_aux : (k : ℕ) → is_in k gs ≡ true → put_at us k (now k) ≡ held RecAux n
      at_aux k i = written k (now k) ∙ ap (λ t. cond t (held RecAux n) (cond (k == g) c (now k))) i

      fresh_rec : (q : ℕ) (to : ℕ × GranuleState) → q ≡ m → (g, InRec) ≡ to → (rec_role m g gs to.0 ≡ Some (AsRec q)) × ((put_at us to.0 (now to.0)).state ≡ to.1)
          × ((put_at us to.0 (now to.0)).realm ≡ Some n)
      fresh_rec q to qs ts =
          let here : to.0 ≡ g = ap (λ (t : ℕ × GranuleState). t.0) (sym ts) in
          let cell = at_rec to.0 here in (
            ap (λ t. cond t (Some (AsRec m)) (listed_role (AsAux m) gs to.0)) (eq-eqb to.0 g here) ∙ ap (λ x. Some (AsRec x)) (sym qs),
            ap (λ (y : Cell). y.state) cell ∙ ap (λ (t : ℕ × GranuleState). t.1) ts,
            ap (λ (y : Cell). y.realm) cell,
          )

      fresh_aux : (q i : ℕ) (to : ℕ × GranuleState) → q ≡ m → option_map (λ a. (a, RecAux)) (slice_get gs i) ≡ Some to
          → (rec_role m g gs to.0 ≡ Some (AsAux q i)) × ((put_at us to.0 (now to.0)).state ≡ to.1) × ((put_at us to.0 (now to.0)).realm ≡ Some n)
      fresh_aux q i to qs h =
          let there = listed_target RecAux gs i to h in
          let other : (to.0 == g) ≡ false = ne_eqb to.0 g (λ x. true_false _ (is_in_at gs i g (there.0 ∙ ap Some x)) different.0) in
          let cell = at_aux to.0 (is_in_at gs i to.0 there.0) in (
            ap (λ t. cond t (Some (AsRec m)) (listed_role (AsAux m) gs to.0)) other ∙ listed_at (AsAux m) gs i to.0 different.1 there.0 ∙ ap (λ x. Some (AsAux x i)) (sym qs),
            ap (λ (y : Cell). y.state) cell ∙ there.1,
            ap (λ (y : Cell). y.realm) cell,
          )

      names : (p : Role) (to : ℕ × GranuleState) → target e1 p ≡ Some to → ((target d p ≡ Some to) × (rec_role m g gs to.0 ≡ None → old.roles to.0 ≡ p → is_in to.0 (map granule_of us) ≡ false))
          ⊎ ((rec_role m g gs to.0 ≡ Some p) × ((put_at us to.0 (now to.0)).state ≡ to.1) × ((put_at us to.0 (now to.0)).realm ≡ Some n))
      names (AsStart i) to h = inl (ap (λ r. start_target r i) (sym root) ∙ h, λ f role. out to.0 f)
      names (AtRow q) to h = inl (sym (same_row q) ∙ h, λ f role. out to.0 f)
      names (AsRec q) to h = elim (eq_by_cmp nat_cmp q m) as (λ t. eq_by_cmp nat_cmp q m ≡ t → rec_target (cond t (Some (g, gs)) (recs_of d q)) ≡ Some to
          → ((target d (AsRec q) ≡ Some to) × (rec_role m g gs to.0 ≡ None → old.roles to.0 ≡ AsRec q → is_in to.0 (map granule_of us) ≡ false))
          ⊎ ((rec_role m g gs to.0 ≡ Some (AsRec q)) × ((put_at us to.0 (now to.0)).state ≡ to.1) × ((put_at us to.0 (now to.0)).realm ≡ Some n))) [
            | true ↦ λ e h. inr (fresh_rec q to (nat_place q m e) (same_Some _ _ h))
            | false ↦ λ e h. inl (h, λ f role. out to.0 f)
          ] refl (ap rec_target (sym (recs q)) ∙ h)
      names (AsAux q i) to h = elim (eq_by_cmp nat_cmp q m) as (λ t. eq_by_cmp nat_cmp q m ≡ t → aux_target (cond t (Some (g, gs)) (recs_of d q)) i ≡ Some to
          → ((target d (AsAux q i) ≡ Some to) × (rec_role m g gs to.0 ≡ None → old.roles to.0 ≡ AsAux q i → is_in to.0 (map granule_of us) ≡ false))
          ⊎ ((rec_role m g gs to.0 ≡ Some (AsAux q i)) × ((put_at us to.0 (now to.0)).state ≡ to.1) × ((put_at us to.0 (now to.0)).realm ≡ Some n))) [
            | true ↦ λ e h. inr (fresh_aux q i to (nat_place q m e) h)
            | false ↦ λ e h. inl (h, λ f role. out to.0 f)
          ] refl (ap (λ o. aux_target o i) (sym (recs q)) ∙ h)

      -- each number has the same REC as before, or had none before
      recs_stay : (q : ℕ) → (recs_of e1 q ≡ recs_of d q) ⊎ (recs_of d q ≡ None)
      recs_stay q = elim (eq_by_cmp nat_cmp q m) as (λ t. eq_by_cmp nat_cmp q m ≡ t → recs_of e1 q ≡ cond t (Some (g, gs)) (recs_of d q) → (recs_of e1 q ≡ recs_of d q) ⊎ (recs_of d q ≡ None)) [
        | true ↦ λ e is. inr (ap (recs_of d) (nat_place q m e) ∙ unused)
        | false ↦ λ e is. inl is
      ] refl (recs q)

      named : (p : Role) (to : ℕ × GranuleState) → target d p ≡ Some to → is_in to.0 (map granule_of us) ≡ false → target e1 p ≡ Some to
      named (AsStart i) to h out = ap (λ r. start_target r i) root ∙ h
      named (AtRow q) to h out = same_row q ∙ h
      named (AsRec q) to h out = elim (recs_stay q) [ inl same ↦ ap rec_target same ∙ h | inr none ↦ absurd (true_false _ (ap is_some h) (ap (λ o. is_some (rec_target o)) none)) ]
      named (AsAux q i) to h out = elim (recs_stay q) [ inl same ↦ ap (λ o. aux_target o i) same ∙ h | inr none ↦ absurd (true_false _ (ap is_some h) (ap (λ o. is_some (aux_target o i)) none)) ]

      it_is : recs_of e1 m ≡ Some (g, gs)
      it_is = recs m ∙ ap (λ t. cond t (Some (g, gs)) (recs_of d m)) ((eq_by_cmp_equiv nat_cmp_total).refl m)

      made : (k : ℕ) → is_in k (map granule_of us) ≡ true → is_role_state (put_at us k (now k)).state ≡ true → (p : Role) × (target e1 p ≡ Some (k, (put_at us k (now k)).state))
      made k i role = elim (k == g) as (λ t. (k == g) ≡ t → (t || is_in k gs) ≡ true → (p : Role) × (target e1 p ≡ Some (k, (put_at us k (now k)).state))) [
        | true ↦ λ here i.
            let same : k ≡ g = eqb-true k g here in
            (AsRec m, ap rec_target it_is ∙ (λ j. Some (sym same j, sym (ap (λ (y : Cell). y.state) (at_rec k same)) j)))
        | false ↦ λ other i.
            let at_i = index_of gs k i in
            (AsAux m at_i.0, ap (λ o. aux_target o at_i.0) it_is ∙ ap (option_map (λ a. (a, RecAux))) at_i.1 ∙ (λ j. Some (k, sym (ap (λ (y : Cell). y.state) (at_aux k i)) j)))
      ] refl (sym (granules k) ∙ i)

  -- the invariant holds after a REC is removed, and its granules leave the realm
  pub rec_less : (m : ℕ) (rec : RecRow) → get d.recs m ≡ Some rec
      → ((q : ℕ) → recs_of e1 q ≡ cond (eq_by_cmp nat_cmp q m) None (recs_of d q))
      → IsLinked (λ k. put_at (lefts (rec.granule ∷ rec.auxiliaries) ++ Put n (record rd.cell { descriptor = Some e1 }) ∷ []) k (now k))
  rec_less m rec there recs =
      changed w sound old rd d e1 at is (lefts all) (bare_lefts all) (λ k. None) (λ k q f. absurd (no_role q f))
      (λ p to h. inl (fewer p to h, λ f role. out p to h role)) named (λ k i role. absurd (no_left k i role))
    where
      all : List ℕ
      all = rec.granule ∷ rec.auxiliaries

      no_role : (q : Role) → ◌≡◌ {A = Option Role} None (Some q) → ⊥
      no_role q f = cc

      no_left : (k : ℕ) → is_in k (map granule_of (lefts all)) ≡ true → is_role_state (put_at (lefts all) k (now k)).state ≡ true → ⊥
      no_left k i role =
          true_false _ role (ap (λ (y : Cell). is_role_state y.state) (put_at-each_put left all k (now k) ∙ ap (λ t. cond t left (now k)) (sym (ap (is_in k) (granules-each_put left all)) ∙ i)))

      fewer : (p : Role) (to : ℕ × GranuleState) → target e1 p ≡ Some to → target d p ≡ Some to
      fewer (AsStart i) to h = ap (λ r. start_target r i) (sym root) ∙ h
      fewer (AtRow q) to h = sym (same_row q) ∙ h
      fewer (AsRec q) to h = elim (eq_by_cmp nat_cmp q m) as (λ t. rec_target (cond t None (recs_of d q)) ≡ Some to → target d (AsRec q) ≡ Some to) [
        | true ↦ λ h. cc
        | false ↦ λ h. h
      ] (ap rec_target (sym (recs q)) ∙ h)
      fewer (AsAux q i) to h = elim (eq_by_cmp nat_cmp q m) as (λ t. aux_target (cond t None (recs_of d q)) i ≡ Some to → target d (AsAux q i) ≡ Some to) [
        | true ↦ λ h. cc
        | false ↦ λ h. h
      ] (ap (λ o. aux_target o i) (sym (recs q)) ∙ h)

      gone : recs_of e1 m ≡ None
      gone = recs m ∙ ap (λ t. cond t None (recs_of d m)) ((eq_by_cmp_equiv nat_cmp_total).refl m)

      row : (now n).descriptor ≡ Some d
      row = ap (λ (c : Cell). c.descriptor) at ∙ is

      was : recs_of d m ≡ Some (rec.granule, rec.auxiliaries)
      was = ap (option_map granules_of_rec) there

      role_rec : old.roles rec.granule ≡ AsRec m
      role_rec = (old.names n d row (AsRec m) (rec.granule, InRec) (ap rec_target was)).2

      role_aux : (i k : ℕ) → slice_get rec.auxiliaries i ≡ Some k → old.roles k ≡ AsAux m i
      role_aux i k h = (old.names n d row (AsAux m i) (k, RecAux) (ap (λ o. aux_target o i) was ∙ ap (λ o. option_map (λ g. (g, RecAux)) o) h)).2

      out : (p : Role) (to : ℕ × GranuleState) → target e1 p ≡ Some to → old.roles to.0 ≡ p → is_in to.0 (map granule_of (lefts all)) ≡ false
      out p to h role = ap (is_in to.0) (granules-each_put left all)
          ∙ elim (to.0 == rec.granule) as (λ t. (to.0 == rec.granule) ≡ t → (t || is_in to.0 rec.auxiliaries) ≡ false) [
            | true ↦ λ e. let same : p ≡ AsRec m = sym role ∙ ap old.roles (eqb-true to.0 rec.granule e) ∙ role_rec in
                absurd (true_false _ (ap is_some (sym (ap (target e1) same) ∙ h)) (ap (λ o. is_some (rec_target o)) gone))
            | false ↦ λ e. elim (is_in to.0 rec.auxiliaries) as (λ t. is_in to.0 rec.auxiliaries ≡ t → t ≡ false) [
              | true ↦ λ i. let at_i = index_of rec.auxiliaries to.0 i in
                  let same : p ≡ AsAux m at_i.0 = sym role ∙ role_aux at_i.0 to.0 at_i.1 in
                  absurd (true_false _ (ap is_some (sym (ap (target e1) same) ∙ h)) (ap (λ o. is_some (aux_target o at_i.0)) gone))
              | false ↦ λ i. refl
            ] refl
          ] refl

      -- each number has the same REC as before, or had the removed one
      recs_stay : (q : ℕ) → (recs_of e1 q ≡ recs_of d q) ⊎ (recs_of d q ≡ Some (rec.granule, rec.auxiliaries))
      recs_stay q = elim (eq_by_cmp nat_cmp q m) as (λ t. eq_by_cmp nat_cmp q m ≡ t → recs_of e1 q ≡ cond t None (recs_of d q) → (recs_of e1 q ≡ recs_of d q)
          ⊎ (recs_of d q ≡ Some (rec.granule, rec.auxiliaries))) [
            | true ↦ λ e is. inr (ap (recs_of d) (nat_place q m e) ∙ was)
            | false ↦ λ e is. inl is
          ] refl (recs q)

      among : (k : ℕ) → is_in k all ≡ true → is_in k (map granule_of (lefts all)) ≡ false → ⊥
      among k i out = true_false _ (ap (is_in k) (granules-each_put left all) ∙ i) out

      aux_among : (i : ℕ) (to : ℕ × GranuleState) → option_map (λ a. (a, RecAux)) (slice_get rec.auxiliaries i) ≡ Some to → is_in to.0 all ≡ true
      aux_among i to h = is_in_more to.0 rec.granule rec.auxiliaries (is_in_at rec.auxiliaries i to.0 (listed_target RecAux rec.auxiliaries i to h).0)

      named : (p : Role) (to : ℕ × GranuleState) → target d p ≡ Some to → is_in to.0 (map granule_of (lefts all)) ≡ false → target e1 p ≡ Some to
      named (AsStart i) to h out = ap (λ r. start_target r i) root ∙ h
      named (AtRow q) to h out = same_row q ∙ h
      named (AsRec q) to h out = elim (recs_stay q) [
        | inl same ↦ ap rec_target same ∙ h
        | inr mine ↦
            let here : to.0 ≡ rec.granule = ap (λ (t : ℕ × GranuleState). t.0) (sym (same_Some _ _ (sym (ap rec_target mine) ∙ h))) in
            absurd (among to.0 (ap (λ t. t || is_in to.0 rec.auxiliaries) (eq-eqb to.0 rec.granule here)) out)
      ]
      named (AsAux q i) to h out = elim (recs_stay q) [
        | inl same ↦ ap (λ o. aux_target o i) same ∙ h
        | inr mine ↦ absurd (among to.0 (aux_among i to (sym (ap (λ o. aux_target o i) mine) ∙ h)) out)
      ]
