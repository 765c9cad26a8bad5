-- Proofs that creating or destroying a realm preserves the invariant that links realms to the granules that they name.
use Rattle.std.proofs.Common.{◌≡◌, ℕ, ◌*◌, true, false, cond, inl, inr, List, ◌∷◌, Option, Some, None, refl, sym, ap, ◌∙◌}
use Rattle.std.specs.Prelude.{is_some, ◌==◌, option_map}
use Rattle.std.specs.Ordering.{nat_cmp}
use Rattle.std.specs.FinMap.{get, empty, get-empty}
use Rattle.std.proofs.lemmas.Bool.{eqb-true, eqb-false}
use Rattle.std.proofs.lemmas.Option.{same_Some}
use Rattle.granule_addr.specs.Root.{start_count, starting_tables}
use Rattle.granule_addr.specs.declared.width.Root.{Root}
use Rattle.realm_model.specs.declared.states.GranuleState.{GranuleState}
use Rattle.realm_model.specs.declared.states.GranuleState.TheVariants.{Rtt as InRtt}
use Rattle.realm_model.specs.declared.states.Ripas.TheVariants.{Empty}
use Rattle.realm_model.specs.Rows.{place_cmp, root_rows, unassigned}
use Rattle.realm_model.specs.Machine.{RecRow, RealmRow, Cell, left, held, cell_at}
use Rattle.realm_model.specs.Update.{Update}
use Rattle.realm_model.specs.Command.Realm.{new_realm}
use Rattle.realm_model.specs.World.{World}
use Rattle.realm_model.specs.Ownership.{mapping_of_row, granules_of_rec}
use Rattle.realm_model.specs.Sound.{mapping_at}
use Rattle.realm_model.specs.Roles.{Role, AsStart, AtRow, AsRec, AsAux, row_target, aux_target, target, is_role_state, HasRole}
use Rattle.realm_model.proofs.Booleans.{true_false, or_parts}
use Rattle.realm_model.specs.Command.Check.{is_in}
use Rattle.realm_model.proofs.Lists.{is_in_at, index_of, AllDistinct}
use Rattle.realm_model.proofs.NewRealms.{new_rd, creation, put_at-creation, put_at-creation_rd}
use Rattle.realm_model.proofs.Written.{put_at, put_at-each_put, lefts}
use Rattle.realm_model.proofs.Rows.{put_kinds}
use Rattle.realm_model.proofs.Roles.{rec_target}
use Rattle.realm_model.proofs.ListedRoles.{listed_role, listed_at, listed_target}
use Rattle.realm_model.proofs.RoleChanges.{no_descriptor, one_place}
use Rattle.realm_model.proofs.Parts.{IsSoundPart, IsLinked}

-- ---- the rows of realms after it

-- a realm that is made when there was none is the only one
pub made_row : (w : World) (rd : ℕ) (root : Root) (v : ℕ) → ((k : ℕ) → (cell_at w.machine k).descriptor ≡ None)
    → (k : ℕ) (e : RealmRow) → (put_at (creation rd root v) k (cell_at w.machine k)).descriptor ≡ Some e → (k ≡ rd) × (new_realm v root ≡ e)
made_row w rd root v none k e h =
    elim (is_in k (starting_tables root)) as (λ t. (cond t (held InRtt rd) (cond (k == rd) (new_rd rd root v) (cell_at w.machine k))).descriptor ≡ Some e → (k ≡ rd) × (new_realm v root ≡ e)) [
      | true ↦ λ h. cc
      | false ↦ λ h. elim (k == rd) as (λ t. (k == rd) ≡ t → (cond t (new_rd rd root v) (cell_at w.machine k)).descriptor ≡ Some e → (k ≡ rd) × (new_realm v root ≡ e)) [
        | true ↦ λ here h. (eqb-true k rd here, same_Some _ _ h)
        | false ↦ λ other h. absurd (no_descriptor (cell_at w.machine k) e (none k) h)
      ] refl h
    ] (sym (ap (λ (c : Cell). c.descriptor) (put_at-creation rd root v k (cell_at w.machine k))) ∙ h)

-- no realm is left after the only one is destroyed
pub gone_row : (w : World) (sound : IsSoundPart w) (rd : ℕ) (d : RealmRow) → (cell_at w.machine rd).descriptor ≡ Some d → (gs : List ℕ)
    → (k : ℕ) (e : RealmRow) → (put_at (lefts (rd ∷ gs)) k (cell_at w.machine k)).descriptor ≡ Some e → ⊥
gone_row w sound rd d is gs k e h = elim (is_in k (rd ∷ gs)) as (λ t. is_in k (rd ∷ gs) ≡ t → (cond t left (cell_at w.machine k)).descriptor ≡ Some e → ⊥) [
  | true ↦ λ i h. cc
  | false ↦ λ out h. eqb-false k rd (or_parts _ _ out).0 (one_place w sound k rd e d h is)
] refl (sym (ap (λ (c : Cell). c.descriptor) (put_at-each_put left (rd ∷ gs) k (cell_at w.machine k))) ∙ h)

-- ---- roles

module _ (w : World) (sound : IsSoundPart w) (old : IsLinked (λ k. cell_at w.machine k)) where
  abbrev now : ℕ → Cell
  now k = cell_at w.machine k

  -- the invariant holds after a realm is created where there was none; the new realm names its starting tables alone
  pub realm_made : (rd : ℕ) (root : Root) (v : ℕ) → ((k : ℕ) → (now k).descriptor ≡ None) → AllDistinct (rd ∷ starting_tables root)
      → IsLinked (λ k. put_at (creation rd root v) k (now k))
  unfolding new_realm root_rows
  realm_made rd root v none different = record {
    roles = λ k. role_or (listed_role AsStart gs k);
    names = λ k e h p to there. let new = made_row w rd root v none k e h in of_role p k e new.0 new.1 to there;
    named = named;
  }
    where
      gs : List ℕ
      gs = starting_tables root

      x : Cell
      x = held InRtt rd

      z : Cell
      z = new_rd rd root v

      us : List Update
      us = creation rd root v

      role_or : Option Role → Role
      role_or None = AsStart 0
      role_or (Some q) = q

      written : (k : ℕ) → put_at us k (now k) ≡ cond (is_in k gs) x (cond (k == rd) z (now k))
      written k = put_at-creation rd root v k (now k)

      no_row : (q : ℕ × ℕ) → row_target (mapping_at (root_rows root.width) q) ≡ None
      no_row q = elim (put_kinds (unassigned Empty) empty 1 0 (512 * start_count root.width) q) [
        | inl old ↦ ap row_target (old ∙ ap (option_map mapping_of_row) (get-empty place_cmp q))
        | inr new ↦ ap row_target new.0
      ]

      no_rec : (q : ℕ) → option_map granules_of_rec (get (new_realm v root).recs q) ≡ None
      no_rec q = ap (option_map granules_of_rec) (get-empty {X = RecRow} nat_cmp q)

      at_table : (k : ℕ) → is_in k gs ≡ true → put_at us k (now k) ≡ x
      at_table k i = written k ∙ ap (λ t. cond t x (cond (k == rd) z (now k))) i

      at_rd : put_at us rd (now rd) ≡ z
      at_rd = put_at-creation_rd rd root v (now rd) different

      of_role : (p : Role) (k : ℕ) (e : RealmRow) → k ≡ rd → new_realm v root ≡ e → (to : ℕ × GranuleState) → target e p ≡ Some to
          → ((put_at us to.0 (now to.0)).state ≡ to.1) × ((put_at us to.0 (now to.0)).realm ≡ Some k) × (role_or (listed_role AsStart gs to.0) ≡ p)
      of_role (AsStart i) k e place same to h =
          let there = listed_target InRtt gs i to (ap (λ r. target r (AsStart i)) same ∙ h) in
          let cell = at_table to.0 (is_in_at gs i to.0 there.0) in
          (ap (λ (c : Cell). c.state) cell ∙ there.1, ap (λ (c : Cell). c.realm) cell ∙ ap Some (sym place), ap role_or (listed_at AsStart gs i to.0 different.1 there.0))
      of_role (AtRow q) k e place same to h = absurd (true_false _ (ap is_some (ap (λ r. target r (AtRow q)) same ∙ h)) (ap is_some (no_row q)))
      of_role (AsRec q) k e place same to h = absurd (true_false _ (ap is_some (ap (λ r. target r (AsRec q)) same ∙ h)) (ap (λ o. is_some (rec_target o)) (no_rec q)))
      of_role (AsAux q i) k e place same to h = absurd (true_false _ (ap is_some (ap (λ r. target r (AsAux q i)) same ∙ h)) (ap (λ o. is_some (aux_target o i)) (no_rec q)))

      named : (g : ℕ) → is_role_state (put_at us g (now g)).state ≡ true → HasRole (λ k. put_at us k (now k)) g
      named g role = elim (is_in g gs) as (λ t. is_in g gs ≡ t → is_role_state (cond t x (cond (g == rd) z (now g))).state ≡ true → HasRole (λ k. put_at us k (now k)) g) [
        | true ↦ λ i role.
            let at_i = index_of gs g i in
            record {
              rd = rd;
              realm = new_realm v root;
              there = ap (λ (c : Cell). c.descriptor) at_rd;
              role = AsStart at_i.0;
              named = ap (option_map (λ a. (a, InRtt))) at_i.1 ∙ (λ j. Some (g, sym (ap (λ (c : Cell). c.state) (at_table g i)) j));
            }
        | false ↦ λ i role. elim (g == rd) as (λ t. is_role_state (cond t z (now g)).state ≡ true → HasRole (λ k. put_at us k (now k)) g) [
          | true ↦ λ role. cc
          | false ↦ λ role. let r = old.named g role in absurd (no_descriptor (now r.rd) r.realm (none r.rd) r.there)
        ] role
      ] refl (sym (ap (λ (c : Cell). is_role_state c.state) (written g)) ∙ role)

  -- the invariant holds after a realm that names its starting tables alone is destroyed
  pub realm_gone : (rd : ℕ) (d : RealmRow) → (now rd).descriptor ≡ Some d → ((q : ℕ × ℕ) → row_target (mapping_at d.rows q) ≡ None) → ((n : ℕ) → get d.recs n ≡ None)
      → IsLinked (λ k. put_at (lefts (rd ∷ starting_tables d.root)) k (now k))
  realm_gone rd d is no_rows no_recs = record {
    roles = old.roles;
    names = λ k e h. absurd (gone_row w sound rd d is (starting_tables d.root) k e h);
    named = λ g role. elim (is_in g all) as (λ t. is_in g all ≡ t → is_role_state (cond t left (now g)).state ≡ true → HasRole (λ k. put_at (lefts all) k (now k)) g) [
      | true ↦ λ i role. cc
      | false ↦ λ out role. absurd (no_role g out (old.named g role))
    ] refl (sym (ap (λ (c : Cell). is_role_state c.state) (put_at-each_put left all g (now g))) ∙ role);
  }
    where
      all : List ℕ
      all = rd ∷ starting_tables d.root

      recs_none : (n : ℕ) → option_map granules_of_rec (get d.recs n) ≡ None
      recs_none n = ap (option_map granules_of_rec) (no_recs n)

      of_role : (g : ℕ) → is_in g all ≡ false → (p : Role) → target d p ≡ Some (g, (now g).state) → ⊥
      of_role g out (AsStart i) h = true_false _ (is_in_at (starting_tables d.root) i g (listed_target InRtt (starting_tables d.root) i (g, (now g).state) h).0) (or_parts _ _ out).1
      of_role g out (AtRow q) h = true_false _ (ap is_some h) (ap is_some (no_rows q))
      of_role g out (AsRec n) h = true_false _ (ap is_some h) (ap (λ o. is_some (rec_target o)) (recs_none n))
      of_role g out (AsAux n i) h = true_false _ (ap is_some h) (ap (λ o. is_some (aux_target o i)) (recs_none n))

      no_role : (g : ℕ) → is_in g all ≡ false → HasRole now g → ⊥
      no_role g out r =
          let realm : r.realm ≡ d = same_Some _ _ (sym r.there ∙ ap (λ j. (now j).descriptor) (one_place w sound r.rd rd r.realm d r.there is) ∙ is) in
          of_role g out r.role (ap (λ x. target x r.role) (sym realm) ∙ r.named)
