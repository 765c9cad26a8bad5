-- Proofs that the invariant that links realms to granules still holds after a row is changed to lead to a granule, or
-- to none.
use Rattle.std.proofs.Common.{◌≡◌, ℕ, true, false, cond, ◌||◌, ◌⊎◌, inl, inr, [], ◌∷◌, Option, Some, None, refl, sym, ap, ◌∙◌}
use Rattle.std.specs.Prelude.{is_some, ◌==◌, option_map}
use Rattle.std.specs.FinMap.{get, insert}
use Rattle.std.specs.Ordering.{eq_by_cmp}
use Rattle.std.proofs.lemmas.Bool.{eqb-true, eq-eqb}
use Rattle.std.proofs.lemmas.Option.{same_Some}
use Rattle.realm_model.specs.declared.states.GranuleState.{GranuleState}
use Rattle.realm_model.specs.Rows.{Row, Rows, place_cmp}
use Rattle.realm_model.specs.Machine.{RealmRow, Cell, Seen, left, cell_at, seen}
use Rattle.realm_model.specs.Update.{Put}
use Rattle.realm_model.specs.Command.Check.{is_delegated, is_in}
use Rattle.realm_model.specs.World.{World}
use Rattle.realm_model.specs.Ownership.{mapping_of_row, granules_of_rec}
use Rattle.realm_model.specs.Sound.{mapping_at, is_host_state}
use Rattle.realm_model.specs.Roles.{Role, AsStart, AtRow, AsRec, AsAux, kind_target, row_target, start_target, aux_target, target, is_role_state}
use Rattle.realm_model.proofs.Booleans.{true_false}
use Rattle.realm_model.proofs.Maps.{same_place}
use Rattle.realm_model.proofs.Written.{put_at}
use Rattle.realm_model.proofs.Rows.{mapping_at-insert, place_self}
use Rattle.realm_model.proofs.Roles.{rec_target}
use Rattle.realm_model.proofs.RoleChanges.{bare_one, delegated_host, changed}
use Rattle.realm_model.proofs.Parts.{IsSoundPart, IsLinked}

-- ---- a row in place of another that led nowhere

module _ (rows : Rows) (place : ℕ × ℕ) (row : Row) where
  leaf_cases : (q : ℕ × ℕ) → ((q ≡ place) × (row_target (mapping_at (insert rows place row) q) ≡ kind_target row.state row.granule)) ⊎ (mapping_at (insert rows place row) q ≡ mapping_at rows q)
  leaf_cases q = elim (eq_by_cmp place_cmp q place) as (λ t. eq_by_cmp place_cmp q place ≡ t → mapping_at (insert rows place row) q ≡ cond t (Some (mapping_of_row row)) (mapping_at rows q)
      → ((q ≡ place) × (row_target (mapping_at (insert rows place row) q) ≡ kind_target row.state row.granule)) ⊎ (mapping_at (insert rows place row) q ≡ mapping_at rows q)) [
        | true ↦ λ e is. inl (same_place q place e, ap row_target is)
        | false ↦ λ e is. inr is
      ] refl (mapping_at-insert rows place q row)

  pub leaf_target : row_target (mapping_at (insert rows place row) place) ≡ kind_target row.state row.granule
  leaf_target = ap row_target (mapping_at-insert rows place place row ∙ ap (λ t. cond t (Some (mapping_of_row row)) (mapping_at rows place)) (place_self place))

  -- after a row is inserted, each row that leads to a granule led to it before, or is the new row
  pub leaf_new : (q : ℕ × ℕ) (to : ℕ × GranuleState) → row_target (mapping_at (insert rows place row) q) ≡ Some to
      → (row_target (mapping_at rows q) ≡ Some to) ⊎ ((q ≡ place) × (kind_target row.state row.granule ≡ Some to))
  leaf_new q to h = elim (leaf_cases q) [ inl new ↦ inr (new.0, sym new.1 ∙ h) | inr same ↦ inl (ap row_target (sym same) ∙ h) ]

  pub leaf_old : (q : ℕ × ℕ) (to : ℕ × GranuleState) → row_target (mapping_at rows q) ≡ Some to → (row_target (mapping_at (insert rows place row) q) ≡ Some to) ⊎ (q ≡ place)
  leaf_old q to h = elim (leaf_cases q) [ inl new ↦ inr new.0 | inr same ↦ inl (ap row_target same ∙ h) ]

module _ (w : World) (sound : IsSoundPart w) (old : IsLinked (λ k. cell_at w.machine k)) (rd : Seen) (d e1 : RealmRow)
    (at : cell_at w.machine rd.number ≡ rd.cell) (is : rd.cell.descriptor ≡ Some d) (root : e1.root ≡ d.root) (recs : e1.recs ≡ d.recs) where
  abbrev now : ℕ → Cell
  now k = cell_at w.machine k

  abbrev n : ℕ
  n = rd.number

  abbrev at_g : ℕ → Role → ℕ → Option Role
  at_g g q k = cond (k == g) (Some q) None

  at_g_is : (g : ℕ) (q : Role) (k : ℕ) (r : Role) → at_g g q k ≡ Some r → k ≡ g
  at_g_is g q k r h = elim (k == g) as (λ t. (k == g) ≡ t → cond t (Some q) None ≡ Some r → k ≡ g) [ true ↦ λ e h. eqb-true k g e | false ↦ λ e h. cc ] refl h

  at_g_out : (g : ℕ) (q : Role) (k : ℕ) → at_g g q k ≡ None → is_in k (g ∷ []) ≡ false
  at_g_out g q k h = elim (k == g) as (λ t. cond t (Some q) None ≡ None → (t || false) ≡ false) [ true ↦ λ h. cc | false ↦ λ h. refl ] h

  in_one : (g k : ℕ) → is_in k (g ∷ []) ≡ true → k ≡ g
  in_one g k h = elim (k == g) as (λ t. (k == g) ≡ t → (t || false) ≡ true → k ≡ g) [ true ↦ λ e h. eqb-true k g e | false ↦ λ e h. cc ] refl h

  same_rec : (m : ℕ) → rec_target (option_map granules_of_rec (get e1.recs m)) ≡ rec_target (option_map granules_of_rec (get d.recs m))
  same_rec m = ap (λ rs. rec_target (option_map granules_of_rec (get rs m))) recs

  same_aux : (m i : ℕ) → aux_target (option_map granules_of_rec (get e1.recs m)) i ≡ aux_target (option_map granules_of_rec (get d.recs m)) i
  same_aux m i = ap (λ rs. aux_target (option_map granules_of_rec (get rs m)) i) recs

  -- `IsLinked` still holds after a row is changed to lead to a granule that was DELEGATED
  pub row_more : (g : ℕ) (c : Cell) (place : ℕ × ℕ) → is_delegated (seen w.machine g) ≡ true → c.descriptor ≡ None → c.realm ≡ Some n
      → row_target (mapping_at e1.rows place) ≡ Some (g, c.state)
      → ((q : ℕ × ℕ) (to : ℕ × GranuleState) → row_target (mapping_at e1.rows q) ≡ Some to → (row_target (mapping_at d.rows q) ≡ Some to) ⊎ (q ≡ place))
      → ((q : ℕ × ℕ) (to : ℕ × GranuleState) → row_target (mapping_at d.rows q) ≡ Some to → row_target (mapping_at e1.rows q) ≡ Some to)
      → IsLinked (λ k. put_at (Put g c ∷ Put n (record rd.cell { descriptor = Some e1 }) ∷ []) k (now k))
  row_more g c place free bare mine there new stays =
      changed w sound old rd d e1 at is (Put g c ∷ []) (bare_one g c bare) (at_g g (AtRow place))
      (λ k q f. ap (λ j. is_host_state (now j).state) (at_g_is g (AtRow place) k q f) ∙ delegated_host w sound g free)
      names named
      (λ k i role. let here : k ≡ g = in_one g k i in (AtRow place, there ∙ (λ j. Some (sym here j, sym (written k here) j))))
    where
      written : (k : ℕ) → k ≡ g → (put_at (Put g c ∷ []) k (now k)).state ≡ c.state
      written k here = ap (λ t. (cond t c (now k)).state) (eq-eqb k g here)

      made : (to : ℕ × GranuleState) → ◌≡◌ {A = Option (ℕ × GranuleState)} (Some (g, c.state)) (Some to)
          → (at_g g (AtRow place) to.0 ≡ Some (AtRow place)) × ((put_at (Put g c ∷ []) to.0 (now to.0)).state ≡ to.1) × ((put_at (Put g c ∷ []) to.0 (now to.0)).realm ≡ Some n)
      made to h =
          let here : to.0 ≡ g = ap (λ (t : ℕ × GranuleState). t.0) (sym (same_Some _ _ h)) in
          let same : (to.0 == g) ≡ true = eq-eqb to.0 g here in (
            ap (λ t. cond t (Some (AtRow place)) None) same,
            written to.0 here ∙ ap (λ (t : ℕ × GranuleState). t.1) (same_Some _ _ h),
            ap (λ t. (cond t c (now to.0)).realm) same ∙ mine,
          )

      names : (p : Role) (to : ℕ × GranuleState) → target e1 p ≡ Some to → ((target d p ≡ Some to) × (at_g g (AtRow place) to.0 ≡ None → old.roles to.0 ≡ p → is_in to.0 (g ∷ []) ≡ false))
          ⊎ ((at_g g (AtRow place) to.0 ≡ Some p) × ((put_at (Put g c ∷ []) to.0 (now to.0)).state ≡ to.1) × ((put_at (Put g c ∷ []) to.0 (now to.0)).realm ≡ Some n))
      names (AsStart i) to h = inl (ap (λ r. start_target r i) (sym root) ∙ h, λ f role. at_g_out g (AtRow place) to.0 f)
      names (AsRec m) to h = inl (sym (same_rec m) ∙ h, λ f role. at_g_out g (AtRow place) to.0 f)
      names (AsAux m i) to h = inl (sym (same_aux m i) ∙ h, λ f role. at_g_out g (AtRow place) to.0 f)
      names (AtRow q) to h = elim (new q to h) [
        | inl same ↦ inl (same, λ f role. at_g_out g (AtRow place) to.0 f)
        | inr here ↦
            let m = made to (sym there ∙ ap (λ p. row_target (mapping_at e1.rows p)) (sym here) ∙ h) in
            inr (m.0 ∙ ap (λ p. Some (AtRow p)) (sym here), m.1, m.2)
      ]

      named : (p : Role) (to : ℕ × GranuleState) → target d p ≡ Some to → is_in to.0 (g ∷ []) ≡ false → target e1 p ≡ Some to
      named (AsStart i) to h out = ap (λ r. start_target r i) root ∙ h
      named (AsRec m) to h out = same_rec m ∙ h
      named (AsAux m i) to h out = same_aux m i ∙ h
      named (AtRow q) to h out = stays q to h

  -- `IsLinked` still holds after a row is changed to lead to no granule, and its old granule becomes DELEGATED
  pub row_less : (g : ℕ) (place : ℕ × ℕ) (s : GranuleState) → row_target (mapping_at d.rows place) ≡ Some (g, s)
      → ((q : ℕ × ℕ) (to : ℕ × GranuleState) → row_target (mapping_at e1.rows q) ≡ Some to → row_target (mapping_at d.rows q) ≡ Some to)
      → row_target (mapping_at e1.rows place) ≡ None
      → ((q : ℕ × ℕ) (to : ℕ × GranuleState) → row_target (mapping_at d.rows q) ≡ Some to → (row_target (mapping_at e1.rows q) ≡ Some to) ⊎ (q ≡ place))
      → IsLinked (λ k. put_at (Put g left ∷ Put n (record rd.cell { descriptor = Some e1 }) ∷ []) k (now k))
  row_less g place s was rows none stays =
      changed w sound old rd d e1 at is (Put g left ∷ []) (bare_one g left refl) (λ k. None) (λ k q f. absurd (no_role q f))
      (λ p to h. inl (fewer p to h, λ f role. out p to h role)) named (λ k i role. absurd (no_left k i role))
    where
      no_role : (q : Role) → ◌≡◌ {A = Option Role} None (Some q) → ⊥
      no_role q f = cc

      no_left : (k : ℕ) → is_in k (g ∷ []) ≡ true → is_role_state (put_at (Put g left ∷ []) k (now k)).state ≡ true → ⊥
      no_left k i role = true_false _ role (ap (λ t. is_role_state (cond t left (now k)).state) (eq-eqb k g (in_one g k i)))

      fewer : (p : Role) (to : ℕ × GranuleState) → target e1 p ≡ Some to → target d p ≡ Some to
      fewer (AsStart i) to h = ap (λ r. start_target r i) (sym root) ∙ h
      fewer (AsRec m) to h = sym (same_rec m) ∙ h
      fewer (AsAux m i) to h = sym (same_aux m i) ∙ h
      fewer (AtRow q) to h = rows q to h

      out : (p : Role) (to : ℕ × GranuleState) → target e1 p ≡ Some to → old.roles to.0 ≡ p → is_in to.0 (g ∷ []) ≡ false
      out p to h role = elim (to.0 == g) as (λ t. (to.0 == g) ≡ t → (t || false) ≡ false) [
        | true ↦ λ e.
            let row : (now n).descriptor ≡ Some d = ap (λ (c : Cell). c.descriptor) at ∙ is in
            let its : old.roles g ≡ AtRow place = (old.names n d row (AtRow place) (g, s) was).2 in
            let same : p ≡ AtRow place = sym role ∙ ap old.roles (eqb-true to.0 g e) ∙ its in
            absurd (true_false _ (ap is_some (sym (ap (target e1) same) ∙ h)) (ap is_some none))
        | false ↦ λ e. refl
      ] refl

      named : (p : Role) (to : ℕ × GranuleState) → target d p ≡ Some to → is_in to.0 (g ∷ []) ≡ false → target e1 p ≡ Some to
      named (AsStart i) to h out = ap (λ r. start_target r i) root ∙ h
      named (AsRec m) to h out = same_rec m ∙ h
      named (AsAux m i) to h out = same_aux m i ∙ h
      named (AtRow q) to h out = elim (stays q to h) [
        | inl same ↦ same
        | inr here ↦
            let to_g : to.0 ≡ g = ap (λ (t : ℕ × GranuleState). t.0) (same_Some _ _ (sym h ∙ ap (λ p. row_target (mapping_at d.rows p)) here ∙ was)) in
            absurd (true_false _ (ap (λ t. t || false) (eq-eqb to.0 g to_g)) out)
      ]
