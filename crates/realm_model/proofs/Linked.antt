-- The proof that the invariant that links realms to the granules that they name holds after any history.
use Rattle.std.proofs.Common.{◌<◌, ◌++◌, arith, ◌≡◌, ℕ, ◌+◌, ◌-◌, true, false, cond, inl, inr, List, [], ◌∷◌, ◌++◌, map, Option, Some, None, refl, sym, ap, ◌∙◌, subst, arith}
use Rattle.std.specs.Prelude.{option_map, is_some, ◌==◌}
use Rattle.std.specs.Ordering.{nat_cmp, eq_by_cmp}
use Rattle.std.specs.Cmp.{nat_cmp_total}
use Rattle.std.specs.FinMap.{get, insert, empty, get-empty, get-insert, get-remove, FinMap, len, empty_of_len}
use Rattle.std.proofs.lemmas.Bool.{and_parts, eqb-true, eqb-false}
use Rattle.std.proofs.lemmas.Option.{same_Some, option_and_then_some}
use Rattle.granule_addr.specs.Ipa.{first_covered}
use Rattle.realm_model.specs.declared.states.GranuleState.TheVariants.{Rec as InRec, RecAux, Data as InData, Rtt as InRtt}
use Rattle.realm_model.specs.declared.states.Ripas.{Ripas}
use Rattle.realm_model.specs.declared.states.Ripas.TheVariants.{Ram}
use Rattle.realm_model.specs.declared.states.RecState.TheVariants.{Ready, Running}
use Rattle.realm_model.specs.declared.act.Act.{Act}
use Rattle.realm_model.specs.declared.act.Act.TheVariants.{Take, UnTake, Fill, Peek, Delegate, Undelegate, Realm, UnRealm, Activate, Rtt}
use Rattle.realm_model.specs.declared.act.Act.TheVariants.{UnRtt, Ripas as ToRam, Data, Unknown, UnData, Rec, UnRec, Enter, Exit, Poke}
use Rattle.realm_model.specs.declared.act.Event.{Event}
use Rattle.realm_model.specs.Rows.{Row, unassigned, assigned, put_row, with_table, without_table, with_ram, unmapped_ripas, is_unassigned}
use Rattle.realm_model.specs.Machine.{Limits, RecRow, RealmRow, Cell, Seen, numbers_of, left, held, cell_at, seen}
use Rattle.realm_model.specs.Update.{Update, Put}
use Rattle.realm_model.specs.Command.Check.{is_delegated, are_distinct}
use Rattle.realm_model.specs.Measurement.{measurement_after, data_event, rec_event}
use Rattle.realm_model.specs.Act.{named, block}
use Rattle.realm_model.specs.Outcome.{outcome_of, fits}
use Rattle.realm_model.specs.World.{World, part_of, realm_of, opening, hidden, is_of_other}
use Rattle.realm_model.specs.Step.{step, used_vmids}
use Rattle.realm_model.specs.History.{after, replay}
use Rattle.realm_model.specs.Ownership.{mapping_of_row, granules_of_rec}
use Rattle.realm_model.specs.Sound.{mapping_at}
use Rattle.realm_model.specs.Roles.{AsRec, row_target, is_role_state}
use Rattle.realm_model.specs.Undoing.{by}
use Rattle.realm_model.proofs.NewRealms.{seen-creation, can_be_made}
use Rattle.realm_model.proofs.Written.{seen-each_put, seen_frees, put_takes, seen_takes, put_at, cell_put, put_frees, IsSquare}
use Rattle.realm_model.proofs.SoundRows.{with_table_cases, without_table_cases, leads_nowhere, mapping_at-with_table}
use Rattle.realm_model.proofs.Maps.{same_insert}
use Rattle.realm_model.proofs.Outcomes.{Yields-Ok, Yields-with_realm, Yields-Err, Yields, Yields-check, Yields-with_end, Yields-with_granule, Yields-with_rec}
use Rattle.realm_model.proofs.RealmOf.{IsAt-realm_of, realm_of-part_of, IsAt, no_row}
use Rattle.realm_model.proofs.SoundParts.{IsSound-opening, IsSquare-part_of, IsSound, IsSound-step}
use Rattle.realm_model.proofs.Booleans.{not_true, none_is, true_false}
use Rattle.realm_model.proofs.LeftOut.{each-replicate}
use Rattle.realm_model.proofs.Lists.{AllDistinct, AllDistinct-from_test}
use Rattle.realm_model.proofs.Rows.{place_self, same_rows}
use Rattle.realm_model.proofs.HiddenSteps.{part_of-other_step, step-part_of}
use Rattle.realm_model.proofs.Reversal.{seen_numbers}
use Rattle.realm_model.proofs.TablePlaces.{table_place}
use Rattle.realm_model.proofs.StepBack.{done, asked}
use Rattle.realm_model.proofs.Walks.{walk_at}
use Rattle.realm_model.proofs.RoleChanges.{host_bare, delegated_host, undelegated_host, host_put, freed, poked, realm_same}
use Rattle.realm_model.proofs.RowRoles.{row_more, row_less, leaf_target, leaf_new, leaf_old}
use Rattle.realm_model.proofs.RecRoles.{rec_more, rec_less}
use Rattle.realm_model.proofs.RealmRoles.{realm_made, realm_gone}
use Rattle.realm_model.proofs.RowKinds.{table_target, assigned_target, unassigned_target}
use Rattle.realm_model.proofs.Leases.{cell_at-replicate}
use Rattle.realm_model.proofs.Parts.{IsSoundCell, IsSoundPart, IsSoundRealm, IsLinked, IsLinkedFor}

unused_number : (d : RealmRow) → IsSoundRealm d → get d.recs d.next ≡ None
unused_number d sound = elim (get d.recs d.next) as (λ o. get d.recs d.next ≡ o → o ≡ None) [
  | None ↦ λ h. refl
  | Some rec ↦ λ h. let less : d.next < d.next = sound.recs d.next rec h in absurd (omega arith)
] refl

no_recs_in : (m : FinMap nat_cmp RecRow) → len m ≡ 0 → (n : ℕ) → get m n ≡ None
no_recs_in m none n = ap (λ x. get x n) (empty_of_len m none) ∙ get-empty nat_cmp n

-- ---- operations

module _ (limits : Limits) (w : World) (sound : IsSoundPart w) (old : IsLinked (λ k. cell_at w.machine k)) where
  abbrev now : ℕ → Cell
  now k = cell_at w.machine k

  abbrev R : List Update → Type 0
  R us = IsLinked (λ k. put_at us k (now k))

  realm_sound : (rd : Seen) (d : RealmRow) → now rd.number ≡ rd.cell → rd.cell.descriptor ≡ Some d → IsSoundRealm d
  realm_sound rd d at is = (subst (IsSoundCell sound.rd rd.number) at (sound.cells rd.number)).row d is

  apart_list : (gs : List ℕ) → are_distinct (numbers_of (map (seen w.machine) gs)) ≡ true → AllDistinct gs
  apart_list gs h = AllDistinct-from_test gs (sym (ap are_distinct (seen_numbers w.machine gs)) ∙ h)

  data_linked : (rd : Seen) (d : RealmRow) → now rd.number ≡ rd.cell → rd.cell.descriptor ≡ Some d → (g : ℕ) (c : Cell) (ripas : Ripas) (ipa : ℕ) (m : List ℕ) (row : Row)
      → is_delegated (seen w.machine g) ≡ true → c.descriptor ≡ None → c.state ≡ InData → c.realm ≡ Some rd.number → get d.rows (3, first_covered 3 ipa) ≡ Some row → is_unassigned row ≡ true
      → R (Put g c ∷ Put rd.number (record rd.cell { descriptor = Some (record d { rows = put_row d.rows 3 ipa (assigned ripas g); measurement = m }) }) ∷ [])
  data_linked rd d at is g c ripas ipa m row free bare state mine there plain =
      let place : ℕ × ℕ = (3, first_covered 3 ipa) in
      let nowhere : row_target (mapping_at d.rows place) ≡ None = ap (λ o. row_target (option_map mapping_of_row o)) there ∙ unassigned_target row.state row.granule plain in
      row_more w sound old rd d (record d { rows = put_row d.rows 3 ipa (assigned ripas g); measurement = m }) at is refl refl g c place free bare mine
      (leaf_target d.rows place (assigned ripas g) ∙ (λ i. Some (g, sym state i)))
      (λ q to h. elim (leaf_new d.rows place (assigned ripas g) q to h) [ inl same ↦ inl same | inr new ↦ inr new.0 ])
      (λ q to h. elim (leaf_old d.rows place (assigned ripas g) q to h) [
        | inl same ↦ same
        | inr here ↦ absurd (true_false _ (ap is_some h) (ap is_some (ap (λ p. row_target (mapping_at d.rows p)) here ∙ nowhere)))
      ])

  linked : (act : Act) (realm : Option Seen) → IsAt w.machine realm → (realm ≡ None → (k : ℕ) → (now k).descriptor ≡ None) → fits act realm (map (seen w.machine) (named act)) ≡ true
      → Yields R (outcome_of limits.vmids limits.aux (used_vmids w.machine) act realm (map (seen w.machine) (named act)))
  unfolding outcome_of named fits with_ram
  linked (Take order first) realm at none fit = Yields-Ok R _ (subst R (sym (seen_takes w.machine (block order first))) (subst IsLinked (λ i k. sym (put_takes (block order first) k (now k)) i) old))
  linked (UnTake order first) realm at none fit = Yields-Ok R _ (subst R (sym (seen_frees w.machine (block order first)))
      (subst IsLinked (λ i k. sym (put_frees (block order first) k (now k)) i) (freed w sound old (block order first) fit)))
  linked (Fill g v) realm at none fit = Yields-check R _ _ _ (λ host. Yields-Ok R _ (let h = undelegated_host w sound g host in host_put w sound old g _ h h (host_bare w sound g h)))
  linked (Peek g o v) realm at none fit = Yields-check R _ _ _ (λ _. Yields-Ok R _ old)
  linked (Delegate g) realm at none fit = Yields-check R _ _ _ (λ host. Yields-Ok R _ (host_put w sound old g left (undelegated_host w sound g host) refl refl))
  linked (Undelegate g) realm at none fit = Yields-check R _ _ _ (λ free. Yields-Ok R _ (let h = delegated_host w sound g free in host_put w sound old g _ h refl (host_bare w sound g h)))
  linked (Realm rd root v) realm at none fit = Yields-check R _ _ _ (λ all.
      let new = can_be_made limits.vmids (used_vmids w.machine) w.machine rd root v all in
      Yields-Ok R _ (subst R (sym (seen-creation w.machine rd root v)) (realm_made w sound old rd root v (none (none_is realm fit)) new.different)))
  linked (UnRealm rd root v) realm at none fit = Yields-with_realm R _ _ (λ d is. Yields-check R _ _ _ (λ empty.
      let parts = and_parts _ _ empty in
      let rows = ((sound.cells rd).row d is).rows in
      Yields-Ok R _ (realm_gone w sound old rd d is (leads_nowhere d.rows rows (not_true _ parts.1)) (no_recs_in d.recs (eqb-true (len d.recs) 0 parts.0)))))
  linked Activate None at none fit = Yields-Err R _
  linked Activate (Some rd) at none fit = Yields-with_realm R _ _ (λ d is. Yields-check R _ _ _ (λ _. Yields-Ok R _ (realm_same w sound old rd d _ at is refl (λ q. refl) (λ q. refl))))
  linked (Rtt g ipa level) None at none fit = Yields-Err R _
  linked (Rtt g ipa level) (Some rd) at none fit =
      Yields-with_realm R _ _ (λ d is. Yields-check R _ _ _ (λ place. Yields-with_end R _ _ _ _ (λ end e. Yields-check R _ _ _ (λ last. Yields-check R _ _ _ (λ plain.
      let outer = and_parts _ _ (and_parts _ _ place).0 in
      let rows = ((subst (IsSoundCell sound.rd rd.number) at (sound.cells rd.number)).row d is).rows in
      let there = walk_at d.rows ipa (level - 1) end e (eqb-true end.level (level - 1) last) in
      Yields-Ok R _ (row_more w sound old rd d (record d { rows = with_table d.rows level ipa g end.row.ripas }) at is refl refl g (held InRtt rd.number)
      (level - 1, first_covered (level - 1) ipa) outer.0 refl refl
      (ap row_target (mapping_at-with_table d.rows level ipa end.row rows (table_place ipa level outer.1) there g end.row.ripas (not_true _ plain)))
      (λ q to h. elim (with_table_cases d.rows level ipa end.row rows (table_place ipa level outer.1) there g end.row.ripas q (not_true _ plain)) [
        | inl new ↦ inr new.0
        | inr old ↦ elim old [
          | inl empty ↦ absurd (true_false _ (ap is_some h) (ap (λ o. is_some (row_target o)) empty.0))
          | inr same ↦ inl (ap row_target (sym same) ∙ h)
        ]
      ])
      (λ q to h. elim (with_table_cases d.rows level ipa end.row rows (table_place ipa level outer.1) there g end.row.ripas q (not_true _ plain)) [
        | inl new ↦ absurd (true_false _ (ap is_some h) (ap is_some new.2))
        | inr old ↦ elim old [
          | inl empty ↦ absurd (true_false _ (ap is_some h) (ap (λ o. is_some (row_target o)) empty.1))
          | inr same ↦ ap row_target same ∙ h
        ]
      ])))))))
  linked (UnRtt g ipa level) None at none fit = Yields-Err R _
  linked (UnRtt g ipa level) (Some rd) at none fit =
      Yields-with_realm R _ _ (λ d is. Yields-check R _ _ _ (λ place. Yields-with_end R _ _ _ _
      (λ end e. Yields-check R _ _ _ (λ last. Yields-check R _ _ _ (λ table. Yields-check R _ _ _ (λ unused. Yields-with_granule R _ _ (λ pa to.
      let rows = ((subst (IsSoundCell sound.rd rd.number) at (sound.cells rd.number)).row d is).rows in
      let there = walk_at d.rows ipa (level - 1) end e (eqb-true end.level (level - 1) last) in
      let up : ℕ × ℕ = (level - 1, first_covered (level - 1) ipa) in
      let cases = without_table_cases d.rows level ipa end.row rows (table_place ipa level (and_parts _ _ place).0) there unused in
      Yields-Ok R _ (row_less w sound old rd d (record d { rows = without_table d.rows level ipa }) at is refl refl pa up InRtt
      (ap (λ o. row_target (option_map mapping_of_row o)) there ∙ table_target end.row.state end.row.granule pa table to)
      (λ q t h. elim (cases q) [
        | inl empty ↦ absurd (true_false _ (ap is_some h) (ap (λ o. is_some (row_target o)) empty.1))
        | inr rest ↦ elim rest [ inl gone ↦ absurd (true_false _ (ap is_some h) (ap (λ o. is_some (row_target o)) gone.0)) | inr same ↦ ap row_target (sym same.0) ∙ h ]
      ])
      (elim (cases up) [
        | inl empty ↦ ap row_target empty.1
        | inr rest ↦ elim rest [ inl gone ↦ ap row_target gone.0 | inr same ↦ absurd (true_false _ (place_self up) same.1) ]
      ])
      (λ q t h. elim (cases q) [
        | inl empty ↦ inr empty.0
        | inr rest ↦ elim rest [ inl gone ↦ absurd (true_false _ (ap is_some h) (ap is_some gone.1)) | inr same ↦ inl (ap row_target same.0 ∙ h) ]
      ])))))))))
  linked (ToRam ipa n) None at none fit = Yields-Err R _
  linked (ToRam ipa n) (Some rd) at none fit =
      Yields-with_realm R _ _ (λ d is. Yields-check R _ _ _ (λ _. Yields-check R _ _ _ (λ _. Yields-with_end R _ _ _ _ (λ end e. Yields-check R _ _ _ (λ _. Yields-check R _ _ _ (λ all.
      Yields-Ok R _ (realm_same w sound old rd d _ at is refl (same_rows d.rows ipa n all) (λ q. refl))))))))
  linked (Data g ipa source) None at none fit = Yields-Err R _
  linked (Data g ipa source) (Some rd) at none fit =
      Yields-with_realm R _ _ (λ d is. Yields-check R _ _ _ (λ free. Yields-check R _ _ _ (λ _. Yields-with_end R _ _ _ _ (λ end e. Yields-check R _ _ _ (λ last. Yields-check R _ _ _ (λ plain.
      Yields-Ok R _ (data_linked rd d at is g (record (held InData rd.number) { bytes = (now source).bytes }) Ram ipa (measurement_after d.measurement (data_event ipa (now source).bytes)) end.row
      (and_parts _ _ (and_parts _ _ free).0).0 refl refl refl (walk_at d.rows ipa 3 end e (eqb-true end.level 3 last)) plain)))))))
  linked (Unknown g ipa) None at none fit = Yields-Err R _
  linked (Unknown g ipa) (Some rd) at none fit =
      Yields-with_realm R _ _ (λ d is. Yields-check R _ _ _ (λ free. Yields-with_end R _ _ _ _ (λ end e. Yields-check R _ _ _ (λ last. Yields-check R _ _ _ (λ plain.
      Yields-Ok R _ (data_linked rd d at is g (held InData rd.number) end.row.ripas ipa d.measurement end.row
      (and_parts _ _ free).0 refl refl refl (walk_at d.rows ipa 3 end e (eqb-true end.level 3 last)) plain))))))
  linked (UnData g ipa) None at none fit = Yields-Err R _
  linked (UnData g ipa) (Some rd) at none fit =
      Yields-with_realm R _ _ (λ d is. Yields-check R _ _ _ (λ _. Yields-with_end R _ _ _ _ (λ end e. Yields-check R _ _ _ (λ last. Yields-check R _ _ _ (λ used. Yields-with_granule R _ _ (λ pa to.
      let there = walk_at d.rows ipa 3 end e (eqb-true end.level 3 last) in
      let place : ℕ × ℕ = (3, first_covered 3 ipa) in
      let row : Row = unassigned (unmapped_ripas end.row.ripas) in
      Yields-Ok R _ (row_less w sound old rd d (record d { rows = put_row d.rows 3 ipa row }) at is refl refl pa place InData
      (ap (λ o. row_target (option_map mapping_of_row o)) there ∙ assigned_target end.row.state end.row.granule pa used to)
      (λ q t h. elim (leaf_new d.rows place row q t h) [ inl same ↦ same | inr new ↦ absurd (true_false _ (ap is_some new.1) refl) ])
      (leaf_target d.rows place row)
      (λ q t h. leaf_old d.rows place row q t h))))))))
  linked (Rec g aux m) None at none fit = Yields-Err R _
  linked (Rec g aux m) (Some rd) at none fit = Yields-with_realm R _ _ (λ d is. Yields-check R _ _ _ (λ all. Yields-check R _ _ _ (λ _.
      let parts = and_parts _ _ (and_parts _ _ all).0 in
      let more : RealmRow = record d {
        recs = insert d.recs d.next (record { granule = g; auxiliaries = numbers_of (map (seen w.machine) aux.items); state = Ready });
        next = d.next + 1;
        measurement = measurement_after d.measurement (rec_event d.next);
      } in
      Yields-Ok R _ (subst R (λ i. (Put g (held InRec rd.number) ∷ sym (seen-each_put w.machine (held RecAux rd.number) aux.items) i) ++ Put rd.number (record rd.cell { descriptor = Some more }) ∷ [])
      (rec_more w sound old rd d _ at is refl refl g aux.items d.next parts.0 (apart_list (g ∷ aux.items) parts.1) (ap (option_map granules_of_rec) (unused_number d (realm_sound rd d at is))) (λ q.
      let rec1 : RecRow = record { granule = g; auxiliaries = numbers_of (map (seen w.machine) aux.items); state = Ready } in
      ap (option_map granules_of_rec) (get-insert nat_cmp_total d.recs d.next rec1 q)
      ∙ elim (eq_by_cmp nat_cmp q d.next) as (λ t. option_map granules_of_rec (cond t (Some rec1) (get d.recs q)) ≡ cond t (Some (g, aux.items)) (option_map granules_of_rec (get d.recs q))) [
        | true ↦ λ i. Some (g, seen_numbers w.machine aux.items i)
        | false ↦ refl
      ]))))))
  linked (UnRec g aux m) None at none fit = Yields-Err R _
  linked (UnRec g aux m) (Some rd) at none fit = Yields-with_realm R _ _ (λ d is. Yields-with_rec R _ _ _ (λ rec there. Yields-check R _ _ _ (λ _. Yields-Ok R _
      (rec_less w sound old rd d _ at is refl refl m rec there (λ q. ap (option_map granules_of_rec) (get-remove nat_cmp_total d.recs m q)
      ∙ elim (eq_by_cmp nat_cmp q m) as (λ t. option_map granules_of_rec (cond t None (get d.recs q)) ≡ cond t None (option_map granules_of_rec (get d.recs q))) [ true ↦ refl | false ↦ refl ])))))
  linked (Enter m) None at none fit = Yields-Err R _
  linked (Enter m) (Some rd) at none fit = Yields-with_realm R _ _ (λ d is. Yields-with_rec R _ _ _ (λ rec there. Yields-check R _ _ _ (λ _. Yields-check R _ _ _ (λ _. Yields-Ok R _
      (realm_same w sound old rd d _ at is refl (λ q. refl) (same_insert nat_cmp_total granules_of_rec d.recs d.recs m rec (record rec { state = Running }) there refl (λ q. refl)))))))
  linked (Exit m) None at none fit = Yields-Err R _
  linked (Exit m) (Some rd) at none fit = Yields-with_realm R _ _ (λ d is. Yields-with_rec R _ _ _ (λ rec there. Yields-check R _ _ _ (λ _. Yields-Ok R _
      (realm_same w sound old rd d _ at is refl (λ q. refl) (same_insert nat_cmp_total granules_of_rec d.recs d.recs m rec (record rec { state = Ready }) there refl (λ q. refl))))))
  linked (Poke m ipa o v) None at none fit = Yields-Err R _
  linked (Poke m ipa o v) (Some rd) at none fit = Yields-with_realm R _ _ (λ d is. Yields-with_rec R _ _ _ (λ rec there. Yields-check R _ _ _ (λ _. Yields-check R _ _ _ (λ _.
      Yields-with_end R _ _ _ _ (λ end e. Yields-check R _ _ _ (λ _. Yields-with_granule R _ _ (λ pa to. Yields-Ok R _ (poked w sound old pa o v))))))))

-- ---- steps

part_linked : (limits : Limits) (b : ℕ) (w v : World) (act : Act) → IsSquare w → IsSoundPart w → IsLinked (λ k. cell_at w.machine k)
    → (realm_of b w ≡ None → (k : ℕ) → (cell_at w.machine k).descriptor ≡ None)
    → step limits w (by b act) ≡ Some v → IsLinked (λ k. cell_at v.machine k)
part_linked limits b w v act square sound old none s =
    let did = done limits b w v act (λ us. IsLinked (λ k. put_at us k (cell_at w.machine k)))
    (linked limits w sound old act (realm_of b w) (IsAt-realm_of b w) none (asked limits b w v act s).fit) s in
    subst IsLinked (λ i k. sym (cell_put b did.0 w v square did.2 k) i) did.1

pub linked_step : (limits : Limits) (b : ℕ) (w v : World) (e : Event) → IsSound b w → IsLinkedFor b w → step limits w e ≡ Some v → IsLinkedFor b v
linked_step limits b w v e sound old s = elim (e.build == b) as (λ t. (e.build == b) ≡ t → IsLinkedFor b v) [
  | true ↦ λ own. of_own (eqb-true e.build b own)
  | false ↦ λ other. subst (λ (x : World). IsLinked (λ k. cell_at x.machine k)) (sym (part_of-other_step limits b w v e (eqb-false e.build b other) sound.clean s)) old
] refl
  where
    of_own : e.build ≡ b → IsLinkedFor b v
    of_own own =
        let same : e ≡ by b e.act = λ i. record { build = own i; act = e.act } in
        part_linked limits b (part_of w b) (part_of v b) e.act (IsSquare-part_of w b sound.square) sound.part old
        (λ none. no_row b 0 w.leases w.machine sound.clean (sym (realm_of-part_of b w) ∙ none))
        (subst (λ d. step limits (part_of w b) d ≡ Some (part_of v b)) same (step-part_of limits b w v e own s))

pub linked_after : (limits : Limits) (b : ℕ) (es : List Event) (w v : World) → IsSound b w → IsLinkedFor b w → after limits es w ≡ Some v → IsLinkedFor b v
unfolding after
linked_after limits b [] w v sound old h = subst (IsLinkedFor b) (same_Some _ _ h) old
linked_after limits b (e ∷ es) w v sound old h = option_and_then_some (after limits es) (step limits w e) v h (λ x stepped rest.
    linked_after limits b es x v (IsSound-step limits b w x e sound stepped) (linked_step limits b w x e sound old stepped) rest)

pub linked_opening : (limits : Limits) (b : ℕ) → IsLinkedFor b (opening limits)
linked_opening limits b = subst (λ m. IsLinked (λ k. cell_at m k)) (sym (each-replicate (hidden (is_of_other b)) refl limits.pages))
    (record {
      roles = λ k. AsRec 0;
      names = λ k e h p to there. absurd (true_false _ (ap is_some h) (ap (λ (c : Cell). is_some c.descriptor) (cell_at-replicate limits.pages k)));
      named = λ g role. absurd (true_false _ role (ap (λ (c : Cell). is_role_state c.state) (cell_at-replicate limits.pages g)));
    })

pub linked_reached : (limits : Limits) (b : ℕ) (history : List Event) (w : World) → replay limits history ≡ Some w → IsLinkedFor b w
linked_reached limits b history w at_w = linked_after limits b history (opening limits) w (IsSound-opening limits b) (linked_opening limits b) at_w
