-- Proofs that a build's realm still exists after each operation of the build except RMI_REALM_DESTROY, and changes only
-- as the operation allows.
use Rattle.std.proofs.Common.{◌≡◌, ℕ, ◌+◌, Bool, true, false, cond, not, List, [], ◌∷◌, ◌++◌, map, Option, Some, None, refl, sym, ap, ◌∙◌, subst}
use Rattle.std.specs.Prelude.{◌==◌}
use Rattle.std.specs.FinMap.{get, insert, remove, len, empty_of_len, get-empty}
use Rattle.std.specs.List.{list_all}
use Rattle.std.specs.Ordering.{nat_cmp}
use Rattle.std.proofs.lemmas.Bool.{and_parts, eqb-true}
use Rattle.std.proofs.lemmas.Option.{same_Some}
use Rattle.realm_model.specs.declared.states.RecState.TheVariants.{Ready, Running}
use Rattle.realm_model.specs.declared.act.Act.{Act}
use Rattle.realm_model.specs.declared.act.Act.TheVariants.{Take, UnTake, Fill, Peek, Delegate, Undelegate, Realm, UnRealm, Activate}
use Rattle.realm_model.specs.declared.act.Act.TheVariants.{Rtt, UnRtt, Ripas, Data, Unknown, UnData, Rec, UnRec, Enter, Exit, Poke}
use Rattle.granule_addr.specs.Root.{starting_tables}
use Rattle.granule_addr.specs.declared.width.Root.{Root}
use Rattle.realm_model.specs.Machine.{Limits, RecRow, RealmRow, Cell, Seen, blank, cell_at, seen}
use Rattle.realm_model.specs.Update.{Update, Put, PutByte, cell_after}
use Rattle.realm_model.specs.Command.Check.{is_ready, is_undelegated, is_in}
use Rattle.realm_model.specs.Act.{block, named}
use Rattle.realm_model.specs.Outcome.{outcome_of, fits}
use Rattle.realm_model.specs.World.{World, realm_of}
use Rattle.realm_model.specs.Sound.{is_host_state}
use Rattle.realm_model.specs.Running.{is_rec_running}
use Rattle.realm_model.specs.Step.{step, used_vmids}
use Rattle.realm_model.specs.Undoing.{by}
use Rattle.realm_model.specs.Command.Realm.{new_realm}
use Rattle.realm_model.proofs.Booleans.{none_is, not_true}
use Rattle.realm_model.proofs.Outcomes.{Yields, Yields-Ok, Yields-Err, Yields-check, Yields-with_realm, Yields-with_rec, Yields-with_end, Yields-with_granule}
use Rattle.realm_model.proofs.RealmOf.{IsAt, IsAt-realm_of}
use Rattle.realm_model.proofs.Written.{put_at, put_last, seen_takes, seen_frees, put_takes, put_frees, takes, frees, IsSquare, cell_put}
use Rattle.realm_model.proofs.RoleChanges.{no_descriptor, host_bare, one_place, delegated_host, undelegated_host, all_host}
use Rattle.realm_model.proofs.RunningRecs.{running, running-start, running-stop, running-new, running-gone, running-none}
use Rattle.realm_model.proofs.StepBack.{done, asked}
use Rattle.realm_model.proofs.NewRealms.{seen-creation}
use Rattle.realm_model.proofs.RealmRoles.{made_row, gone_row}
use Rattle.realm_model.proofs.Parts.{IsSoundRealm, IsSoundCell, IsSoundPart}

module _ (limits : Limits) (w : World) (sound : IsSoundPart w) (T : RealmRow → RealmRow → Type 0) where
  abbrev now : ℕ → Cell
  now k = cell_at w.machine k

  -- after the updates each realm still exists, and `T` relates its `RealmRow` before the updates to the one after
  abbrev S : List Update → Type 0
  S us = (k : ℕ) (d : RealmRow) → (now k).descriptor ≡ Some d → (e : RealmRow) × ((put_at us k (now k)).descriptor ≡ Some e) × T d e

  -- `T` allows each change of a realm by the operation; an operation not listed here changes only the realm's state,
  -- measurement and rows
  abbrev pub Allows : Act → Type 0
  Allows (Realm rd root v) = Unit {0}
  Allows (UnRealm rd root v) = ⊥
  Allows (Rec g aux n) = (d : RealmRow) (rec : RecRow) (m : List ℕ) → is_ready rec.state ≡ true → T d (record d { recs = insert d.recs d.next rec; next = d.next + 1; measurement = m })
  Allows (UnRec g aux n) = (d : RealmRow) (rec : RecRow) → get d.recs n ≡ Some rec → is_ready rec.state ≡ true → T d (record d { recs = remove d.recs n })
  Allows (Enter n) = (d : RealmRow) (rec : RecRow) → IsSoundRealm d → get d.recs n ≡ Some rec → is_ready rec.state ≡ true → T d (record d { recs = insert d.recs n (record rec { state = Running }) })
  Allows (Exit n) = (d : RealmRow) (rec : RecRow) → IsSoundRealm d → get d.recs n ≡ Some rec → is_ready rec.state ≡ false → T d (record d { recs = insert d.recs n (record rec { state = Ready }) })
  Allows _ = (d e : RealmRow) → e ≡ record d { state = e.state; measurement = e.measurement; rows = e.rows } → T d e

  -- `S` holds of updates of which the last writes the realm's row, if `T` allows the change of the row
  turned : (rd : Seen) (d e : RealmRow) (us : List Update) → now rd.number ≡ rd.cell → rd.cell.descriptor ≡ Some d → T d e → S (us ++ Put rd.number (record rd.cell { descriptor = Some e }) ∷ [])
  turned rd d e us at is turns k x there =
      let own : (now rd.number).descriptor ≡ Some d = ap (λ (c : Cell). c.descriptor) at ∙ is in
      let place : k ≡ rd.number = one_place w sound k rd.number x d there own in
      let same : d ≡ x = same_Some _ _ (sym own ∙ ap (λ j. (now j).descriptor) (sym place) ∙ there) in
      let z : Cell = record rd.cell { descriptor = Some e } in (
        e,
        ap (λ j. (put_at (us ++ Put rd.number z ∷ []) j (now j)).descriptor) place ∙ ap (λ (c : Cell). c.descriptor) (put_last us rd.number z (now rd.number)),
        subst (λ y. T y e) same turns,
      )

  realm_sound : (rd : Seen) (d : RealmRow) → now rd.number ≡ rd.cell → rd.cell.descriptor ≡ Some d → IsSoundRealm d
  realm_sound rd d at is = (subst (IsSoundCell sound.rd rd.number) at (sound.cells rd.number)).row d is

  -- `S` holds of updates that change no realm's row, if `T` relates each row to itself
  module _ (same : (d : RealmRow) → T d d) where
    as_it_was : (us : List Update) → ((k : ℕ) (d : RealmRow) → (now k).descriptor ≡ Some d → (put_at us k (now k)).descriptor ≡ Some d) → S us
    as_it_was us stays k d there = (d, stays k d there, same d)

    host_put : (g : ℕ) (x : Cell) → is_host_state (now g).state ≡ true → S (Put g x ∷ [])
    host_put g x host = as_it_was (Put g x ∷ []) (λ k d there. elim (k == g) as (λ t. (k == g) ≡ t → (cond t x (now k)).descriptor ≡ Some d) [
      | true ↦ λ here. absurd (no_descriptor (now k) d (host_bare w sound k (ap (λ j. is_host_state (now j).state) (eqb-true k g here) ∙ host)) there)
      | false ↦ λ other. there
    ] refl)

    taken : (gs : List ℕ) → S (takes gs)
    taken gs = as_it_was (takes gs) (λ k d there. ap (λ (c : Cell). c.descriptor) (put_takes gs k (now k)) ∙ there)

    freed : (gs : List ℕ) → list_all is_undelegated (map (seen w.machine) gs) ≡ true → S (frees gs)
    freed gs free = as_it_was (frees gs) (λ k d there. ap (λ (c : Cell). c.descriptor) (put_frees gs k (now k))
        ∙ elim (is_in k gs) as (λ t. is_in k gs ≡ t → (cond t blank (now k)).descriptor ≡ Some d) [
          | true ↦ λ i. absurd (no_descriptor (now k) d (host_bare w sound k (all_host w sound is_undelegated (undelegated_host w sound) gs free k i)) there)
          | false ↦ λ i. there
        ] refl)

    poked : (g o v : ℕ) → S (PutByte g o v ∷ [])
    poked g o v = as_it_was (PutByte g o v ∷ []) (λ k d there. elim (k == g) as (λ t. (cond t (cell_after (PutByte g o v) (now k)) (now k)).descriptor ≡ Some d) [ true ↦ there | false ↦ there ])

  pub turns : (act : Act) (realm : Option Seen) → Allows act → IsAt w.machine realm → (realm ≡ None → (k : ℕ) → (now k).descriptor ≡ None) → fits act realm (map (seen w.machine) (named act)) ≡ true
      → Yields S (outcome_of limits.vmids limits.aux (used_vmids w.machine) act realm (map (seen w.machine) (named act)))
  unfolding outcome_of named fits
  turns (Take order first) realm allows at none fit = Yields-Ok S _ (subst S (sym (seen_takes w.machine (block order first))) (taken (λ d. allows d d refl) (block order first)))
  turns (UnTake order first) realm allows at none fit = Yields-Ok S _ (subst S (sym (seen_frees w.machine (block order first))) (freed (λ d. allows d d refl) (block order first) fit))
  turns (Fill g v) realm allows at none fit = Yields-check S _ _ _ (λ host. Yields-Ok S _ (host_put (λ d. allows d d refl) g _ (undelegated_host w sound g host)))
  turns (Peek g o v) realm allows at none fit = Yields-check S _ _ _ (λ _. Yields-Ok S _ (as_it_was (λ d. allows d d refl) [] (λ k d there. there)))
  turns (Delegate g) realm allows at none fit = Yields-check S _ _ _ (λ host. Yields-Ok S _ (host_put (λ d. allows d d refl) g _ (undelegated_host w sound g host)))
  turns (Undelegate g) realm allows at none fit = Yields-check S _ _ _ (λ host. Yields-Ok S _ (host_put (λ d. allows d d refl) g _ (delegated_host w sound g host)))
  turns (Realm rd root v) realm allows at none fit = Yields-check S _ _ _ (λ _. Yields-Ok S _ (λ k d there. absurd (no_descriptor (now k) d (none (none_is realm fit) k) there)))
  turns (UnRealm rd root v) realm allows at none fit = absurd allows
  turns Activate None allows at none fit = Yields-Err S _
  turns Activate (Some rd) allows at none fit = Yields-with_realm S _ _ (λ d is. Yields-check S _ _ _ (λ _. Yields-Ok S _ (turned rd d _ [] at is (allows d _ refl))))
  turns (Rtt g ipa level) None allows at none fit = Yields-Err S _
  turns (Rtt g ipa level) (Some rd) allows at none fit =
      Yields-with_realm S _ _ (λ d is. Yields-check S _ _ _ (λ _. Yields-with_end S _ _ _ _ (λ end e. Yields-check S _ _ _ (λ _. Yields-check S _ _ _ (λ _.
      Yields-Ok S _ (turned rd d _ (Put g _ ∷ []) at is (allows d _ refl)))))))
  turns (UnRtt g ipa level) None allows at none fit = Yields-Err S _
  turns (UnRtt g ipa level) (Some rd) allows at none fit =
      Yields-with_realm S _ _ (λ d is. Yields-check S _ _ _ (λ _. Yields-with_end S _ _ _ _
      (λ end e. Yields-check S _ _ _ (λ _. Yields-check S _ _ _ (λ _. Yields-check S _ _ _ (λ _. Yields-with_granule S _ _ (λ pa to.
      Yields-Ok S _ (turned rd d _ (Put pa _ ∷ []) at is (allows d _ refl)))))))))
  turns (Ripas ipa n) None allows at none fit = Yields-Err S _
  turns (Ripas ipa n) (Some rd) allows at none fit =
      Yields-with_realm S _ _ (λ d is. Yields-check S _ _ _ (λ _. Yields-check S _ _ _ (λ _. Yields-with_end S _ _ _ _ (λ end e. Yields-check S _ _ _ (λ _. Yields-check S _ _ _ (λ _.
      Yields-Ok S _ (turned rd d _ [] at is (allows d _ refl))))))))
  turns (Data g ipa source) None allows at none fit = Yields-Err S _
  turns (Data g ipa source) (Some rd) allows at none fit =
      Yields-with_realm S _ _ (λ d is. Yields-check S _ _ _ (λ _. Yields-check S _ _ _ (λ _. Yields-with_end S _ _ _ _ (λ end e. Yields-check S _ _ _ (λ _. Yields-check S _ _ _ (λ _.
      Yields-Ok S _ (turned rd d _ (Put g _ ∷ []) at is (allows d _ refl))))))))
  turns (Unknown g ipa) None allows at none fit = Yields-Err S _
  turns (Unknown g ipa) (Some rd) allows at none fit =
      Yields-with_realm S _ _ (λ d is. Yields-check S _ _ _ (λ _. Yields-with_end S _ _ _ _ (λ end e. Yields-check S _ _ _ (λ _. Yields-check S _ _ _ (λ _.
      Yields-Ok S _ (turned rd d _ (Put g _ ∷ []) at is (allows d _ refl)))))))
  turns (UnData g ipa) None allows at none fit = Yields-Err S _
  turns (UnData g ipa) (Some rd) allows at none fit =
      Yields-with_realm S _ _ (λ d is. Yields-check S _ _ _ (λ _. Yields-with_end S _ _ _ _ (λ end e. Yields-check S _ _ _ (λ _. Yields-check S _ _ _ (λ _. Yields-with_granule S _ _ (λ pa to.
      Yields-Ok S _ (turned rd d _ (Put pa _ ∷ []) at is (allows d _ refl))))))))
  turns (Rec g aux m) None allows at none fit = Yields-Err S _
  turns (Rec g aux m) (Some rd) allows at none fit = Yields-with_realm S _ _ (λ d is. Yields-check S _ _ _ (λ _. Yields-check S _ _ _ (λ _.
      Yields-Ok S _ (turned rd d _ (Put g _ ∷ map _ (map (seen w.machine) aux.items)) at is (allows d _ _ refl)))))
  turns (UnRec g aux m) None allows at none fit = Yields-Err S _
  turns (UnRec g aux m) (Some rd) allows at none fit = Yields-with_realm S _ _ (λ d is. Yields-with_rec S _ _ _ (λ rec there. Yields-check S _ _ _ (λ ready.
      Yields-Ok S _ (turned rd d _ (Put rec.granule _ ∷ map _ rec.auxiliaries) at is (allows d rec there ready)))))
  turns (Enter m) None allows at none fit = Yields-Err S _
  turns (Enter m) (Some rd) allows at none fit = Yields-with_realm S _ _ (λ d is. Yields-with_rec S _ _ _ (λ rec there. Yields-check S _ _ _ (λ _. Yields-check S _ _ _ (λ ready.
      Yields-Ok S _ (turned rd d _ [] at is (allows d rec (realm_sound rd d at is) there ready))))))
  turns (Exit m) None allows at none fit = Yields-Err S _
  turns (Exit m) (Some rd) allows at none fit = Yields-with_realm S _ _ (λ d is. Yields-with_rec S _ _ _ (λ rec there. Yields-check S _ _ _ (λ ready.
      Yields-Ok S _ (turned rd d _ [] at is (allows d rec (realm_sound rd d at is) there (not_true _ ready))))))
  turns (Poke m ipa o v) None allows at none fit = Yields-Err S _
  turns (Poke m ipa o v) (Some rd) allows at none fit = Yields-with_realm S _ _ (λ d is. Yields-with_rec S _ _ _ (λ rec there. Yields-check S _ _ _ (λ _. Yields-check S _ _ _ (λ _.
      Yields-with_end S _ _ _ _ (λ end e. Yields-check S _ _ _ (λ _. Yields-with_granule S _ _ (λ pa to. Yields-Ok S _ (poked (λ d. allows d d refl) pa o v))))))))

-- ---- steps

-- if the first number of RECs runs before the operation, the second number runs after it
abbrev pub RunsAfter : Act → ℕ → ℕ → Type 0
RunsAfter (Enter n) x y = y ≡ x + 1
RunsAfter (Exit n) x y = y + 1 ≡ x
RunsAfter _ x y = y ≡ x

abbrev pub Turns : Act → RealmRow → RealmRow → Type 0
Turns act d e = (e.vmid ≡ d.vmid) × RunsAfter act (running d.recs d.next) (running e.recs e.next)

abbrev pub is_realm_destroy : Act → Bool
is_realm_destroy (UnRealm rd root v) = true
is_realm_destroy _ = false

allowed : (limits : Limits) (w : World) (sound : IsSoundPart w) (act : Act) → is_realm_destroy act ≡ false → Allows limits w sound (Turns act) act
allowed limits w sound (Realm rd root v) k = tt
allowed limits w sound (UnRealm rd root v) k = cc
allowed limits w sound (Rec g aux n) k = λ d rec m ready. (refl, running-new d.recs d.next rec (ap not ready))
allowed limits w sound (UnRec g aux n) k = λ d rec there ready. (refl, running-gone d.recs d.next n (ap is_rec_running there ∙ ap not ready))
allowed limits w sound (Enter n) k = λ d rec h there ready. (refl, running-start d.recs d.next n (record rec { state = Running }) (h.recs n rec there) (ap is_rec_running there ∙ ap not ready) refl)
allowed limits w sound (Exit n) k = λ d rec h there ready. (refl, running-stop d.recs d.next n (record rec { state = Ready }) (h.recs n rec there) (ap is_rec_running there ∙ ap not ready) refl)
allowed limits w sound act k = λ d e same. (ap (λ (x : RealmRow). x.vmid) same, ap (λ (x : RealmRow). running x.recs x.next) same)

-- if `T` allows each change of a realm by an operation, each realm still exists after the operation, and `T` relates
-- its `RealmRow` before to the one after
pub turned_by : (limits : Limits) (b : ℕ) (w v : World) (act : Act) (T : RealmRow → RealmRow → Type 0) → IsSquare w → (sound : IsSoundPart w)
    → (realm_of b w ≡ None → (k : ℕ) → (cell_at w.machine k).descriptor ≡ None)
    → Allows limits w sound T act → step limits w (by b act) ≡ Some v → (k : ℕ) (d : RealmRow) → (cell_at w.machine k).descriptor ≡ Some d → (e : RealmRow)
    × ((cell_at v.machine k).descriptor ≡ Some e) × T d e
turned_by limits b w v act T square sound none allows s k d there =
    let did = done limits b w v act (S limits w sound T) (turns limits w sound T act (realm_of b w) allows (IsAt-realm_of b w) none (asked limits b w v act s).fit) s in
    let turned = did.1 k d there in
    (turned.0, ap (λ (c : Cell). c.descriptor) (cell_put b did.0 w v square did.2 k) ∙ turned.1, turned.2)

pub realm_turned : (limits : Limits) (b : ℕ) (w v : World) (act : Act) → IsSquare w → IsSoundPart w → (realm_of b w ≡ None → (k : ℕ) → (cell_at w.machine k).descriptor ≡ None)
    → is_realm_destroy act ≡ false
    → step limits w (by b act) ≡ Some v → (k : ℕ) (d : RealmRow) → (cell_at w.machine k).descriptor ≡ Some d → (e : RealmRow) × ((cell_at v.machine k).descriptor ≡ Some e) × Turns act d e
realm_turned limits b w v act square sound none plain = turned_by limits b w v act (Turns act) square sound none (allowed limits w sound act plain)

-- after a realm is created where there was none, no granule has a realm's row other than the new realm's
made_new : (limits : Limits) (w : World) (rd : ℕ) (root : Root) (v : ℕ) (realm : Option Seen) → ((k : ℕ) → (cell_at w.machine k).descriptor ≡ None)
    → Yields (λ us. (k : ℕ) (e : RealmRow) → (put_at us k (cell_at w.machine k)).descriptor ≡ Some e → e ≡ new_realm v root)
    (outcome_of limits.vmids limits.aux (used_vmids w.machine) (Realm rd root v) realm (map (seen w.machine) (named (Realm rd root v))))
unfolding outcome_of named
made_new limits w rd root v realm none =
    Yields-check P _ _ _ (λ _. Yields-Ok P _ (subst P (sym (seen-creation w.machine rd root v)) (λ k e h. sym (made_row w rd root v none k e h).1)))
  where
    P : List Update → Type 0
    P us = (k : ℕ) (e : RealmRow) → (put_at us k (cell_at w.machine k)).descriptor ≡ Some e → e ≡ new_realm v root

-- if the destruction of a realm is not refused, the realm had no running REC, and no realm is left
destroyed : (limits : Limits) (w : World) (sound : IsSoundPart w) (rd : ℕ) (root : Root) (v : ℕ) (realm : Option Seen)
    → Yields (λ us. ((k : ℕ) (e : RealmRow) → (put_at us k (cell_at w.machine k)).descriptor ≡ Some e → ⊥)
    × ((k : ℕ) (d : RealmRow) → (cell_at w.machine k).descriptor ≡ Some d → running d.recs d.next ≡ 0))
    (outcome_of limits.vmids limits.aux (used_vmids w.machine) (UnRealm rd root v) realm (map (seen w.machine) (named (UnRealm rd root v))))
unfolding outcome_of named
destroyed limits w sound rd root v realm = Yields-with_realm P _ _ (λ d is. Yields-check P _ _ _ (λ empty. Yields-Ok P _ (
  (λ k e h. gone_row w sound rd d is (starting_tables d.root) k e h),
  (λ k x there.
      let same : d ≡ x = same_Some _ _ (sym is ∙ ap (λ j. (cell_at w.machine j).descriptor) (one_place w sound rd k d x is there) ∙ there) in
      ap (λ (y : RealmRow). running y.recs y.next) (sym same)
      ∙ running-none d.recs d.next (λ n. ap (λ m. get m n) (empty_of_len d.recs (eqb-true (len d.recs) 0 (and_parts _ _ empty).0)) ∙ get-empty nat_cmp n)),
)))
  where
    P : List Update → Type 0
    P us = ((k : ℕ) (e : RealmRow) → (put_at us k (cell_at w.machine k)).descriptor ≡ Some e → ⊥) × ((k : ℕ) (d : RealmRow) → (cell_at w.machine k).descriptor ≡ Some d → running d.recs d.next ≡ 0)

-- After a step that creates a realm where there was none, no granule has a realm's row other than the new realm's.
-- After a step that destroys the realm of a build's part (`realm_gone_step`), the part has no realm left, and no REC of
-- the realm was running.
pub realm_made_step : (limits : Limits) (b : ℕ) (w v : World) (rd : ℕ) (root : Root) (vmid : ℕ) → IsSquare w → ((k : ℕ) → (cell_at w.machine k).descriptor ≡ None)
    → step limits w (by b (Realm rd root vmid)) ≡ Some v
    → (k : ℕ) (e : RealmRow) → (cell_at v.machine k).descriptor ≡ Some e → e ≡ new_realm vmid root
realm_made_step limits b w v rd root vmid square none s k e is =
    let did = done limits b w v (Realm rd root vmid) (λ us. (k : ℕ) (e : RealmRow) → (put_at us k (cell_at w.machine k)).descriptor ≡ Some e → e ≡ new_realm vmid root)
    (made_new limits w rd root vmid (realm_of b w) none) s in
    did.1 k e (ap (λ (c : Cell). c.descriptor) (sym (cell_put b did.0 w v square did.2 k)) ∙ is)

pub realm_gone_step : (limits : Limits) (b : ℕ) (w v : World) (rd : ℕ) (root : Root) (vmid : ℕ) → IsSquare w → IsSoundPart w → step limits w (by b (UnRealm rd root vmid)) ≡ Some v
    → ((k : ℕ) → (cell_at v.machine k).descriptor ≡ None) × ((k : ℕ) (d : RealmRow) → (cell_at w.machine k).descriptor ≡ Some d → running d.recs d.next ≡ 0)
realm_gone_step limits b w v rd root vmid square sound s =
    let did = done limits b w v (UnRealm rd root vmid) (λ us. ((k : ℕ) (e : RealmRow) → (put_at us k (cell_at w.machine k)).descriptor ≡ Some e → ⊥)
    × ((k : ℕ) (d : RealmRow) → (cell_at w.machine k).descriptor ≡ Some d → running d.recs d.next ≡ 0))
    (destroyed limits w sound rd root vmid (realm_of b w)) s in
    ((λ k. none_of (cell_at v.machine k).descriptor (λ e is. did.1.0 k e (ap (λ (c : Cell). c.descriptor) (sym (cell_put b did.0 w v square did.2 k)) ∙ is))), did.1.1)
  where
    none_of : (o : Option RealmRow) → ((e : RealmRow) → o ≡ Some e → ⊥) → o ≡ None
    none_of None h = refl
    none_of (Some e) h = absurd (h e refl)
