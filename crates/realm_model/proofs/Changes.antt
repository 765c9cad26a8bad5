-- The proof that a command changes only granules that its build leases, and changes no lease.
use Rattle.std.proofs.Common.{◌≡◌, ℕ, ◌<◌, Bool, true, false, cond, ◌&&◌, List, [], ◌∷◌, ◌++◌, map, set, Option, Some, None, Ok, refl, sym, ap, ◌∙◌, ◌-◌, subst}
use Rattle.std.specs.Prelude.{◌==◌, nat_eq}
use Rattle.std.specs.List.{list_all}
use Rattle.std.specs.Option.{option_eq}
use Rattle.std.specs.FinMap.{get}
use Rattle.std.specs.Str.{bytes_eq}
use Rattle.std.specs.Cmp.Lexicographic.{bytes_decides}
use Rattle.std.proofs.lemmas.Bool.{eqb-true, and_parts, and_from, lt-ltb, ltb-true}
use Rattle.std.proofs.lemmas.Option.{same_Some}
use Rattle.std.proofs.lemmas.List.Folds.{list_all-append, list_all-map}
use Rattle.granule_addr.specs.Root.{starting_tables}
use Rattle.granule_addr.specs.declared.width.Root.{Root}
use Rattle.realm_model.specs.declared.act.Act.{Act}
use Rattle.realm_model.specs.declared.act.Act.TheVariants.{Take, UnTake, Fill, Peek, Delegate, Undelegate, Realm, UnRealm, Activate}
use Rattle.realm_model.specs.declared.act.Act.TheVariants.{Rtt, UnRtt, Ripas, Data, Unknown, UnData, Rec, UnRec, Enter, Exit, Poke}
use Rattle.realm_model.specs.declared.states.GranuleState.TheVariants.{RecAux, Rtt as InRtt}
use Rattle.realm_model.specs.Machine.{Limits, Seen, seen, RecRow, RealmRow, Cell, cell_at, held as held_cell, left}
use Rattle.realm_model.specs.Update.{Update, Put, PutByte, Lease, Free, granule_of, lease_before, lease_after, machine_after, machine_after_all}
use Rattle.realm_model.specs.Act.{named, holder}
use Rattle.realm_model.specs.Outcome.{outcome_of, is_in_range, fits, leads_to, realm_is, is_root}
use Rattle.realm_model.specs.World.{World, is_leased_to, realm_of, updated, updated_all}
use Rattle.realm_model.specs.Step.{step, is_allowed, used_vmids, after_outcome}
use Rattle.realm_model.specs.Undoing.{by}
use Rattle.realm_model.specs.Rows.{Rows, Walk, walk, row_at, is_assigned}
use Rattle.realm_model.proofs.Leases.{set_lease, leased}
use Rattle.realm_model.proofs.Written.{each_put, put_seen, seen-each_put}
use Rattle.realm_model.proofs.Roots.{same_root}
use Rattle.realm_model.proofs.RealmOf.{IsAt, realm_test, IsHeld, IsAt-realm_of, IsHeld-realm_of}
use Rattle.realm_model.proofs.Outcomes.{Yields, Yields-Ok, Yields-with_rec, Yields-with_realm, Yields-with_end, Yields-check, Yields-Err, Yields-with_granule}
use Rattle.realm_model.proofs.Walks.{walk_at}
use Rattle.realm_model.proofs.Puts.{is_of_block}

-- the update changes a granule that the build leases, and no lease
abbrev pub is_change : ℕ → List (Option ℕ) → Update → Bool
is_change build leases (Put granule cell) = is_leased_to (Some build) leases granule
is_change build leases (PutByte granule offset value) = is_leased_to (Some build) leases granule
is_change build leases (Lease granule) = false
is_change build leases (Free granule) = false

change_kept : (build : ℕ) (leases : List (Option ℕ)) (u : Update) → is_change build leases u ≡ true
    → (is_leased_to (lease_before build u) leases (granule_of u) ≡ true) × (set leases (granule_of u) (lease_after build u) ≡ leases)
change_kept build leases (Put g cell) h = (h, set_lease leases g (Some build) (leased (Some build) leases g h))
change_kept build leases (PutByte g o v) h = (h, set_lease leases g (Some build) (leased (Some build) leases g h))
change_kept build leases (Lease g) h = cc
change_kept build leases (Free g) h = cc

updated_all-changes : (build : ℕ) (us : List Update) (w : World) → list_all (is_change build w.leases) us ≡ true
    → updated_all build us w ≡ Some (record { machine = machine_after_all us w.machine; leases = w.leases })
unfolding updated_all machine_after_all
updated_all-changes build [] w h = refl
updated_all-changes build (u ∷ us) w h =
    let both = and_parts _ _ h in
    let kept = change_kept build w.leases u both.0 in
    let changed = machine_after u w.machine in
    ap (λ t. cond t (updated_all build us (updated build u w)) None) kept.0
    ∙ ap (λ ls. updated_all build us (record { machine = changed; leases = ls })) kept.1
    ∙ updated_all-changes build us (record { machine = changed; leases = w.leases }) both.1

-- if an allowed operation is not refused and its updates change only cells that the build leases, the step makes these
-- updates and changes no lease
pub step-command : (limits : Limits) (w : World) (build : ℕ) (act : Act) (us : List Update) → build < limits.builds
    → list_all (is_leased_to (holder build act) w.leases) (named act) ≡ true
    → is_in_range act ≡ true → fits act (realm_of build w) (map (seen w.machine) (named act)) ≡ true
    → outcome_of limits.vmids limits.aux (used_vmids w.machine) act (realm_of build w) (map (seen w.machine) (named act)) ≡ Ok us
    → list_all (is_change build w.leases) us ≡ true
    → step limits w (by build act) ≡ Some (record { machine = machine_after_all us w.machine; leases = w.leases })
unfolding step
step-command limits w build act us below leases range fit planned changes =
    ap (λ t. cond t (after_outcome build (outcome_of limits.vmids limits.aux (used_vmids w.machine) act (realm_of build w) (map (seen w.machine) (named act))) w) None)
    (and_from _ _ (and_from _ _ (and_from _ _ (lt-ltb build limits.builds below) leases) range) fit)
    ∙ ap (λ o. after_outcome build o w) planned
    ∙ updated_all-changes build us w changes

-- if the row at a level leads to granule `g`, and a walk that ends at this level ends at a row that leads to granule
-- `pa`, `pa` is `g`
pub pointed : (rows : Rows) (ipa level g pa : ℕ) (end : Walk) → leads_to (row_at rows level ipa) g ≡ true → walk rows ipa level ≡ Some end
    → (end.level == level) ≡ true → end.row.granule ≡ Some pa → pa ≡ g
pointed rows ipa level g pa end fit e last there =
    eqb-true pa g (sym (ap (λ o. option_eq nat_eq o (Some g)) there) ∙ sym (ap (λ o. leads_to o g) (walk_at rows ipa level end e (eqb-true end.level level last))) ∙ fit)

-- ---- operations

module _ (limits : Limits) (b : ℕ) (w : World) where
  abbrev L : ℕ → Bool
  L g = is_leased_to (Some b) w.leases g

  abbrev C : List Update → Type 0
  C us = list_all (is_change b w.leases) us ≡ true

  two : (g h : ℕ) → L g ≡ true → L h ≡ true → (L g && (L h && true)) ≡ true
  two g h p q = and_from _ _ p (and_from _ _ q refl)

  one : (g : ℕ) → L g ≡ true → (L g && true) ≡ true
  one g p = and_from _ _ p refl

  puts_alone : (cell : Cell) (gs : List ℕ) → list_all L gs ≡ true → C (each_put cell gs)
  puts_alone cell gs h = list_all-map (is_change b w.leases) (λ g. Put g cell) gs ∙ h

  puts_more : (cell : Cell) (gs : List ℕ) (us : List Update) → list_all L gs ≡ true → C us → C (each_put cell gs ++ us)
  puts_more cell gs us h c = list_all-append (is_change b w.leases) (each_put cell gs) us ∙ (λ i. puts_alone cell gs h i && c i)

  seen_alone : (cell : Cell) (gs : List ℕ) → list_all L gs ≡ true → C (map (put_seen cell) (map (seen w.machine) gs))
  seen_alone cell gs h = subst C (sym (seen-each_put w.machine cell gs)) (puts_alone cell gs h)

  seen_more : (cell : Cell) (gs : List ℕ) (us : List Update) → list_all L gs ≡ true → C us → C (map (put_seen cell) (map (seen w.machine) gs) ++ us)
  seen_more cell gs us h c = subst (λ xs. C (xs ++ us)) (sym (seen-each_put w.machine cell gs)) (puts_more cell gs us h c)

  -- if the build's realm passes a test that requires the RD `rd`, the test also passes for the row of the realm at `rd`
  own_is : (own : Seen) (rd : ℕ) (d : RealmRow) (test : Seen → RealmRow → Bool) → ((r : RealmRow) → test own r ≡ true → own.number ≡ rd)
      → realm_is (Some own) test ≡ true → cell_at w.machine own.number ≡ own.cell → (cell_at w.machine rd).descriptor ≡ Some d → test own d ≡ true
  own_is own rd d test place fit at is =
      elim own.cell.descriptor as (λ o. own.cell.descriptor ≡ o → elim o [ Some r ↦ test own r | None ↦ false ] ≡ true → test own d ≡ true) [
        | Some r ↦ λ e t.
            let same : d ≡ r = same_Some _ _ (sym is ∙ ap (λ n. (cell_at w.machine n).descriptor) (sym (place r t)) ∙ ap (λ (c : Cell). c.descriptor) at ∙ e) in
            ap (test own) same ∙ t
        | None ↦ λ e t. cc
      ] refl fit

  -- if the build's realm is the one that an UnRealm names, the row of this realm has the starting tables and the IPA
  -- width that the UnRealm names
  root_is : (own : Seen) (rd : ℕ) (root : Root) (v : ℕ) (d : RealmRow) → realm_is (Some own) (λ x r. x.number == rd && is_root root r.root && r.vmid == v) ≡ true
      → cell_at w.machine own.number ≡ own.cell → (cell_at w.machine rd).descriptor ≡ Some d → d.root ≡ root
  root_is own rd root v d fit at is =
      let number : (r : RealmRow) → (own.number == rd && is_root root r.root && r.vmid == v) ≡ true → own.number ≡ rd = λ r t. eqb-true own.number rd (and_parts _ _ (and_parts _ _ t).0).0 in
      sym (same_root root d.root (and_parts _ _ (and_parts _ _ (own_is own rd d (λ x r. x.number == rd && is_root root r.root && r.vmid == v) number fit at is)).0).1)

  rec_test : (rd : Seen) (d : RealmRow) (n : ℕ) (rec : RecRow) (test : RecRow → Bool) → realm_is (Some rd) (λ x r. elim (get r.recs n) [ Some rec ↦ test rec | None ↦ false ]) ≡ true
      → rd.cell.descriptor ≡ Some d → get d.recs n ≡ Some rec → test rec ≡ true
  rec_test rd d n rec test fit is there =
      sym (ap (λ o. elim o [ Some rec ↦ test rec | None ↦ false ]) there) ∙ realm_test rd d (λ x r. elim (get r.recs n) [ Some rec ↦ test rec | None ↦ false ]) fit is

  -- if the operation is a guest's write, the write reaches a granule that the build leases
  abbrev pub ReachesOwn : Act → Option Seen → Type 0
  ReachesOwn (Poke n ipa o v) (Some rd) =
      (d : RealmRow) (end : Walk) (pa : ℕ) → rd.cell.descriptor ≡ Some d → walk d.rows ipa 3 ≡ Some end → is_assigned end.row ≡ true → end.row.granule ≡ Some pa → L pa ≡ true
  ReachesOwn _ realm = Unit {0}

  pub changes : (act : Act) (realm : Option Seen) → is_of_block act ≡ false → ReachesOwn act realm → list_all L (named act) ≡ true → IsAt w.machine realm → IsHeld b w.leases realm
      → fits act realm (map (seen w.machine) (named act)) ≡ true → Yields C (outcome_of limits.vmids limits.aux (used_vmids w.machine) act realm (map (seen w.machine) (named act)))
  unfolding outcome_of named fits
  changes (Fill g v) realm k reach h at held fit = Yields-check C _ _ _ (λ _. Yields-Ok C _ h)
  changes (Peek g o v) realm k reach h at held fit = Yields-check C _ _ _ (λ _. Yields-Ok C _ refl)
  changes (Delegate g) realm k reach h at held fit = Yields-check C _ _ _ (λ _. Yields-Ok C _ h)
  changes (Undelegate g) realm k reach h at held fit = Yields-check C _ _ _ (λ _. Yields-Ok C _ h)
  changes (Realm rd root v) realm k reach h at held fit = Yields-check C _ _ _ (λ _. Yields-Ok C _
      (let both = and_parts _ _ h in and_from _ _ both.0 (seen_alone (held_cell InRtt rd) (starting_tables root) both.1)))
  changes (UnRealm rd root v) None k reach h at held fit = cc
  changes (UnRealm rd root v) (Some own) k reach h at held fit = Yields-with_realm C _ _ (λ d is. Yields-check C _ _ _ (λ _. Yields-Ok C _
      (let both = and_parts _ _ h in and_from _ _ both.0 (puts_alone left (starting_tables d.root) (ap (λ r. list_all L (starting_tables r)) (root_is own rd root v d fit at is) ∙ both.1)))))
  changes Activate None k reach h at held fit = Yields-Err C _
  changes Activate (Some rd) k reach h at held fit = Yields-with_realm C _ _ (λ d is. Yields-check C _ _ _ (λ _. Yields-Ok C _ (one rd.number held)))
  changes (Rtt g ipa level) None k reach h at held fit = Yields-Err C _
  changes (Rtt g ipa level) (Some rd) k reach h at held fit =
      Yields-with_realm C _ _ (λ d is. Yields-check C _ _ _ (λ _. Yields-with_end C _ _ _ _ (λ end e. Yields-check C _ _ _ (λ _. Yields-check C _ _ _ (λ _.
      Yields-Ok C _ (two g rd.number (and_parts _ _ h).0 held))))))
  changes (UnRtt g ipa level) None k reach h at held fit = Yields-Err C _
  changes (UnRtt g ipa level) (Some rd) k reach h at held fit =
      Yields-with_realm C _ _ (λ d is. Yields-check C _ _ _ (λ _. Yields-with_end C _ _ _ _
      (λ end e. Yields-check C _ _ _ (λ last. Yields-check C _ _ _ (λ _. Yields-check C _ _ _ (λ _. Yields-with_granule C _ _ (λ pa there.
      Yields-Ok C _ (two pa rd.number
      (ap L (pointed d.rows ipa (level - 1) g pa end (realm_test rd d (λ x r. leads_to (row_at r.rows (level - 1) ipa) g) fit is) e last there) ∙ (and_parts _ _ h).0) held))))))))
  changes (Ripas ipa n) None k reach h at held fit = Yields-Err C _
  changes (Ripas ipa n) (Some rd) k reach h at held fit =
      Yields-with_realm C _ _ (λ d is. Yields-check C _ _ _ (λ _. Yields-check C _ _ _ (λ _. Yields-with_end C _ _ _ _ (λ end e. Yields-check C _ _ _ (λ _. Yields-check C _ _ _ (λ _.
      Yields-Ok C _ (one rd.number held)))))))
  changes (Data g ipa source) None k reach h at held fit = Yields-Err C _
  changes (Data g ipa source) (Some rd) k reach h at held fit =
      Yields-with_realm C _ _ (λ d is. Yields-check C _ _ _ (λ _. Yields-check C _ _ _ (λ _. Yields-with_end C _ _ _ _ (λ end e. Yields-check C _ _ _ (λ _. Yields-check C _ _ _ (λ _.
      Yields-Ok C _ (two g rd.number (and_parts _ _ h).0 held)))))))
  changes (Unknown g ipa) None k reach h at held fit = Yields-Err C _
  changes (Unknown g ipa) (Some rd) k reach h at held fit =
      Yields-with_realm C _ _ (λ d is. Yields-check C _ _ _ (λ _. Yields-with_end C _ _ _ _ (λ end e. Yields-check C _ _ _ (λ _. Yields-check C _ _ _ (λ _.
      Yields-Ok C _ (two g rd.number (and_parts _ _ h).0 held))))))
  changes (UnData g ipa) None k reach h at held fit = Yields-Err C _
  changes (UnData g ipa) (Some rd) k reach h at held fit =
      Yields-with_realm C _ _ (λ d is. Yields-check C _ _ _ (λ _. Yields-with_end C _ _ _ _ (λ end e. Yields-check C _ _ _ (λ last. Yields-check C _ _ _ (λ _. Yields-with_granule C _ _ (λ pa there.
      Yields-Ok C _ (two pa rd.number
      (ap L (pointed d.rows ipa 3 g pa end (realm_test rd d (λ x r. leads_to (row_at r.rows 3 ipa) g) fit is) e last there) ∙ (and_parts _ _ h).0) held)))))))
  changes (Rec g aux n) None k reach h at held fit = Yields-Err C _
  changes (Rec g aux n) (Some rd) k reach h at held fit = Yields-with_realm C _ _ (λ d is. Yields-check C _ _ _ (λ _. Yields-check C _ _ _ (λ _. Yields-Ok C _
      (let both = and_parts _ _ h in and_from _ _ both.0 (seen_more (held_cell RecAux rd.number) aux.items _ both.1 (one rd.number held))))))
  changes (UnRec g aux n) None k reach h at held fit = Yields-Err C _
  changes (UnRec g aux n) (Some rd) k reach h at held fit = Yields-with_realm C _ _ (λ d is. Yields-with_rec C _ _ _ (λ rec there. Yields-check C _ _ _ (λ _. Yields-Ok C _
      (let both = and_parts _ _ h in
      let known = and_parts _ _ (rec_test rd d n rec (λ r. r.granule == g && bytes_eq r.auxiliaries aux.items) fit is there) in
      and_from _ _ (ap L (eqb-true rec.granule g known.0) ∙ both.0)
      (puts_more left rec.auxiliaries _ (ap (list_all L) ((bytes_decides rec.auxiliaries aux.items).0 known.1) ∙ both.1) (one rd.number held))))))
  changes (Enter n) None k reach h at held fit = Yields-Err C _
  changes (Enter n) (Some rd) k reach h at held fit =
      Yields-with_realm C _ _ (λ d is. Yields-with_rec C _ _ _ (λ rec there. Yields-check C _ _ _ (λ _. Yields-check C _ _ _ (λ _. Yields-Ok C _ (one rd.number held)))))
  changes (Exit n) None k reach h at held fit = Yields-Err C _
  changes (Exit n) (Some rd) k reach h at held fit = Yields-with_realm C _ _ (λ d is. Yields-with_rec C _ _ _ (λ rec there. Yields-check C _ _ _ (λ _. Yields-Ok C _ (one rd.number held))))
  changes (Poke n ipa o v) None k reach h at held fit = Yields-Err C _
  changes (Poke n ipa o v) (Some rd) k reach h at held fit = Yields-with_realm C _ _ (λ d is. Yields-with_rec C _ _ _ (λ rec there. Yields-check C _ _ _ (λ _. Yields-check C _ _ _ (λ _.
      Yields-with_end C _ _ _ _ (λ end e. Yields-check C _ _ _ (λ a. Yields-with_granule C _ _ (λ pa to. Yields-Ok C _ (one pa (reach d end pa is e a to)))))))))
  changes (Take order first) realm k reach h at held fit = cc
  changes (UnTake order first) realm k reach h at held fit = cc

pub holder_is : (build : ℕ) (act : Act) → is_of_block act ≡ false → holder build act ≡ Some build
holder_is build (Take order first) k = cc
holder_is build _ k = refl

-- If an operation other than Take and UnTake is allowed and not refused, its step makes the updates of its outcome and
-- changes no lease. A guest's write must reach a granule of its build.
pub step_exact : (limits : Limits) (w : World) (build : ℕ) (act : Act) (us : List Update) → is_of_block act ≡ false → ReachesOwn limits build w act (realm_of build w)
    → is_allowed limits w (by build act) ≡ true
    → outcome_of limits.vmids limits.aux (used_vmids w.machine) act (realm_of build w) (map (seen w.machine) (named act)) ≡ Ok us
    → step limits w (by build act) ≡ Some (record { machine = machine_after_all us w.machine; leases = w.leases })
step_exact limits w build act us k reach opened planned =
    let outer = and_parts _ _ opened in
    let ranged = and_parts _ _ outer.0 in
    let first = and_parts _ _ ranged.0 in
    let mine : list_all (is_leased_to (Some build) w.leases) (named act) ≡ true = ap (λ l. list_all (is_leased_to l w.leases) (named act)) (sym (holder_is build act k)) ∙ first.1 in
    step-command limits w build act us (ltb-true build limits.builds first.0) first.1 ranged.1 outer.1 planned
    ((changes limits build w act (realm_of build w) k reach mine (IsAt-realm_of build w) (IsHeld-realm_of build w) outer.1).where_ok us planned)
