-- The proof that an accepted event is also accepted in a world that differs only in another build's part, unless the
-- event takes a granule or a VMID of that part.
use Rattle.std.proofs.Common.{◌≡◌, ◌≢◌, ℕ, true, false, cond, ◌||◌, not, List, [], ◌∷◌, map, Option, Some, None, Ok, refl, sym, ap, ◌∙◌}
use Rattle.std.specs.Prelude.{◌==◌, slice_get, option_map}
use Rattle.std.specs.List.{list_all}
use Rattle.std.proofs.lemmas.Bool.{and_parts, and_from, eqb-true, ne_eqb}
use Rattle.std.proofs.lemmas.Option.{same_Some, slice_get-map}
use Rattle.realm_model.specs.declared.act.Act.{Act}
use Rattle.realm_model.specs.declared.act.Act.TheVariants.{Take, Realm}
use Rattle.realm_model.specs.declared.act.Event.{Event}
use Rattle.realm_model.specs.Machine.{Limits, Seen, seen}
use Rattle.realm_model.specs.Update.{Update, machine_after_all}
use Rattle.realm_model.specs.Act.{named, holder}
use Rattle.realm_model.specs.Outcome.{fits, outcome_of}
use Rattle.realm_model.specs.World.{World, is_leased_to, realm_of, unleased, is_of, without}
use Rattle.realm_model.specs.Step.{step, used_vmids}
use Rattle.realm_model.specs.StepLaw.{leases_after, IsStep, StepIsExact}
use Rattle.realm_model.specs.Undoing.{by}
use Rattle.realm_model.specs.Interleaving.{granules_taken, vmids_taken}
use Rattle.realm_model.specs.Command.Check.{is_in}
use Rattle.realm_model.proofs.Booleans.{not_true}
use Rattle.realm_model.proofs.Lists.{all_in, all_from_in, is_in_head}
use Rattle.realm_model.proofs.Leases.{lease_is, leased, leased_from, leased_all, all_leased}
use Rattle.realm_model.proofs.HiddenSteps.{named_seen, realm_kept}
use Rattle.realm_model.proofs.Outcomes.{Yields-Ok, Yields-check, check_true}
use Rattle.realm_model.proofs.StepSays.{step_is}

-- ---- VMIDs

-- if a command is accepted with the VMIDs `used` in use, its updates are the same with `others` in use instead, unless
-- `others` has the VMID that it takes
outcome_of-taken : (limits : Limits) (used others : List ℕ) (act : Act) → ((v : ℕ) → is_in v (vmids_taken act) ≡ true → is_in v others ≡ false)
    → (realm : Option Seen) (gs : List Seen) (us : List Update) → outcome_of limits.vmids limits.aux used act realm gs ≡ Ok us → outcome_of limits.vmids limits.aux others act realm gs ≡ Ok us
unfolding outcome_of
outcome_of-taken limits used others (Realm rd root v) free realm [] us e = e
outcome_of-taken limits used others (Realm rd root v) free realm (g ∷ gs) us e =
    (Yields-check (λ us. outcome_of limits.vmids limits.aux others (Realm rd root v) realm (g ∷ gs) ≡ Ok us) _ _ _ (λ all.
    Yields-Ok _ _ (check_true _ _ _ (and_from _ _ (and_parts _ _ all).0 (ap not (free v (is_in_head v []))))))).where_ok us e
outcome_of-taken limits used others act free realm gs us e = e

-- if an operation's command is not refused, a VMID that the operation takes was not in use
unused_before : (limits : Limits) (used : List ℕ) (act : Act) (v : ℕ) → is_in v (vmids_taken act) ≡ true → (realm : Option Seen) (gs : List Seen) (us : List Update)
    → outcome_of limits.vmids limits.aux used act realm gs ≡ Ok us → is_in v used ≡ false
unfolding outcome_of
unused_before limits used (Realm rd root w) v i realm [] us e = cc
unused_before limits used (Realm rd root w) v i realm (g ∷ gs) us e =
    ap (λ n. is_in n used) (alone v w i)
    ∙ (Yields-check (λ us. is_in w used ≡ false) _ _ _ (λ all. Yields-Ok (λ us. is_in w used ≡ false) _ (not_true _ (and_parts _ _ all).1))).where_ok us e
  where
    alone : (v w : ℕ) → is_in v (w ∷ []) ≡ true → v ≡ w
    alone v w i = elim (v == w) as (λ t. (v == w) ≡ t → (t || false) ≡ true → v ≡ w) [ true ↦ λ e i. eqb-true v w e | false ↦ λ e i. cc ] refl i
unused_before limits used act v i realm gs us e = cc

pub vmid_unused : (limits : Limits) (w next : World) (e : Event) → step limits w e ≡ Some next → (v : ℕ) → is_in v (vmids_taken e.act) ≡ true → is_in v (used_vmids w.machine) ≡ false
vmid_unused limits w next e stepped v i = let s = step_is limits w next e stepped in unused_before limits (used_vmids w.machine) e.act v i _ _ s.updates s.outcome

-- ---- granules

-- before a step, each granule that the step's operation names has the lease that the operation requires
pub named_lease : (limits : Limits) (w v : World) (e : Event) (g : ℕ) → step limits w e ≡ Some v → is_in g (named e.act) ≡ true → slice_get w.leases g ≡ Some (holder e.build e.act)
named_lease limits w v e g stepped i =
    let lease : Option ℕ = holder e.build e.act in
    leased lease w.leases g (all_in (is_leased_to lease w.leases) (named e.act) g (leased_all lease w.leases (named e.act) (step_is limits w v e stepped).granules) i)

-- before a step, each granule that the step's operation takes is free
pub was_free : (limits : Limits) (b : ℕ) (act : Act) (w v : World) (g : ℕ) → step limits w (by b act) ≡ Some v → is_in g (granules_taken act) ≡ true → slice_get w.leases g ≡ Some None
unfolding named
was_free limits b (Take order first) w v g stepped i = named_lease limits w v (by b (Take order first)) g stepped i
was_free limits b act w v g stepped i = cc

holder_apart : (b c : ℕ) (act : Act) → c ≢ b → is_of b (holder c act) ≡ false
holder_apart b c (Take order first) apart = refl
holder_apart b c _ apart = ne_eqb c b apart

-- if an operation requires granules that nobody leases, it takes them
taken_from_none : (c : ℕ) (act : Act) (g : ℕ) → holder c act ≡ None → is_in g (named act) ≡ true → is_in g (granules_taken act) ≡ true
unfolding named
taken_from_none c (Take order first) g none i = i
taken_from_none c _ g none i = cc

-- ---- one event

module _ (limits : Limits) (b : ℕ) (y x : World) (rest : without x b ≡ without y b) where
  -- a granule that another build leases in `y`, or that is free in `y` and not leased to `b` in `x`, has the same lease
  -- in `x`
  lease_there : (h : Option ℕ) (g : ℕ) → is_of b h ≡ false → (h ≡ None → slice_get x.leases g ≡ Some (Some b) → ⊥) → slice_get y.leases g ≡ Some h → slice_get x.leases g ≡ Some h
  lease_there h g apart free e = by_lease (slice_get x.leases g) refl
      (sym (slice_get-map (unleased (is_of b)) x.leases g) ∙ ap (λ (w : World). slice_get w.leases g) rest ∙ slice_get-map (unleased (is_of b)) y.leases g
      ∙ ap (option_map (unleased (is_of b))) e ∙ ap (λ t. Some (cond t None h)) apart)
    where
      by_lease : (o : Option (Option ℕ)) → slice_get x.leases g ≡ o → option_map (unleased (is_of b)) o ≡ Some h → o ≡ Some h
      by_lease None at m = cc
      by_lease (Some l) at m = elim (is_of b l) as (λ t. is_of b l ≡ t → Some (cond t None l) ≡ Some h → Some l ≡ Some h) [
        | true ↦ λ its m. absurd (free (sym (same_Some _ _ m)) (at ∙ ap Some (lease_is l (Some b) its)))
        | false ↦ λ other m. m
      ] refl m

  -- each build other than `b` has the same realm in `x` as in `y`
  realm_there : (c : ℕ) → c ≢ b → realm_of c x ≡ realm_of c y
  realm_there c apart =
      sym (realm_kept (is_of b) c 0 (ne_eqb c b apart) x.leases x.machine) ∙ ap (realm_of c) rest ∙ realm_kept (is_of b) c 0 (ne_eqb c b apart) y.leases y.machine

  pub goes_there : (e : Event) → e.build ≢ b → StepIsExact limits x e
      → ((g : ℕ) → is_in g (granules_taken e.act) ≡ true → slice_get x.leases g ≡ Some (Some b) → ⊥)
      → ((v : ℕ) → is_in v (vmids_taken e.act) ≡ true → is_in v (used_vmids x.machine) ≡ false)
      → (y' : World) → step limits y e ≡ Some y' → (x' : World) × (step limits x e ≡ Some x')
  goes_there e apart says free unused y' stepped =
      let s = step_is limits y y' e stepped in
      let lease : Option ℕ = holder e.build e.act in
      let shown : is_of b lease ≡ false = holder_apart b e.build e.act apart in
      let gs : List ℕ = named e.act in
      let held : list_all (is_leased_to lease y.leases) gs ≡ true = leased_all lease y.leases gs s.granules in
      let held_x : list_all (is_leased_to lease x.leases) gs ≡ true =
      all_from_in (is_leased_to lease x.leases) gs (λ g i. leased_from lease x.leases g
      (lease_there lease g shown (λ none. free g (taken_from_none e.build e.act g none i)) (leased lease y.leases g (all_in (is_leased_to lease y.leases) gs g held i)))) in
      let realm : realm_of e.build x ≡ realm_of e.build y = realm_there e.build apart in
      let cells : map (seen x.machine) gs ≡ map (seen y.machine) gs =
      sym (named_seen (is_of b) lease shown x.leases x.machine gs held_x) ∙ ap (λ (w : World). map (seen w.machine) gs) rest ∙ named_seen (is_of b) lease shown y.leases y.machine gs held in
      let x' : World = record { machine = machine_after_all s.updates x.machine; leases = leases_after e.build e.act x.leases } in
      let is : IsStep limits x e x' = record {
        build = s.build;
        granules = all_leased lease x.leases gs held_x;
        in_range = s.in_range;
        fitting = (λ i. fits e.act (realm i) (cells i)) ∙ s.fitting;
        updates = s.updates;
        outcome = outcome_of-taken limits (used_vmids y.machine) (used_vmids x.machine) e.act unused (realm_of e.build x) (map (seen x.machine) gs) s.updates
            ((λ i. outcome_of limits.vmids limits.aux (used_vmids y.machine) e.act (realm i) (cells i)) ∙ s.outcome);
        machine = refl;
        leases = refl;
      } in
      (x', (says x').1 is)
