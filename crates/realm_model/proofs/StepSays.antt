-- The proof that the function `step` and the relation `IsStep` describe the same steps.
use Rattle.std.proofs.Common.{◌≡◌, ◌≢◌, ℕ, zero, suc, ◌+◌, ◌^◌, ◌<◌, true, cond, List, [], ◌∷◌, map, set, Option, Some, None, Ok, Err, refl, sym, ap, ◌∙◌, arith}
use Rattle.std.specs.Prelude.{slice_get}
use Rattle.std.specs.List.{All, list_all, range_with_len}
use Rattle.std.proofs.lemmas.Bool.{and_parts, and_from, ltb-true, lt-ltb}
use Rattle.std.proofs.lemmas.Option.{same_Some}
use Rattle.realm_model.specs.declared.act.Act.{Act}
use Rattle.realm_model.specs.declared.act.Act.TheVariants.{Take, UnTake}
use Rattle.realm_model.specs.declared.act.Event.{Event}
use Rattle.realm_model.specs.Machine.{Limits, Seen, seen}
use Rattle.realm_model.specs.Update.{Update, Outcome, Lease, Free, granule_of, lease_before, lease_after, machine_after_all}
use Rattle.realm_model.specs.Act.{block, named, holder}
use Rattle.realm_model.specs.Outcome.{outcome_of, is_in_range, fits}
use Rattle.realm_model.specs.World.{World, is_leased_to, realm_of, updated, updated_all}
use Rattle.realm_model.specs.Step.{step, is_allowed, used_vmids, after_outcome, named_cells, outcome_in}
use Rattle.realm_model.specs.StepLaw.{set_each, leases_after, IsStep, StepIsExact}
use Rattle.realm_model.specs.Undoing.{by}
use Rattle.realm_model.proofs.Booleans.{guarded}
use Rattle.realm_model.proofs.Written.{takes, puts_leases, seen_takes, seen_frees, frees}
use Rattle.realm_model.proofs.Puts.{puts}
use Rattle.realm_model.proofs.Leases.{leased_from, leased_all, leased, all_leased}
use Rattle.realm_model.proofs.Changes.{step_exact, ReachesOwn}
use Rattle.realm_model.proofs.Lists.{slice_get_set_other}

-- ---- updates read back

abbrev leases_after_all : ℕ → List Update → List (Option ℕ) → List (Option ℕ)
leases_after_all b [] leases = leases
leases_after_all b (u ∷ us) leases = leases_after_all b us (set leases (granule_of u) (lease_after b u))

updated_all_is : (b : ℕ) (us : List Update) (w v : World) → updated_all b us w ≡ Some v → (v.machine ≡ machine_after_all us w.machine) × (v.leases ≡ leases_after_all b us w.leases)
unfolding updated_all machine_after_all
updated_all_is b [] w v e = let same = same_Some _ _ e in (ap (λ (x : World). x.machine) (sym same), ap (λ (x : World). x.leases) (sym same))
updated_all_is b (u ∷ us) w v e = updated_all_is b us (updated b u w) v (guarded _ _ _ e).1

taken_leases : (b : ℕ) (gs : List ℕ) (leases : List (Option ℕ)) → leases_after_all b (takes gs) leases ≡ set_each (Some b) gs leases
unfolding set_each
taken_leases b [] leases = refl
taken_leases b (g ∷ gs) leases = taken_leases b gs (set leases g (Some b))

freed_leases : (b : ℕ) (gs : List ℕ) (leases : List (Option ℕ)) → leases_after_all b (frees gs) leases ≡ set_each None gs leases
unfolding set_each
freed_leases b [] leases = refl
freed_leases b (g ∷ gs) leases = freed_leases b gs (set leases g None)

same_Ok : (us vs : List Update) → ◌≡◌ {A = Outcome} (Ok us) (Ok vs) → us ≡ vs
same_Ok us vs e = cc

-- after the updates of an operation, the leases are those that `leases_after` gives
leases_of : (limits : Limits) (used : List ℕ) (b : ℕ) (w v : World) (act : Act) (realm : Option Seen) (us : List Update)
    → outcome_of limits.vmids limits.aux used act realm (map (seen w.machine) (named act)) ≡ Ok us → updated_all b us w ≡ Some v
    → v.leases ≡ leases_after b act w.leases
unfolding outcome_of named
leases_of limits used b w v (Take order first) realm us e done =
    let same : us ≡ takes (block order first) = sym (same_Ok _ _ e) ∙ seen_takes w.machine (block order first) in
    (updated_all_is b us w v done).1 ∙ ap (λ us. leases_after_all b us w.leases) same ∙ taken_leases b (block order first) w.leases
leases_of limits used b w v (UnTake order first) realm us e done =
    let same : us ≡ frees (block order first) = sym (same_Ok _ _ e) ∙ seen_frees w.machine (block order first) in
    (updated_all_is b us w v done).1 ∙ ap (λ us. leases_after_all b us w.leases) same ∙ freed_leases b (block order first) w.leases
leases_of limits used b w v act realm us e done = puts_leases b us w v ((puts limits used w.machine act realm refl).where_ok us e) done

pub step_is : (limits : Limits) (w v : World) (event : Event) → step limits w event ≡ Some v → IsStep limits w event v
unfolding step
step_is limits w v event s =
    let both = guarded (is_allowed limits w event) _ v s in
    let outer = and_parts _ _ both.0 in
    let ranged = and_parts _ _ outer.0 in
    let first = and_parts _ _ ranged.0 in
    of_outcome (outcome_in limits w event) refl both.1 (ltb-true event.build limits.builds first.0)
    (all_leased (holder event.build event.act) w.leases (named event.act) first.1) ranged.1 outer.1
  where
    of_outcome : (o : Outcome) → outcome_in limits w event ≡ o → after_outcome event.build o w ≡ Some v → event.build < limits.builds
        → All (λ granule. slice_get w.leases granule ≡ Some (holder event.build event.act)) (named event.act)
        → is_in_range event.act ≡ true → fits event.act (realm_of event.build w) (named_cells w event.act) ≡ true → IsStep limits w event v
    of_outcome (Ok us) is done below granules range fit = record {
      build = below;
      granules = granules;
      in_range = range;
      fitting = fit;
      updates = us;
      outcome = is;
      machine = (updated_all_is event.build us w v done).0;
      leases = leases_of limits (used_vmids w.machine) event.build w v event.act (realm_of event.build w) us is done;
    }
    of_outcome (Err rmi) is done below granules range fit = cc

-- ---- a block is taken, or given back

module _ (b : ℕ) (lease next : Option ℕ) (change : ℕ → Update) (granule : (g : ℕ) → granule_of (change g) ≡ g)
    (before : (g : ℕ) → lease_before b (change g) ≡ lease) (then : (g : ℕ) → lease_after b (change g) ≡ next) where
  rest_leased : (leases : List (Option ℕ)) (first a n : ℕ) → first < a → list_all (is_leased_to lease leases) (range_with_len a n) ≡ true
      → list_all (is_leased_to lease (set leases first next)) (range_with_len a n) ≡ true
  rest_leased leases first a zero less h = refl
  rest_leased leases first a (suc n) less h =
      let parts : (is_leased_to lease leases a ≡ true) × (list_all (is_leased_to lease leases) (range_with_len (a + 1) n) ≡ true) = and_parts _ _ h in
      let other : a ≢ first = λ e. absurd (omega arith) in
      and_from _ _ (leased_from lease (set leases first next) a (slice_get_set_other leases first a next other ∙ leased lease leases a parts.0))
      (rest_leased leases first (a + 1) n (omega arith) parts.1)

  pub row_goes : (first n : ℕ) (w : World) → list_all (is_leased_to lease w.leases) (range_with_len first n) ≡ true → (v : World) × (updated_all b (map change (range_with_len first n)) w ≡ Some v)
  unfolding updated_all
  row_goes first zero w h = (w, refl)
  row_goes first (suc n) w h =
      let parts : (is_leased_to lease w.leases first ≡ true) × (list_all (is_leased_to lease w.leases) (range_with_len (first + 1) n) ≡ true) = and_parts _ _ h in
      let after : List (Option ℕ) = (updated b (change first) w).leases in
      let after_is : after ≡ set w.leases first next = λ i. set w.leases (granule first i) (then first i) in
      let rest = row_goes (first + 1) n (updated b (change first) w)
      (ap (λ ls. list_all (is_leased_to lease ls) (range_with_len (first + 1) n)) after_is ∙ rest_leased w.leases first (first + 1) n (omega arith) parts.1) in (
        rest.0,
        ap (λ t. cond t (updated_all b (map change (range_with_len (first + 1) n)) (updated b (change first) w)) None)
            ((λ i. is_leased_to (before first i) w.leases (granule first i)) ∙ parts.0) ∙ rest.1,
      )

allowed : (limits : Limits) (w v : World) (event : Event) → IsStep limits w event v → is_allowed limits w event ≡ true
allowed limits w v event h =
    and_from _ _ (and_from _ _ (and_from _ _ (lt-ltb event.build limits.builds h.build) (leased_all (holder event.build event.act) w.leases (named event.act) h.granules)) h.in_range) h.fitting

step_goes : (limits : Limits) (w v : World) (b : ℕ) (act : Act) → ReachesOwn limits b w act (realm_of b w) → IsStep limits w (by b act) v → (x : World) × (step limits w (by b act) ≡ Some x)
unfolding step outcome_of named
step_goes limits w v b (Take order first) reach h =
    let gone = row_goes b None (Some b) (λ g. Lease g) (λ g. refl) (λ g. refl) (λ g. refl) first (2 ^ order) w (leased_all None w.leases (block order first) h.granules) in (
      gone.0,
      ap (λ t. cond t (updated_all b (map (λ (g : Seen). Lease g.number) (map (seen w.machine) (block order first))) w) None) (allowed limits w v (by b (Take order first)) h)
          ∙ ap (λ us. updated_all b us w) (seen_takes w.machine (block order first)) ∙ gone.1,
    )
step_goes limits w v b (UnTake order first) reach h =
    let gone = row_goes b (Some b) None (λ g. Free g) (λ g. refl) (λ g. refl) (λ g. refl) first (2 ^ order) w (leased_all (Some b) w.leases (block order first) h.granules) in (
      gone.0,
      ap (λ t. cond t (updated_all b (map (λ (g : Seen). Free g.number) (map (seen w.machine) (block order first))) w) None) (allowed limits w v (by b (UnTake order first)) h)
          ∙ ap (λ us. updated_all b us w) (seen_frees w.machine (block order first)) ∙ gone.1,
    )
step_goes limits w v b act reach h = (_, step_exact limits w b act h.updates refl reach (allowed limits w v (by b act) h) h.outcome)

same_step : (limits : Limits) (w x y : World) (event : Event) → IsStep limits w event x → IsStep limits w event y → x ≡ y
same_step limits w x y event h k =
    let updates : h.updates ≡ k.updates = same_Ok _ _ (sym h.outcome ∙ k.outcome) in
    let machine : x.machine ≡ y.machine = h.machine ∙ ap (λ us. machine_after_all us w.machine) updates ∙ sym k.machine in
    let leases : x.leases ≡ y.leases = h.leases ∙ sym k.leases in
    λ i. record { machine = machine i; leases = leases i }

-- `step` and `IsStep` agree on an event that is no guest's write, or that writes to a granule which its build leases
pub step_says : (limits : Limits) (w : World) (event : Event) → ReachesOwn limits event.build w event.act (realm_of event.build w) → StepIsExact limits w event
step_says limits w event reach v = (
  step_is limits w v event,
  λ h. let gone = step_goes limits w v event.build event.act reach h in gone.1 ∙ ap Some (same_step limits w gone.0 v event (step_is limits w gone.0 event gone.1) h),
)
