-- Proofs that an accepted event is also accepted in the world without another build, and in its own build's part, and
-- changes no other build's part. The last holds if free granules are blank.
use Rattle.std.proofs.Common.{◌≡◌, ◌≢◌, ℕ, suc, Bool, true, false, cond, ◌&&◌, not, List, [], ◌∷◌, map, Option, Some, None, Ok, Err, refl, sym, ap, ◌∙◌}
use Rattle.std.specs.Option.{option_eq}
use Rattle.std.specs.Prelude.{◌==◌, slice_get, option_map, is_some}
use Rattle.std.specs.List.{list_all}
use Rattle.std.proofs.lemmas.Option.{slice_get-map}
use Rattle.std.proofs.lemmas.Bool.{eq-eqb, ne_eqb, and_parts, and_from}
use Rattle.realm_model.specs.declared.act.Act.{Act}
use Rattle.realm_model.specs.declared.act.Act.TheVariants.{Take}
use Rattle.realm_model.specs.declared.act.Event.{Event}
use Rattle.realm_model.specs.Machine.{Cell, Machine, Limits, Seen, blank, cell_at, seen}
use Rattle.realm_model.specs.Update.{Update, Outcome}
use Rattle.realm_model.specs.Act.{named, holder}
use Rattle.realm_model.specs.Outcome.{outcome_of, fits}
use Rattle.realm_model.specs.World.{World, same_lease, is_leased_to, each, masked, without, part_of, is_of, is_of_other, hidden, unleased, realm_from, realm_of}
use Rattle.realm_model.specs.Step.{step, after_outcome, is_allowed, used_vmids}
use Rattle.realm_model.proofs.Booleans.{guarded, false_from, true_false}
use Rattle.realm_model.proofs.Leases.{leased-map, lease_is, leased, cell_at-each}
use Rattle.realm_model.proofs.UsedVmids.{used-hidden, outcome_of-fewer}
use Rattle.realm_model.proofs.HiddenUpdates.{updated_all-masked, hidden-blank, masked-own_updated_all}
use Rattle.realm_model.proofs.Clean.{IsClean, IsClean-updated_all}

-- the given predicate does not hide the lease
abbrev IsShown : (Option ℕ → Bool) → Option ℕ → Type 0
IsShown p lease = p lease ≡ false

holder_shown : (p : Option ℕ → Bool) (c : ℕ) (act : Act) → p None ≡ false → p (Some c) ≡ false → IsShown p (holder c act)
holder_shown p c (Take order first) free other = free
holder_shown p c _ free other = other

module _ (p : Option ℕ → Bool) (lease : Option ℕ) (apart : IsShown p lease) where
  kept : unleased p lease ≡ lease
  kept = ap (λ t. cond t None lease) apart

  shown : (cell : Cell) → hidden p lease cell ≡ cell
  shown cell = ap (λ t. cond t blank cell) apart

  -- hiding builds does not change a lease that is not hidden; by `named_seen`, hiding builds does not change the
  -- granule's cell either
  named_leased : (leases : List (Option ℕ)) (gs : List ℕ) → list_all (is_leased_to lease leases) gs ≡ true → list_all (is_leased_to lease (map (unleased p) leases)) gs ≡ true
  named_leased leases [] h = refl
  named_leased leases (g ∷ gs) h =
      let both = and_parts _ _ h in
      and_from _ _ (leased-map (unleased p) lease leases g kept both.0) (named_leased leases gs both.1)

  pub named_seen : (leases : List (Option ℕ)) (machine : Machine) (gs : List ℕ) → list_all (is_leased_to lease leases) gs ≡ true
      → map (seen (each (hidden p) leases machine)) gs ≡ map (seen machine) gs
  named_seen leases machine [] h = refl
  named_seen leases machine (g ∷ gs) h =
      let both = and_parts _ _ h in
      let cell : cell_at (each (hidden p) leases machine) g ≡ cell_at machine g =
      cell_at-each (hidden p) leases machine g lease (hidden-blank p lease) (leased lease leases g both.0) ∙ shown (cell_at machine g) in
      let rest : map (seen (each (hidden p) leases machine)) gs ≡ map (seen machine) gs = named_seen leases machine gs both.1 in
      λ i. record { number = g; cell = cell i } ∷ rest i

-- the realm at granule `n` if there is one and build `c` leases the granule, otherwise `rest`; hiding other builds does
-- not change the result (`realm_or_kept`)
abbrev realm_or : ℕ → ℕ → Option ℕ → Cell → Option Seen → Option Seen
realm_or c n lease cell rest = cond (same_lease lease (Some c) && is_some cell.descriptor) (Some (record { number = n; cell = cell })) rest

realm_or_kept : (p : Option ℕ → Bool) (c n : ℕ) → p (Some c) ≡ false → (lease : Option ℕ) (cell : Cell) (rest : Option Seen)
    → realm_or c n (unleased p lease) (hidden p lease cell) rest ≡ realm_or c n lease cell rest
realm_or_kept p c n other lease cell rest =
    elim (p lease) as (λ t. p lease ≡ t → realm_or c n (cond t None lease) (cond t blank cell) rest ≡ realm_or c n lease cell rest) [
      | true ↦ λ h. let not_c : same_lease lease (Some c) ≡ false = false_from _ (λ e. true_false (p lease) h (ap p (lease_is lease (Some c) e) ∙ other)) in
          sym (ap (λ t. cond (t && is_some cell.descriptor) (Some (record { number = n; cell = cell })) rest) not_c)
      | false ↦ λ h. refl
    ] refl

pub realm_kept : (p : Option ℕ → Bool) (c n : ℕ) → p (Some c) ≡ false → (leases : List (Option ℕ)) (machine : Machine)
    → realm_from c n (map (unleased p) leases) (each (hidden p) leases machine) ≡ realm_from c n leases machine
unfolding realm_from
realm_kept p c n other [] machine = refl
realm_kept p c n other (l ∷ leases) [] = refl
realm_kept p c n other (l ∷ leases) (cell ∷ machine) =
    ap (λ rest. realm_or c n (unleased p l) (hidden p l cell) rest) (realm_kept p c (suc n) other leases machine)
    ∙ realm_or_kept p c n other l cell (realm_from c (suc n) leases machine)

-- if builds are hidden, the updates of a build that is not hidden have the same effect, and, if free granules are
-- blank, those of a hidden build change nothing visible
module _ (p : Option ℕ → Bool) (free : p None ≡ false) (c : ℕ) where
  after_outcome-masked : p (Some c) ≡ false → (o fewer : Outcome) (w v : World) → ((us : List Update) → o ≡ Ok us → fewer ≡ Ok us) → after_outcome c o w ≡ Some v
      → after_outcome c fewer (masked p w) ≡ Some (masked p v)
  after_outcome-masked other (Ok us) fewer w v same e = ap (λ o. after_outcome c o (masked p w)) (same us refl) ∙ updated_all-masked p free c other us w v e
  after_outcome-masked other (Err rmi) fewer w v same e = cc

  masked-own_after_plan : p (Some c) ≡ true → (o : Outcome) (w v : World) → IsClean w → after_outcome c o w ≡ Some v → masked p v ≡ masked p w
  masked-own_after_plan own (Ok us) w v clean e = masked-own_updated_all p free c own us w v clean e
  masked-own_after_plan own (Err rmi) w v clean e = cc

IsClean-after_outcome : (c : ℕ) (o : Outcome) (w v : World) → IsClean w → after_outcome c o w ≡ Some v → IsClean v
IsClean-after_outcome c (Ok us) w v clean e = IsClean-updated_all c us w v clean e
IsClean-after_outcome c (Err rmi) w v clean e = cc

-- if all free granules are blank before a step, all free granules are blank after it
pub IsClean-step : (limits : Limits) (w v : World) (e : Event) → IsClean w → step limits w e ≡ Some v → IsClean v
unfolding step
IsClean-step limits w v e clean s = IsClean-after_outcome e.build _ w v clean (guarded (is_allowed limits w e) _ v s).1

module _ (limits : Limits) (p : Option ℕ → Bool) (free : p None ≡ false) (w v : World) (e : Event) where
  -- an accepted event of a build that is not hidden is also accepted in the world with other builds hidden
  pub step-masked : p (Some e.build) ≡ false → step limits w e ≡ Some v → step limits (masked p w) e ≡ Some (masked p v)
  unfolding step
  step-masked other s =
      let c = e.build in
      let both = guarded (is_allowed limits w e) _ v s in
      let outer = and_parts _ _ both.0 in
      let ranged = and_parts _ _ outer.0 in
      let first = and_parts _ _ ranged.0 in
      let elsewhere : IsShown p (holder c e.act) = holder_shown p c e.act free other in
      let realm : realm_of c (masked p w) ≡ realm_of c w = realm_kept p c 0 other w.leases w.machine in
      let granules : map (seen (masked p w).machine) (named e.act) ≡ map (seen w.machine) (named e.act) =
      named_seen p (holder c e.act) elsewhere w.leases w.machine (named e.act) first.1 in
      let open_too : is_allowed limits (masked p w) e ≡ true =
      and_from _ _ (and_from _ _ (and_from _ _ first.0 (named_leased p (holder c e.act) elsewhere w.leases (named e.act) first.1)) ranged.1)
      ((λ i. fits e.act (realm i) (granules i)) ∙ outer.1) in
      let used : List ℕ = used_vmids w.machine in
      let fewer : List ℕ = used_vmids (masked p w).machine in
      ap (λ t. cond t (after_outcome c (outcome_of limits.vmids limits.aux fewer e.act (realm_of c (masked p w)) (map (seen (masked p w).machine) (named e.act))) (masked p w)) None) open_too
      ∙ (λ i. after_outcome c (outcome_of limits.vmids limits.aux fewer e.act (realm i) (granules i)) (masked p w))
      ∙ after_outcome-masked p free c other (outcome_of limits.vmids limits.aux used e.act (realm_of c w) (map (seen w.machine) (named e.act)))
      (outcome_of limits.vmids limits.aux fewer e.act (realm_of c w) (map (seen w.machine) (named e.act))) w v
      (outcome_of-fewer limits used fewer (used-hidden p w.leases w.machine) e.act (realm_of c w) (map (seen w.machine) (named e.act))) both.1

  -- if free granules are blank, a step of a hidden build changes nothing visible
  pub masked-own_step : p (Some e.build) ≡ true → IsClean w → step limits w e ≡ Some v → masked p v ≡ masked p w
  unfolding step
  masked-own_step own clean s = masked-own_after_plan p free e.build own _ w v clean (guarded (is_allowed limits w e) _ v s).1

-- if free granules are blank, the world without build `b` follows the steps of the other builds alone, and the part of
-- `b` follows the steps of `b` alone
module _ (limits : Limits) (b : ℕ) (w v : World) (e : Event) where
  pub step-without : e.build ≢ b → step limits w e ≡ Some v → step limits (without w b) e ≡ Some (without v b)
  step-without apart s = step-masked limits (is_of b) refl w v e (ne_eqb e.build b apart) s

  pub without-own_step : e.build ≡ b → IsClean w → step limits w e ≡ Some v → without v b ≡ without w b
  without-own_step own clean s = masked-own_step limits (is_of b) refl w v e (eq-eqb e.build b own) clean s

  -- if free granules are blank, a step of another build changes nothing in the part of `b`
  pub part_of-other_step : e.build ≢ b → IsClean w → step limits w e ≡ Some v → part_of v b ≡ part_of w b
  part_of-other_step apart clean s = masked-own_step limits (is_of_other b) refl w v e (ap not (ne_eqb e.build b apart)) clean s

  -- a step of `b` is also a step in the part of `b` alone, and leads to the part of `b` in the new world
  pub step-part_of : e.build ≡ b → step limits w e ≡ Some v → step limits (part_of w b) e ≡ Some (part_of v b)
  step-part_of own s = step-masked limits (is_of_other b) refl w v e (ap not (eq-eqb e.build b own)) s

-- a build leases a granule in its own part exactly if it leases the granule in the world
pub leased_in_part : (b : ℕ) (w : World) (g : ℕ) → is_leased_to (Some b) (part_of w b).leases g ≡ is_leased_to (Some b) w.leases g
leased_in_part b w g = ap (λ o. option_eq same_lease o (Some (Some b))) (slice_get-map (unleased (is_of_other b)) w.leases g) ∙ of_lease (slice_get w.leases g)
  where
    of_lease : (o : Option (Option ℕ)) → option_eq same_lease (option_map (unleased (is_of_other b)) o) (Some (Some b)) ≡ option_eq same_lease o (Some (Some b))
    of_lease None = refl
    of_lease (Some None) = refl
    of_lease (Some (Some c)) = elim (c == b) as (λ t. (c == b) ≡ t → same_lease (cond (not t) None (Some c)) (Some b) ≡ same_lease (Some c) (Some b)) [ true ↦ λ e. refl | false ↦ λ e. sym e ] refl
