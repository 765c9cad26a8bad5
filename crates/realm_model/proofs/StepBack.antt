-- Proofs that an accepted event meets the conditions of `is_allowed`, and that the new world is the result of the
-- updates of the event's command.
use Rattle.std.proofs.Common.{◌≡◌, ℕ, true, List, map, Some, Ok, Err, refl, sym, ap, ◌∙◌}
use Rattle.std.specs.Prelude.{nat_lt}
use Rattle.std.specs.List.{list_all}
use Rattle.std.proofs.lemmas.Bool.{and_parts}
use Rattle.realm_model.specs.declared.act.Act.{Act}
use Rattle.realm_model.specs.Machine.{Limits, seen}
use Rattle.realm_model.specs.Update.{Outcome, Update}
use Rattle.realm_model.specs.Act.{named, holder}
use Rattle.realm_model.specs.Outcome.{outcome_of, is_in_range, fits}
use Rattle.realm_model.specs.World.{World, is_leased_to, realm_of, updated_all}
use Rattle.realm_model.specs.Step.{step, after_outcome, is_allowed, used_vmids}
use Rattle.realm_model.specs.Undoing.{by}
use Rattle.realm_model.proofs.Booleans.{guarded}
use Rattle.realm_model.proofs.Outcomes.{Yields}

-- the conditions of `is_allowed` on an operation in a world, one field for each
pub record Asked (limits : Limits) (b : ℕ) (w : World) (act : Act) : Type 0 where
  pub below : nat_lt b limits.builds ≡ true
  pub leases : list_all (is_leased_to (holder b act) w.leases) (named act) ≡ true
  pub range : is_in_range act ≡ true
  pub fit : fits act (realm_of b w) (map (seen w.machine) (named act)) ≡ true

pub asked : (limits : Limits) (b : ℕ) (w v : World) (act : Act) → step limits w (by b act) ≡ Some v → Asked limits b w act
unfolding step
asked limits b w v act s =
    let outer = and_parts _ _ (guarded (is_allowed limits w (by b act)) _ v s).0 in
    let ranged = and_parts _ _ outer.0 in
    let first = and_parts _ _ ranged.0 in
    record { below = first.0; leases = first.1; range = ranged.1; fit = outer.1 }

-- if `P` holds of the updates in an operation's outcome, a step of the operation makes updates that satisfy `P`
pub done : (limits : Limits) (b : ℕ) (w v : World) (act : Act) (P : List Update → Type 0)
    → Yields P (outcome_of limits.vmids limits.aux (used_vmids w.machine) act (realm_of b w) (map (seen w.machine) (named act))) → step limits w (by b act) ≡ Some v
    → (us : List Update) × P us × (updated_all b us w ≡ Some v)
unfolding step
done limits b w v act P yields s =
    of_plan (outcome_of limits.vmids limits.aux (used_vmids w.machine) act (realm_of b w) (map (seen w.machine) (named act))) yields (guarded (is_allowed limits w (by b act)) _ v s).1
  where
    of_plan : (o : Outcome) → Yields P o → after_outcome b o w ≡ Some v → (us : List Update) × P us × (updated_all b us w ≡ Some v)
    of_plan (Ok us) yields e = (us, yields.where_ok us refl, e)
    of_plan (Err rmi) yields e = cc

-- if the outcome of an operation is a list of updates, a step with the operation makes these updates
pub planned : (limits : Limits) (b : ℕ) (w v : World) (act : Act) (us : List Update)
    → outcome_of limits.vmids limits.aux (used_vmids w.machine) act (realm_of b w) (map (seen w.machine) (named act)) ≡ Ok us → step limits w (by b act) ≡ Some v → updated_all b us w ≡ Some v
unfolding step
planned limits b w v act us e s = ap (λ o. after_outcome b o w) (sym e) ∙ (guarded (is_allowed limits w (by b act)) _ v s).1
