-- Proofs that each VMID in use belongs to a realm, and that an accepted command is also accepted if only some of these
-- VMIDs are in use.
use Rattle.std.proofs.Common.{◌≡◌, ℕ, zero, suc, Bool, true, false, cond, ◌||◌, not, List, [], ◌∷◌, Option, Some, None, Ok, refl, sym, ap, ◌∙◌}
use Rattle.std.specs.Prelude.{◌==◌, option_map}
use Rattle.std.specs.List.{cons_option}
use Rattle.std.proofs.lemmas.Bool.{and_parts, and_from, eqb-true}
use Rattle.realm_model.specs.declared.act.Act.{Act}
use Rattle.realm_model.specs.declared.act.Act.TheVariants.{Realm}
use Rattle.realm_model.specs.Machine.{Limits, RealmRow, Machine, Seen, blank, cell_at}
use Rattle.realm_model.specs.Update.{Update}
use Rattle.realm_model.specs.Outcome.{outcome_of}
use Rattle.realm_model.specs.World.{each, hidden}
use Rattle.realm_model.specs.Step.{used_vmids}
use Rattle.realm_model.proofs.Booleans.{false_from, not_true, true_false}
use Rattle.realm_model.specs.Command.Check.{is_in}
use Rattle.realm_model.proofs.Lists.{is_in_head, is_in_more}
use Rattle.realm_model.proofs.Outcomes.{Yields-Ok, Yields-check, check_true}

-- the list of VMIDs, with the realm's VMID in front if there is a realm
abbrev with_vmid : Option RealmRow → List ℕ → List ℕ
with_vmid o used = cons_option (option_map (λ (r : RealmRow). r.vmid) o) used

-- the VMID of each realm is in use
pub used_at : (machine : Machine) (k : ℕ) (d : RealmRow) → (cell_at machine k).descriptor ≡ Some d → is_in d.vmid (used_vmids machine) ≡ true
used_at [] k d is = cc
used_at (c ∷ machine) zero d is = ap (λ o. is_in d.vmid (with_vmid o (used_vmids machine))) is ∙ is_in_head d.vmid (used_vmids machine)
used_at (c ∷ machine) (suc k) d is = of_row c.descriptor (used_at machine k d is)
  where
    of_row : (o : Option RealmRow) → is_in d.vmid (used_vmids machine) ≡ true → is_in d.vmid (with_vmid o (used_vmids machine)) ≡ true
    of_row None rest = rest
    of_row (Some r) rest = is_in_more d.vmid r.vmid (used_vmids machine) rest

-- a realm of the machine has the VMID
pub record HasUser (v : ℕ) (machine : Machine) : Type 0 where
  pub at : ℕ
  pub realm : RealmRow
  pub there : (cell_at machine at).descriptor ≡ Some realm
  pub same : realm.vmid ≡ v

-- each VMID in use is that of a realm
pub used_by : (v : ℕ) (machine : Machine) → is_in v (used_vmids machine) ≡ true → HasUser v machine
used_by v [] e = cc
used_by v (c ∷ machine) e = of_row c.descriptor refl (used_by v machine) e
  where
    later : HasUser v machine → HasUser v (c ∷ machine)
    later user = record { at = suc user.at; realm = user.realm; there = user.there; same = user.same }

    of_row : (o : Option RealmRow) → c.descriptor ≡ o → (is_in v (used_vmids machine) ≡ true → HasUser v machine) → is_in v (with_vmid o (used_vmids machine)) ≡ true → HasUser v (c ∷ machine)
    of_row None is rest e = later (rest e)
    of_row (Some d) is rest e = elim (v == d.vmid) as (λ t. (v == d.vmid) ≡ t → (t || is_in v (used_vmids machine)) ≡ true → HasUser v (c ∷ machine)) [
      | true ↦ λ same e. record { at = 0; realm = d; there = is; same = sym (eqb-true v d.vmid same) }
      | false ↦ λ other e. later (rest e)
    ] refl e

-- a realm that remains when some builds are hidden is at the same granule when none is hidden
row_shown : (p : Option ℕ → Bool) (leases : List (Option ℕ)) (machine : Machine) (k : ℕ) (d : RealmRow) → (cell_at (each (hidden p) leases machine) k).descriptor ≡ Some d
    → (cell_at machine k).descriptor ≡ Some d
row_shown p [] machine k d is = cc
row_shown p (l ∷ leases) [] k d is = cc
row_shown p (l ∷ leases) (c ∷ machine) zero d is = elim (p l) as (λ t. (cond t blank c).descriptor ≡ Some d → c.descriptor ≡ Some d) [ true ↦ λ is. cc | false ↦ λ is. is ] is
row_shown p (l ∷ leases) (c ∷ machine) (suc k) d is = row_shown p leases machine k d is

-- a VMID that is in use when some builds are hidden is also in use when none is hidden
pub used-hidden : (p : Option ℕ → Bool) (leases : List (Option ℕ)) (machine : Machine) (v : ℕ) → is_in v (used_vmids (each (hidden p) leases machine)) ≡ true → is_in v (used_vmids machine) ≡ true
used-hidden p leases machine v e =
    let user = used_by v (each (hidden p) leases machine) e in
    ap (λ n. is_in n (used_vmids machine)) (sym user.same) ∙ used_at machine user.at user.realm (row_shown p leases machine user.at user.realm user.there)

-- a command that is accepted has the same updates if only some of the VMIDs are in use
pub outcome_of-fewer : (limits : Limits) (used fewer : List ℕ) → ((v : ℕ) → is_in v fewer ≡ true → is_in v used ≡ true) → (act : Act) (realm : Option Seen) (gs : List Seen) (us : List Update)
    → outcome_of limits.vmids limits.aux used act realm gs ≡ Ok us → outcome_of limits.vmids limits.aux fewer act realm gs ≡ Ok us
unfolding outcome_of
outcome_of-fewer limits used fewer less (Realm rd root v) realm [] us e = e
outcome_of-fewer limits used fewer less (Realm rd root v) realm (g ∷ gs) us e =
    (Yields-check (λ us. outcome_of limits.vmids limits.aux fewer (Realm rd root v) realm (g ∷ gs) ≡ Ok us) _ _ _ (λ all.
    let parts = and_parts _ _ all in
    let free : is_in v fewer ≡ false = false_from (is_in v fewer) (λ i. true_false _ (less v i) (not_true _ parts.1)) in
    Yields-Ok _ _ (check_true _ _ _ (and_from _ _ parts.0 (ap not free))))).where_ok us e
outcome_of-fewer limits used fewer less act realm gs us e = e
