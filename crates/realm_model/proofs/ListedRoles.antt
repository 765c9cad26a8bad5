-- Lemmas about the roles of listed granules (starting tables, or a REC's auxiliary granules): a granule has such a role
-- if and only if it is in the list.
use Rattle.std.proofs.Common.{◌≡◌, ℕ, zero, suc, ◌+◌, true, false, cond, ◌||◌, List, [], ◌∷◌, Option, Some, None, refl, sym, ap, ◌∙◌, arith}
use Rattle.std.specs.Prelude.{◌==◌, option_map, slice_get}
use Rattle.std.proofs.lemmas.Bool.{eq-eqb, ne_eqb}
use Rattle.std.proofs.lemmas.Option.{same_Some}
use Rattle.realm_model.specs.declared.states.GranuleState.{GranuleState}
use Rattle.realm_model.specs.Roles.{Role}
use Rattle.realm_model.proofs.Booleans.{true_false}
use Rattle.realm_model.specs.Command.Check.{is_in}
use Rattle.realm_model.proofs.Lists.{is_in_at, AllDistinct}

module _ (role : ℕ → Role) where
  -- the role of granule `k` by its index in a list, or None if it is not in the list; the first element has index `i`
  abbrev role_from : ℕ → List ℕ → ℕ → Option Role
  role_from i [] k = None
  role_from i (x ∷ xs) k = cond (k == x) (Some (role i)) (role_from (suc i) xs k)

  abbrev pub listed_role : List ℕ → ℕ → Option Role
  listed_role gs k = role_from 0 gs k

  from_in : (i : ℕ) (gs : List ℕ) (k : ℕ) (q : Role) → role_from i gs k ≡ Some q → is_in k gs ≡ true
  from_in i [] k q h = cc
  from_in i (g ∷ gs) k q h = elim (k == g) as (λ t. cond t (Some (role i)) (role_from (suc i) gs k) ≡ Some q → (t || is_in k gs) ≡ true) [ true ↦ λ h. refl | false ↦ λ h. from_in (suc i) gs k q h ] h

  from_out : (i : ℕ) (gs : List ℕ) (k : ℕ) → role_from i gs k ≡ None → is_in k gs ≡ false
  from_out i [] k h = refl
  from_out i (g ∷ gs) k h = elim (k == g) as (λ t. cond t (Some (role i)) (role_from (suc i) gs k) ≡ None → (t || is_in k gs) ≡ false) [ true ↦ λ h. cc | false ↦ λ h. from_out (suc i) gs k h ] h

  from_at : (j : ℕ) (gs : List ℕ) (i k : ℕ) → AllDistinct gs → slice_get gs i ≡ Some k → role_from j gs k ≡ Some (role (j + i))
  from_at j [] i k different h = cc
  from_at j (g ∷ gs) zero k different h = ap (λ t. cond t (Some (role j)) (role_from (suc j) gs k)) (eq-eqb k g (sym (same_Some _ _ h))) ∙ ap (λ x. Some (role x)) (plus_zero j)
    where
      plus_zero : (j : ℕ) → j ≡ j + 0
      plus_zero j = omega arith
  from_at j (g ∷ gs) (suc i) k different h =
      let other : (k == g) ≡ false = ne_eqb k g (λ e. true_false _ (is_in_at gs i g (h ∙ ap Some e)) different.0) in
      ap (λ t. cond t (Some (role j)) (role_from (suc j) gs k)) other ∙ from_at (suc j) gs i k different.1 h ∙ ap (λ x. Some (role x)) (plus_suc j i)
    where
      plus_suc : (j i : ℕ) → suc j + i ≡ j + suc i
      plus_suc j i = omega arith

  pub listed_in : (gs : List ℕ) (k : ℕ) (q : Role) → listed_role gs k ≡ Some q → is_in k gs ≡ true
  listed_in = from_in 0

  pub listed_out : (gs : List ℕ) (k : ℕ) → listed_role gs k ≡ None → is_in k gs ≡ false
  listed_out = from_out 0

  pub listed_at : (gs : List ℕ) (i k : ℕ) → AllDistinct gs → slice_get gs i ≡ Some k → listed_role gs k ≡ Some (role i)
  listed_at gs i k different h = from_at 0 gs i k different h ∙ ap (λ x. Some (role x)) (zero_plus i)
    where
      zero_plus : (i : ℕ) → 0 + i ≡ i
      zero_plus i = omega arith

-- if `to` pairs the element at index `i` of a list with the state `s`, the element is `to.0`, and `s` is `to.1`
pub listed_target : (s : GranuleState) (gs : List ℕ) (i : ℕ) (to : ℕ × GranuleState) → option_map (λ g. (g, s)) (slice_get gs i) ≡ Some to → (slice_get gs i ≡ Some to.0) × (s ≡ to.1)
listed_target s gs i to h = of_place (slice_get gs i) h
  where
    of_place : (o : Option ℕ) → option_map (λ g. (g, s)) o ≡ Some to → (o ≡ Some to.0) × (s ≡ to.1)
    of_place None h = cc
    of_place (Some a) h = (ap (λ (t : ℕ × GranuleState). Some t.0) (same_Some _ _ h), ap (λ (t : ℕ × GranuleState). t.1) (same_Some _ _ h))
