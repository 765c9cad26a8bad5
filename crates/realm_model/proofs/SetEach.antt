-- Lemmas on the length of a list, and on its element at each index, after the same element is written at several
-- indexes.
use Rattle.std.proofs.Common.{◌≡◌, ℕ, zero, suc, ◌<◌, true, false, cond, List, [], ◌∷◌, length, set, get_or, Some, refl, sym, ap, ◌∙◌, subst}
use Rattle.std.specs.Prelude.{slice_get, ◌==◌}
use Rattle.std.proofs.lemmas.Bool.{eqb-true, eqb-false}
use Rattle.std.proofs.lemmas.Option.{slice_get-get_or}
use Rattle.std.proofs.lemmas.List.{length-set, get_or-set_other}
use Rattle.realm_model.specs.StepLaw.{set_each}
use Rattle.realm_model.specs.Command.Check.{is_in}
use Rattle.realm_model.proofs.Lists.{slice_get-set, is_in_head, is_in_more}
use Rattle.realm_model.proofs.Booleans.{cond_or}

module _ {X : Type 0} (x : X) where
  pub length-set_each : (places : List ℕ) (xs : List X) → length (set_each x places xs) ≡ length xs
  unfolding set_each
  length-set_each [] xs = refl
  length-set_each (p ∷ places) xs = length-set_each places (set xs p x) ∙ length-set xs p x

  pub slice_get-set_each : (places : List ℕ) (xs : List X) (k : ℕ) → ((p : ℕ) → is_in p places ≡ true → p < length xs)
      → slice_get (set_each x places xs) k ≡ cond (is_in k places) (Some x) (slice_get xs k)
  unfolding set_each
  slice_get-set_each [] xs k inside = refl
  slice_get-set_each (p ∷ places) xs k inside =
      slice_get-set_each places (set xs p x) k (λ q e. subst (λ n. q < n) (sym (length-set xs p x)) (inside q (is_in_more q p places e)))
      ∙ ap (cond (is_in k places) (Some x)) (slice_get-set xs p k x (get_or xs p x) (slice_get-get_or xs p x (inside p (is_in_head p places))))
      ∙ cond_or (k == p) (is_in k places) (Some x) (slice_get xs k)

  -- after `set_each`, each given index has the element `x`, and any other index its old element; an index past the end
  -- counts as having `x`
  pub get_or-set_each : (places : List ℕ) (xs : List X) (k : ℕ) → get_or (set_each x places xs) k x ≡ cond (is_in k places) x (get_or xs k x)
  unfolding set_each
  get_or-set_each [] xs k = refl
  get_or-set_each (p ∷ places) xs k =
      get_or-set_each places (set xs p x) k
      ∙ ap (cond (is_in k places) x) (one xs p k)
      ∙ cond_or (k == p) (is_in k places) x (get_or xs k x)
    where
      here : (xs : List X) (p : ℕ) → get_or (set xs p x) p x ≡ x
      here [] p = refl
      here (y ∷ xs) zero = refl
      here (y ∷ xs) (suc p) = here xs p

      one : (xs : List X) (p k : ℕ) → get_or (set xs p x) k x ≡ cond (k == p) x (get_or xs k x)
      one xs p k = elim (k == p) as (λ t. (k == p) ≡ t → get_or (set xs p x) k x ≡ cond t x (get_or xs k x)) [
        | true ↦ λ e. ap (λ j. get_or (set xs p x) j x) (eqb-true k p e) ∙ here xs p
        | false ↦ λ e. get_or-set_other xs p k x x (eqb-false k p e)
      ] refl
