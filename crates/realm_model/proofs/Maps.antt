-- Lemmas on finite maps whose keys are numbers, or pairs of a level and an IPA granule.
use Rattle.std.proofs.Common.{◌≡◌, ℕ, true, false, cond, Some, Ordering, refl, sym, ap, ◌∙◌}
use Rattle.std.specs.Prelude.{option_map}
use Rattle.std.specs.declared.cmp.Ordering.TheVariants.{Less, Equal, Greater}
use Rattle.std.specs.Ordering.{nat_cmp, is_eq, eq_by_cmp, ordering_then}
use Rattle.std.specs.Cmp.{IsTotalOrder, nat_cmp_total, then_total, on_total}
use Rattle.std.specs.FinMap.{FinMap, IsAntisymmetric, nat_cmp-IsAntisymmetric, get, insert, get-insert, get_tied}
use Rattle.realm_model.specs.Rows.{place_cmp}

equal : (o : Ordering) → is_eq o ≡ true → o ≡ Equal
equal Less e = cc
equal Equal e = refl
equal Greater e = cc

pub nat_place : (q k : ℕ) → eq_by_cmp nat_cmp q k ≡ true → q ≡ k
nat_place q k e = nat_cmp-IsAntisymmetric q k (equal (nat_cmp q k) e)

pub place_total : IsTotalOrder place_cmp
place_total = then_total (on_total (λ p. p.0) nat_cmp_total) (on_total (λ p. p.1) nat_cmp_total)

both_equal : (a b : Ordering) → ordering_then a b ≡ Equal → (a ≡ Equal) × (b ≡ Equal)
both_equal Less b e = cc
both_equal Equal b e = (refl, e)
both_equal Greater b e = cc

pub place_cmp-IsAntisymmetric : IsAntisymmetric place_cmp
place_cmp-IsAntisymmetric x y e =
    let parts = both_equal (nat_cmp x.0 y.0) (nat_cmp x.1 y.1) e in
    let first : x.0 ≡ y.0 = nat_cmp-IsAntisymmetric x.0 y.0 parts.0 in
    let second : x.1 ≡ y.1 = nat_cmp-IsAntisymmetric x.1 y.1 parts.1 in
    λ i. (first i, second i)

pub same_place : (q k : ℕ × ℕ) → eq_by_cmp place_cmp q k ≡ true → q ≡ k
same_place q k e = place_cmp-IsAntisymmetric q k (equal (place_cmp q k) e)

module _ {K X Y : Type 0} {R : K → K → Ordering} (total : IsTotalOrder R) (f : X → Y) where
  -- if `m` and `n` agree up to `f`, and `m` has at `k` an `x` with `f x ≡ f y`, they still agree after `y` is inserted
  -- at `k` of `n`
  pub same_insert : (m n : FinMap R X) (k : K) (x y : X) → get m k ≡ Some x → f x ≡ f y → ((q : K) → option_map f (get m q) ≡ option_map f (get n q))
      → (q : K) → option_map f (get m q) ≡ option_map f (get (insert n k y) q)
  same_insert m n k x y there alike same q =
      elim (eq_by_cmp R q k) as (λ t. eq_by_cmp R q k ≡ t → option_map f (get m q) ≡ option_map f (cond t (Some y) (get n q))) [
        | true ↦ λ e. ap (option_map f) (sym (get_tied total m q k (equal (R q k) e)) ∙ there) ∙ ap Some alike
        | false ↦ λ e. same q
      ] refl ∙ sym (ap (option_map f) (get-insert total n k y q))
