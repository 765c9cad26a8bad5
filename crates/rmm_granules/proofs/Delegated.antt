-- Proofs that `are_delegated` holds of adjacent granules if and only if the first is DELEGATED and `are_delegated`
-- holds of the others.
use Rattle.std.proofs.Common.{◌≡◌, ℕ, suc, ◌+◌, ◌-◌, ◌<◌, ◌≤◌, ◌&&◌, Bool, true, false, ap, ◌∙◌, arith}
use Rattle.rmm_model.specs.Granule.{is_delegated}
use Rattle.rmm_model.specs.Machine.{Machine, granule_at}
use Rattle.rmm_model.specs.Command.RealmCreate.{are_delegated}

module _ (m : Machine) (first count k : ℕ) where
  -- if granule `first + k` is DELEGATED, `are_delegated` from there on is the same as `are_delegated` from the next
  -- granule on
  pub are_delegated-on : k < count → is_delegated (granule_at m (first + k)).state ≡ true → are_delegated m (first + k) (count - k) ≡ are_delegated m (first + (k + 1)) (count - (k + 1))
  unfolding are_delegated
  are_delegated-on lt is =
      let more : count - k ≡ suc (count - (k + 1)) = omega arith in
      let next : first + k + 1 ≡ first + (k + 1) = omega arith in
      ap (λ (n : ℕ). are_delegated m (first + k) n) more
      ∙ ap (λ (b : Bool). b && are_delegated m (first + k + 1) (count - (k + 1))) is
      ∙ ap (λ (i : ℕ). are_delegated m i (count - (k + 1))) next

  -- if granule `first + k` is not DELEGATED, `are_delegated` does not hold from there on
  pub are_delegated-not : k < count → is_delegated (granule_at m (first + k)).state ≡ false → are_delegated m (first + k) (count - k) ≡ false
  unfolding are_delegated
  are_delegated-not lt is =
      let more : count - k ≡ suc (count - (k + 1)) = omega arith in
      ap (λ (n : ℕ). are_delegated m (first + k) n) more ∙ ap (λ (b : Bool). b && are_delegated m (first + k + 1) (count - (k + 1))) is

  pub are_delegated-end : count ≤ k → are_delegated m (first + k) (count - k) ≡ true
  unfolding are_delegated
  are_delegated-end done =
      let none : count - k ≡ 0 = omega arith in
      ap (λ (n : ℕ). are_delegated m (first + k) n) none
