-- Proofs that consecutive numbers all pass a test if and only if the first passes and all numbers after it pass.
use Rattle.std.proofs.Common.{◌≡◌, ℕ, suc, ◌+◌, ◌-◌, ◌<◌, ◌≤◌, ◌&&◌, Bool, true, false, ap, ◌∙◌, arith}
use Rattle.rmm_model.specs.Command.RecCreate.{all_from}

module _ (test : ℕ → Bool) (count k : ℕ) where
  -- of the numbers below `count`, all from `k` on pass if and only if `k` and all numbers after `k` pass
  by_test : (is : Bool) → k < count → test k ≡ is → all_from test k (count - k) ≡ (is && all_from test (k + 1) (count - (k + 1)))
  unfolding all_from
  by_test is lt tested =
      let more : count - k ≡ suc (count - (k + 1)) = omega arith in
      ap (λ (n : ℕ). all_from test k n) more ∙ ap (λ (b : Bool). b && all_from test (k + 1) (count - (k + 1))) tested

  pub all_from-on : k < count → test k ≡ true → all_from test k (count - k) ≡ all_from test (k + 1) (count - (k + 1))
  all_from-on lt passes = by_test true lt passes

  pub all_from-not : k < count → test k ≡ false → all_from test k (count - k) ≡ false
  all_from-not lt fails = by_test false lt fails

  pub all_from-end : count ≤ k → all_from test k (count - k) ≡ true
  unfolding all_from
  all_from-end done =
      let none : count - k ≡ 0 = omega arith in
      ap (λ (n : ℕ). all_from test k n) none
