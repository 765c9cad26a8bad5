-- Proofs that one of several adjacent tables has a live entry if and only if the first table has one, or a table after
-- it has one.
use Rattle.std.proofs.Common.{◌≡◌, ℕ, suc, ◌+◌, ◌-◌, ◌<◌, ◌≤◌, ◌||◌, Bool, true, false, ap, ◌∙◌, arith}
use Rattle.rmm_model.specs.Machine.{Machine, page_in}
use Rattle.rmm_model.specs.Table.{has_live}
use Rattle.rmm_model.specs.Command.RealmDestroy.{has_live_table}

module _ (m : Machine) (first count k : ℕ) where
  -- `has_live_table` holds from table `first + k` on if and only if that table has a live entry, or `has_live_table`
  -- holds from the next table on
  by_table : (is : Bool) → k < count → has_live (page_in m (first + k)) ≡ is → has_live_table m (first + k) (count - k) ≡ (is || has_live_table m (first + (k + 1)) (count - (k + 1)))
  unfolding has_live_table
  by_table is lt tested =
      let more : count - k ≡ suc (count - (k + 1)) = omega arith in
      let next : first + k + 1 ≡ first + (k + 1) = omega arith in
      ap (λ (n : ℕ). has_live_table m (first + k) n) more
      ∙ ap (λ (b : Bool). b || has_live_table m (first + k + 1) (count - (k + 1))) tested
      ∙ ap (λ (i : ℕ). is || has_live_table m i (count - (k + 1))) next

  pub has_live_table-on : k < count → has_live (page_in m (first + k)) ≡ false → has_live_table m (first + k) (count - k) ≡ has_live_table m (first + (k + 1)) (count - (k + 1))
  has_live_table-on lt dead = by_table false lt dead

  pub has_live_table-here : k < count → has_live (page_in m (first + k)) ≡ true → has_live_table m (first + k) (count - k) ≡ true
  has_live_table-here lt live = by_table true lt live

  pub has_live_table-end : count ≤ k → has_live_table m (first + k) (count - k) ≡ false
  unfolding has_live_table
  has_live_table-end done =
      let none : count - k ≡ 0 = omega arith in
      ap (λ (n : ℕ). has_live_table m (first + k) n) none
