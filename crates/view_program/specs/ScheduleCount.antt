-- Definition of the number of schedules that have a given property.
use Rattle.std.specs.Prelude.{◌≡◌, ℕ, true, List, All, AllPairs, Contains, length}
use Rattle.plan_states.specs.Tallies.{is_before}

-- Exactly `count` schedules satisfy `like`: they are listed in lexicographic order, and none is missing.
pub record IsNumberOf (like : List ℕ → Type 0) (count : ℕ) : Type 0 where
  pub schedules : List (List ℕ)
  pub each : All like schedules
  pub rise : AllPairs (λ (one other : List ℕ). is_before one other ≡ true) schedules
  pub none_missing : (schedule : List ℕ) → like schedule → Contains schedules schedule
  pub so_many : length schedules ≡ count
