-- The valid ranges of a host's settings.
use Rattle.std.specs.Prelude.{ℕ, ◌≤◌}

pub record AreSettings (vmids aux history builds : ℕ) : Type 0 where
  pub some_vmid : 1 ≤ vmids
  pub few_auxiliaries : aux ≤ 16
  pub some_history : 16 ≤ history
  pub short_history : history ≤ 16384
  pub some_build : 1 ≤ builds
  pub few_builds : builds ≤ 8
