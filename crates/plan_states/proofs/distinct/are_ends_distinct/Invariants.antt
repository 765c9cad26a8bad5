use Rattle.std.proofs.Common.{ℕ, ◌<◌}
use Rattle.plan_states.specs.Distinct.{IsNewEnd}
use Rattle.plan_states.proofs.distinct.are_ends_distinct.Given as goal

abbrev pub invariant-loop-place : goal.invariant-loop-place
invariant-loop-place l = (place : ℕ) → place < l.place → IsNewEnd l.ends place
