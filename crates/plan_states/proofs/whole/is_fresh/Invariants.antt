use Rattle.std.proofs.Common.{◌≡◌, ◌==◌, ℕ, ◌<◌, true}
use Rattle.plan_states.specs.Whole.{done_of}
use Rattle.plan_states.proofs.whole.is_fresh.Given as goal

abbrev pub invariant-loop-build : goal.invariant-loop-build
invariant-loop-build l = (build : ℕ) → build < l.build → (done_of l.done build == 0) ≡ true
