use Rattle.std.proofs.Common.{◌≡◌, ℕ, ◌+◌, ◌<◌, true}
use Rattle.explain.specs.OfWalk.{is_free_entry}
use Rattle.explain.proofs.of_walk.are_free.Given as goal

abbrev pub invariant-loop-number : goal.invariant-loop-number
invariant-loop-number g l = (k : ℕ) → k < l.number → is_free_entry l.host l.build (l.ipa + k) ≡ true
