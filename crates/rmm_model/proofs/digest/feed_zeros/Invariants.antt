use Rattle.std.proofs.Common.{ℕ, List, ◌≡◌, ◌+◌, ◌-◌, ◌≤◌, ◌++◌}
use Rattle.rmm_model.specs.Bytes.{zeros}
use Rattle.rmm_model.proofs.digest.feed_zeros.Given as goal

abbrev pub invariant-zeros : goal.invariant-zeros
invariant-zeros g l = record {
  fed : (m : List ℕ) → g.D.Digest.holds l.fn.hasher m → g.D.Digest.holds l.hasher (m ++ zeros (l.count - l.left));
  within : l.left ≤ l.count;
}

abbrev pub decreases-zeros : goal.decreases-zeros
decreases-zeros g l = l.left
