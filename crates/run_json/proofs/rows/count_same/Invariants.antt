use Rattle.std.proofs.Common.{◌≡◌, ℕ, ◌-◌, ◌<◌}
use Rattle.std.specs.Prelude.{◌^◌}
use Rattle.host_ledger.specs.View.{world_of}
use Rattle.run_json.specs.Rows.{first_after, RunGoesOn}
use Rattle.run_json.proofs.rows.count_same.Given as goal

abbrev pub invariant-loop-after : goal.invariant-loop-after
invariant-loop-after g l = record {
  some : 0 < l.count;
  next : l.next ≡ first_after l.row l.count;
  same : (k : ℕ) → 0 < k → k < l.count → RunGoesOn (world_of l.host) l.build l.row (first_after l.row k);
}

abbrev pub decreases-loop-after : goal.decreases-loop-after
decreases-loop-after g l = 2 ^ 32 - l.next
