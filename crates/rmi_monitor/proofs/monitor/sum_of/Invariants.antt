use Rattle.std.proofs.Common.{◌≡◌, ◌≤◌, ◌+◌, ◌*◌, length, sum}
use Rattle.rmi_monitor.proofs.monitor.sum_of.Given as goal

abbrev pub invariant-loop-rest : goal.invariant-loop-rest
invariant-loop-rest l = record {
  summed : l.total + sum l.rest ≡ sum l.fn.page;
  -- the sum so far, with 256 more for each byte that is not yet added, is at most 2^20
  small : l.total + 256 * length l.rest ≤ 1048576;
}

abbrev pub decreases-loop-rest : goal.decreases-loop-rest
decreases-loop-rest l = length l.rest
