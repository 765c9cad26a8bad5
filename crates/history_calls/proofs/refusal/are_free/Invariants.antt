use Rattle.std.proofs.Common.{◌≡◌, ℕ, ◌+◌, ◌<◌, true}
use Rattle.host_ledger.specs.View.{world_of}
use Rattle.realm_host.specs.Readings.{row_of}
use Rattle.history_calls.specs.Refused.{end_in, is_free_row}
use Rattle.history_calls.proofs.refusal.are_free.Given as goal

abbrev pub invariant-loop-number : goal.invariant-loop-number
invariant-loop-number g l = (k : ℕ) → k < l.number → is_free_row (end_in (row_of (world_of l.host) l.build) (l.first + k) 3) ≡ true
