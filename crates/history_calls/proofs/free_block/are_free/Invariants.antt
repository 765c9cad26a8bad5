use Rattle.std.proofs.Common.{◌≡◌, ℕ, ◌+◌, ◌<◌, true, None}
use Rattle.realm_model.specs.World.{is_leased_to}
use Rattle.host_ledger.specs.View.{world_of}
use Rattle.history_calls.proofs.free_block.are_free.Given as goal

abbrev pub invariant-loop-number : goal.invariant-loop-number
invariant-loop-number g l = (k : ℕ) → k < l.number → is_leased_to None (world_of l.host).leases (l.first + k) ≡ true
