use Rattle.std.proofs.Common.{◌≡◌, ℕ, ◌+◌, ◌<◌, false}
use Rattle.host_ledger.specs.View.{world_of}
use Rattle.realm_host.specs.Refusals.{is_free_block}
use Rattle.history_calls.proofs.free_block.has_block.Given as goal

abbrev pub invariant-loop-first : goal.invariant-loop-first
invariant-loop-first g l = (k : ℕ) → k < l.first → is_free_block (world_of l.host) l.order (0 + k) ≡ false
