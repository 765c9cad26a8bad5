use Rattle.std.proofs.Common.{◌≡◌, ℕ, ◌+◌, ◌<◌, Some, true}
use Rattle.realm_model.specs.World.{is_leased_to}
use Rattle.host_ledger.specs.View.{world_of}
use Rattle.realm_host.proofs.host.Host.leases_tables.Given as goal

abbrev pub invariant-loop-number : goal.invariant-loop-number
invariant-loop-number g l =
    (number : ℕ) → number < l.number → is_leased_to (Some l.build) (world_of l.self).leases (l.fn.root.first + number) ≡ true
