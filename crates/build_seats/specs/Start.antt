-- The condition that a host has the same limits and history capacity as the host that was first put under the lock.
use Rattle.std.specs.Prelude.{◌≡◌}
use Rattle.host_ledger.specs.Booted.{booted}
use Rattle.host_ledger.specs.View.{HostView}

-- The host has the limits and the history capacity of the host `opened`.
pub record IsOfStart (opened host : HostView) : Type 0 where
  pub limits : host.limits ≡ opened.limits
  pub capacity : host.capacity ≡ opened.capacity

-- the view of a host without pages and builds: all its numbers are 0, and all its lists are empty
abbrev pub no_host : HostView
no_host = booted 0 0 0 0 0
