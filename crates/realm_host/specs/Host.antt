-- A host that has just been booted, and the invariant of a host.
use Rattle.std.specs.Prelude.{ℕ, ◌≤◌}
use Rattle.realm_model.specs.Machine.{Limits}
use Rattle.rmi_monitor.specs.View.{MonitorView}
use Rattle.rmi_monitor.specs.Mirror.{IsMirror}
use Rattle.host_ledger.specs.View.{HostView, world_of}
use Rattle.host_ledger.specs.Booted.{booted}
use Rattle.realm_host.specs.Settings.{AreSettings}
use Rattle.realm_host.specs.declared.settings.Settings.{Settings}

-- a host that has just been booted with the given settings and `pages` granules
abbrev pub booted_by : Settings → ℕ → HostView
booted_by settings pages = booted pages settings.vmids settings.aux settings.builds settings.history

-- The numbers in a host's settings and its number of granules are in their ranges.
pub record IsInRange (limits : Limits) (capacity : ℕ) : Type 0 where
  pub settings : AreSettings limits.vmids limits.aux capacity limits.builds
  pub few_vmids : limits.vmids ≤ 255
  pub some_page : 1 ≤ limits.pages
  pub few_pages : limits.pages ≤ 4096

-- The RMM of a host has the machine that the history leads to, and a granule is free exactly when no build leases it.
-- The numbers of the host are in their ranges.
pub record IsWhole (host : HostView) (monitor : MonitorView) : Type 0 where
  pub mirror : IsMirror host.limits host.history (world_of host) monitor
  pub in_range : IsInRange host.limits host.capacity
