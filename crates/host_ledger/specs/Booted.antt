-- The view of a host that has just been booted, with an empty history.
use Rattle.std.specs.Prelude.{ℕ, [], replicate, false, None}
use Rattle.host_ledger.specs.View.{HostView}

-- a host that has just been booted: its history is empty, no build is in abort, and none has a mark
abbrev pub booted : ℕ → ℕ → ℕ → ℕ → ℕ → HostView
booted pages vmids aux builds capacity = record {
  limits = record { pages = pages; vmids = vmids; aux = aux; builds = builds };
  capacity = capacity;
  history = [];
  aborting = replicate builds false;
  marks = replicate builds None;
}
