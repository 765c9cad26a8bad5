-- The answer to a call that has its own list of checks: the first refusal whose condition holds, or else the result.
use Rattle.std.specs.Prelude.{◌≡◌, ℕ, nat_lt, List, Result, Ok, Err, Some, None}
use Rattle.host_commands.specs.declared.refusal.Refusal.{Refusal}
use Rattle.host_commands.specs.declared.refusal.Refusal.TheVariants.{RecRunning}
use Rattle.host_commands.specs.Checks.{Check, first_that_holds}
use Rattle.realm_model.specs.Running.{running_count}
use Rattle.realm_model.specs.World.{realm_of}
use Rattle.host_ledger.specs.View.{HostView, world_of}

-- refusal 8 of an abort, given if a REC of the build runs
abbrev pub any_rec_running : HostView → ℕ → Check
any_rec_running host build = (nat_lt 0 (running_count (realm_of build (world_of host))), RecRunning)

-- A call gets the first refusal whose condition holds, and nothing changes; if no condition holds, `IsDone` holds of
-- the returned value and the new host.
abbrev pub IsServed : {A : Type 0} → List Check → HostView → (A → HostView → Type 0) → Result A Refusal → HostView → Type 0
IsServed checks host IsDone (Err refusal) new = (first_that_holds checks ≡ Some refusal) × (new ≡ host)
IsServed checks host IsDone (Ok value) new = (first_that_holds checks ≡ None) × IsDone value new
