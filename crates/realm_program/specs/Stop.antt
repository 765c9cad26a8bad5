-- The exit status of `realmhost` for each outcome.
use Rattle.std.specs.Prelude.{◌≡◌, ◌⊎◌, ℕ, Result, Ok, Err}
use Rattle.command_line.specs.Stop.{status_of_stop}
use Rattle.command_line.specs.declared.stop.Stop.{Stop}
use Rattle.realm_program.specs.Fault.{status_of}
use Rattle.realm_program.specs.declared.fault.Fault.{Fault}

-- the exit status for an outcome: 0 for success, and otherwise the status of the reason why the program stopped
abbrev pub status_of_outcome : Result (Unit {0}) (Stop Fault) → ℕ
status_of_outcome (Ok _) = 0
status_of_outcome (Err stop) = status_of_stop status_of stop

-- the exit status is from 1 to 5, as it is if a program stops before its work is done
abbrev pub IsStatus : ℕ → Type 0
IsStatus status = (status ≡ 1) ⊎ (status ≡ 2) ⊎ (status ≡ 3) ⊎ (status ≡ 4) ⊎ (status ≡ 5)
