-- The exit status of `realmview` for each outcome, and the error of a subcommand for each reason why its input cannot
-- be read.
use Rattle.std.specs.Prelude.{ℕ, Result}
use Rattle.command_line.specs.Ended.{status_of_end}
use Rattle.command_line.specs.declared.ended.Ended.{Ended}
use Rattle.command_line.specs.declared.stop.Stop.{Stop}
use Rattle.checked_io.specs.declared.told.ReadError.{ReadError}
use Rattle.checked_io.specs.declared.told.ReadError.TheVariants as read_error
use Rattle.realm_program.specs.Fault as plan
use Rattle.view_program.specs.declared.checking.ViewOutcome.{ViewOutcome}
use Rattle.view_program.specs.declared.checking.ViewOutcome.TheVariants.{Done, HasErrors}
use Rattle.view_program.specs.declared.fault.ViewError.{ViewError}
use Rattle.view_program.specs.declared.fault.ViewError.TheVariants.{NoPlan, Plan, NoOpening, NoEvent, Refused, EraseNamesNoBuild, OrderOutsideLimits, Memory, Device}

abbrev pub view_status_of : ViewError → ℕ
view_status_of (NoPlan errors) = 1
view_status_of (Plan fault) = plan.status_of fault
view_status_of NoOpening = 1
view_status_of (NoEvent line) = 1
view_status_of (Refused line why words) = 1
view_status_of EraseNamesNoBuild = 2
view_status_of OrderOutsideLimits = 1
view_status_of Memory = 3
view_status_of Device = 5

abbrev pub view_fault_of_read : ReadError → ViewError
view_fault_of_read read_error.Memory = Memory
view_fault_of_read read_error.Device = Device

-- the exit status of a verdict: 1 if `check` has found errors, and otherwise 0
abbrev pub view_verdict_status : ViewOutcome → ℕ
view_verdict_status Done = 0
view_verdict_status HasErrors = 1

abbrev pub view_exit_status : Result (Ended ViewOutcome) (Stop ViewError) → ℕ
view_exit_status outcome = status_of_end view_verdict_status view_status_of outcome
