-- The exit status of `realmhost` for each fault, and the fault for each error of reading a plan.
use Rattle.std.specs.Prelude.{ℕ}
use Rattle.checked_io.specs.declared.told.ReadError.{ReadError}
use Rattle.checked_io.specs.declared.told.ReadError.TheVariants as read_error
use Rattle.realm_plan.specs.declared.fault.PlanError.{PlanError}
use Rattle.realm_plan.specs.declared.fault.PlanError.TheVariants as plan_error
use Rattle.realm_program.specs.declared.fault.Fault.{Fault}
use Rattle.realm_program.specs.declared.fault.Fault.TheVariants.{Plan, EraseNamesNoBuild, Memory, Stuck, Mismatch, Device}

abbrev pub status_of : Fault → ℕ
status_of (Plan fault) = 1
status_of EraseNamesNoBuild = 2
status_of Memory = 3
status_of (Stuck build) = 3
status_of Mismatch = 4
status_of Device = 5

abbrev pub fault_of_plan : PlanError → Fault
fault_of_plan plan_error.Memory = Memory
fault_of_plan (plan_error.Fault fault) = Plan fault

abbrev pub fault_of_read : ReadError → Fault
fault_of_read read_error.Memory = Memory
fault_of_read read_error.Device = Device
