-- The program's fault for each reason why a run in threads has no text.
use Rattle.realm_program.specs.declared.run_fault.RunFault.{RunFault}
use Rattle.realm_program.specs.declared.run_fault.RunFault.TheVariants as run_fault
use Rattle.realm_program.specs.declared.fault.Fault.{Fault}
use Rattle.realm_program.specs.declared.fault.Fault.TheVariants.{Memory, Stuck, Mismatch}

abbrev pub fault_of_run : RunFault → Fault
fault_of_run run_fault.Memory = Memory
fault_of_run (run_fault.Stuck build) = Stuck build
fault_of_run run_fault.Mismatch = Mismatch
