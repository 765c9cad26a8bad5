-- A proof that the reason why a run in threads has no text is never a faulty plan, a failed read or a failed write.
use Rattle.std.proofs.Common.{ℕ}
use Rattle.realm_plan.specs.Plan.{Plan}
use Rattle.realm_program.specs.Printed.{IsFaultOfText}
use Rattle.realm_program.specs.declared.fault.Fault.{Fault}
use Rattle.realm_program.specs.declared.fault.Fault.TheVariants.{Plan as PlanIsFaulty, EraseNamesNoBuild, Memory, Stuck, Mismatch, Device}
use Rattle.realm_program.specs.Threads.{IsWithoutThreadsText}

pub threads_fault : (passes stops : ℕ → ℕ → Type 0) (plan : Plan) (fault : Fault) → IsWithoutThreadsText passes stops plan fault → IsFaultOfText fault
threads_fault passes stops plan (PlanIsFaulty fault) none = none
threads_fault passes stops plan EraseNamesNoBuild none = tt
threads_fault passes stops plan Memory none = tt
threads_fault passes stops plan (Stuck build) none = tt
threads_fault passes stops plan Mismatch none = tt
threads_fault passes stops plan Device none = none
