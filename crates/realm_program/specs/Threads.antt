-- The output text of a plan's run in threads, and the reasons why there may be none.
use Rattle.std.specs.Prelude.{ℕ, List}
use Rattle.realm_plan.specs.Plan.{Plan}
use Rattle.realm_program.specs.Order.{ScheduleIsNotRevealed}
use Rattle.realm_program.specs.Workers as threads
use Rattle.realm_program.specs.declared.run_fault.RunFault.TheVariants as why
use Rattle.realm_program.specs.Replay.{opening_host}
use Rattle.realm_program.specs.declared.fault.Fault.{Fault}
use Rattle.realm_program.specs.declared.fault.Fault.TheVariants.{Memory, Stuck, Mismatch}

-- The text is the output of some run of the plan by workers, on a machine of the plan's size. For each build, the gate
-- lets the turns of `passes` pass, and stops those of `stops`.
abbrev pub IsThreadsText : (ℕ → ℕ → Type 0) → (ℕ → ℕ → Type 0) → Plan → List ℕ → Type 0
IsThreadsText passes stops plan text = threads.IsWorkersText plan passes stops (opening_host plan) text

-- The fault is why a run by workers has no output text: allocation failed, the gate stopped a turn, or a seat or a
-- report does not match the history.
abbrev pub IsWithoutThreadsText : (ℕ → ℕ → Type 0) → (ℕ → ℕ → Type 0) → Plan → Fault → Type 0
IsWithoutThreadsText passes stops plan Memory = Unit {0}
IsWithoutThreadsText passes stops plan (Stuck build) = threads.IsWithoutWorkersText plan passes stops (opening_host plan) (why.Stuck build)
IsWithoutThreadsText passes stops plan Mismatch = threads.IsWithoutWorkersText plan passes stops (opening_host plan) why.Mismatch
IsWithoutThreadsText passes stops plan fault = ⊥

-- For no plan does the output reveal the sequence in which the builds took the lock.
abbrev pub ScheduleIsNotPrinted : (ℕ → ℕ → Type 0) → (ℕ → ℕ → Type 0) → Type 0
ScheduleIsNotPrinted passes stops = (plan : Plan) → ScheduleIsNotRevealed plan passes stops (opening_host plan)
