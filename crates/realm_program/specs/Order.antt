-- The statement that two runs of a plan in threads have the same text if each worker's seat, steps and report are the
-- same after both. The builds may have taken the lock in different sequences.
use Rattle.std.specs.Prelude.{◌≡◌, ℕ, List}
use Rattle.host_ledger.specs.View.{HostView}
use Rattle.plan_replay.specs.Run.{map_text}
use Rattle.realm_plan.specs.Plan.{Plan}
use Rattle.realm_program.specs.Workers.{worker_seats, IsWorkersText}

-- Two runs of the plan that leave the builds with the same seats have the same map. Two runs that leave the same
-- workers have the same text.
abbrev pub ScheduleIsNotRevealed : Plan → (ℕ → ℕ → Type 0) → (ℕ → ℕ → Type 0) → HostView → Type 0
ScheduleIsNotRevealed plan passes stops opened =
    (text other : List ℕ) (run : IsWorkersText plan passes stops opened text) (again : IsWorkersText plan passes stops opened other)
    → (worker_seats again.workers ≡ worker_seats run.workers → map_text again.host ≡ map_text run.host)
    × (again.workers ≡ run.workers → other ≡ text)
