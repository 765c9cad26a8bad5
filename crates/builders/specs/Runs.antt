-- The conditions that all workers have run, and that a build has the lowest number of those whose workers have not
-- ended.
use Rattle.std.specs.Prelude.{◌≡◌, ℕ, ◌≤◌, false, List, All, Any}
use Rattle.std.specs.List.{AllZip}
use Rattle.host_ledger.specs.View.{HostView}
use Rattle.builders.specs.Workers.{WorkerView, IsWorkerRun}

-- Each worker of `new` is the worker of `old` at the same index, after its run. The builds were started with the host
-- `opened`. For each build, the gate lets the turns of `passes` pass, and stops those of `stops`.
unfoldable pub AreRun : HostView → (ℕ → ℕ → Type 0) → (ℕ → ℕ → Type 0) → List WorkerView → List WorkerView → Type 0
AreRun opened passes stops old new = AllZip (λ before after. IsWorkerRun opened (passes before.seat.build) (stops before.seat.build) before after) old new

-- the build has the lowest number of those whose workers have not ended
pub record IsLowestWaiting (workers : List WorkerView) (build : ℕ) : Type 0 where
  pub waits : Any (λ worker. (worker.ended ≡ false) × (worker.seat.build ≡ build)) workers
  pub lowest : All (λ worker. worker.ended ≡ false → build ≤ worker.seat.build) workers
