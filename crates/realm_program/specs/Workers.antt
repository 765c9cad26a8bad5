-- The runs of a plan by workers in threads, and the output text of a run or the reason why it has none.
use Rattle.std.specs.Prelude.{◌≡◌, ◌⊎◌, ℕ, true, false, List, [], ◌++◌, map, length, All}
use Rattle.std.specs.Global.{Vec}
use Rattle.std.specs.List.{AllZip, flat_map, range_with_len}
use Rattle.host_ledger.specs.View.{HostView}
use Rattle.host_commands.specs.declared.cmd.Step.{Step}
use Rattle.build_seats.specs.Close.{IsClosed, IsHostGivenBack}
use Rattle.build_seats.specs.Fault.{IsFault}
use Rattle.builders.specs.Runs.{AreRun, IsLowestWaiting}
use Rattle.build_seats.specs.Seats.{SeatView, new_seat}
use Rattle.builders.specs.Workers.{WorkerView}
use Rattle.build_seats.specs.declared.close.CloseFault.{CloseFault}
use Rattle.realm_program.specs.Report.{report_text}
use Rattle.plan_replay.specs.Run.{map_text}
use Rattle.realm_plan.specs.Asked.{asked}
use Rattle.realm_model.specs.declared.act.Event.{Event}
use Rattle.realm_plan.specs.Plan.{Plan}
use Rattle.realm_program.specs.Fitting.{DoesFit}
use Rattle.build_seats.specs.declared.report.Report.{Report}
use Rattle.realm_program.specs.Text.{steps_of_build, audit_line}
use Rattle.realm_program.specs.declared.run_fault.RunFault.{RunFault}
use Rattle.realm_program.specs.declared.run_fault.RunFault.TheVariants.{Memory, Stuck, Mismatch}

-- ---- workers

-- the worker of a build before its first step
abbrev pub new_worker : Plan → ℕ → WorkerView
new_worker plan build = record { seat = new_seat build; steps = map asked (steps_of_build plan build); lines = []; ended = false }

-- a new worker for each build of the plan
abbrev pub new_workers : Plan → List WorkerView
new_workers plan = map (new_worker plan) (range_with_len 0 (length plan.builds))

abbrev pub worker_seats : List WorkerView → List SeatView
worker_seats workers = map (λ worker. worker.seat) workers

-- the report is that of the worker, and the steps paired with the report are the worker's steps
abbrev pub IsReportOf : WorkerView → Report × Vec Step → Type 0
IsReportOf worker (report, asks) = (report.build ≡ worker.seat.build) × (report.lines.items ≡ worker.lines) × (asks.items ≡ worker.steps)

-- ---- runs

-- The workers of the plan's builds, started with the host `opened`, have run and ended, and `host` is the host
-- afterwards. For each build, the gate lets the turns of `passes` pass, and stops those of `stops`.
pub record IsEndedRun (plan : Plan) (passes stops : ℕ → ℕ → Type 0) (opened host : HostView) (workers : List WorkerView) : Type 0 where
  pub run : AreRun opened passes stops (new_workers plan) workers
  pub ended : All (λ worker. worker.ended ≡ true) workers
  pub given_back : IsHostGivenBack opened host (worker_seats workers)

-- The workers of the plan's builds have run and ended, and have left these seats and these reports.
pub record AreLeft (plan : Plan) (passes stops : ℕ → ℕ → Type 0) (opened : HostView) (seats : List SeatView) (reports : List (Report × Vec Step)) : Type 0 where
  pub workers : List WorkerView
  pub run : AreRun opened passes stops (new_workers plan) workers
  pub ended : All (λ worker. worker.ended ≡ true) workers
  pub seats_are : seats ≡ worker_seats workers
  pub reports_are : AllZip IsReportOf workers reports

-- the lines of the worker's report match its build's events in the history
abbrev pub WorkerFits : List Event → WorkerView → Type 0
WorkerFits history worker = DoesFit worker.seat.build worker.steps worker.lines history

-- ---- the text

-- the text of a worker's report
abbrev pub worker_text : Plan → WorkerView → List ℕ
worker_text plan worker = report_text worker.seat.build (steps_of_build plan worker.seat.build) worker.lines

-- The text is that of some run in which all workers have ended, with seats and reports that match the history. Each
-- build has one seat, with the build's events of the history. The text is the lines of the reports by build, the map of
-- the history, and the line of the audit.
pub record IsWorkersText (plan : Plan) (passes stops : ℕ → ℕ → Type 0) (opened : HostView) (text : List ℕ) : Type 0 where
  pub host : HostView
  pub workers : List WorkerView
  pub is_run : IsEndedRun plan passes stops opened host workers
  pub closed : IsClosed host (worker_seats workers)
  pub fit : All (WorkerFits host.history) workers
  pub whole : text ≡ flat_map (worker_text plan) workers ++ (map_text host ++ audit_line)

-- ---- the reasons why there is no text

-- After some run, this build has the lowest number of those whose workers have not ended. That worker waits in vain for
-- its next turn, which the gate stops.
pub record IsStuck (plan : Plan) (passes stops : ℕ → ℕ → Type 0) (opened : HostView) (build : ℕ) : Type 0 where
  pub workers : List WorkerView
  pub run : AreRun opened passes stops (new_workers plan) workers
  pub waits : IsLowestWaiting workers build

-- Some run has ended with a seat whose events are not its build's events in the history, or with a report that does not
-- match the history.
pub record IsMismatch (plan : Plan) (passes stops : ℕ → ℕ → Type 0) (opened : HostView) : Type 0 where
  pub host : HostView
  pub workers : List WorkerView
  pub is_run : IsEndedRun plan passes stops opened host workers
  pub differs : ((fault : CloseFault) × IsFault fault host (worker_seats workers)) ⊎ ¬ (All (WorkerFits host.history) workers)

abbrev pub IsWithoutWorkersText : Plan → (ℕ → ℕ → Type 0) → (ℕ → ℕ → Type 0) → HostView → RunFault → Type 0
IsWithoutWorkersText plan passes stops opened Memory = Unit {0}
IsWithoutWorkersText plan passes stops opened (Stuck build) = IsStuck plan passes stops opened build
IsWithoutWorkersText plan passes stops opened Mismatch = IsMismatch plan passes stops opened
