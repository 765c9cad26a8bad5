-- Definitions of what contracts see of a worker, of a worker's invariant, and of the effect of a worker's run.
-- Contracts see the session handle (`Seat`), the steps, the report, and whether the worker has ended.
use Rattle.std.specs.Prelude.{◌≡◌, ℕ, ◌<◌, ◌⊎◌, Bool, false, List, [], length}
use Rattle.host_ledger.specs.View.{HostView}
use Rattle.host_commands.specs.declared.cmd.Step.{Step}
use Rattle.build_seats.specs.Exchange.{Exchange}
use Rattle.build_seats.specs.Report.{IsWorkerReport}
use Rattle.build_seats.specs.Standing.{first_standing}
use Rattle.build_seats.specs.declared.report.ReportLine.{ReportLine}
use Rattle.builders.specs.Answered.{AreAnswered}
use Rattle.build_seats.specs.Seats.{SeatView, new_seat}
use Rattle.builders.specs.Trails.{IsTrailOf}

pub record WorkerView : Type 0 where
  pub seat : SeatView
  pub steps : List Step
  pub lines : List ReportLine
  pub ended : Bool

-- the worker is new: its report is empty, its seat has no events, and it has not ended
pub record IsNew (worker : WorkerView) : Type 0 where
  pub no_line : worker.lines ≡ []
  pub no_event : worker.seat.trail ≡ []
  pub not_ended : worker.ended ≡ false

-- The worker has worked on its steps, and the report is that of its requests and the host's answers. Since the seat was
-- new, the requests were answered by hosts that the lock of builds started with `opened` can hold. The accepted
-- commands and undos are the trail's events, which the seat counts.
pub record HasWorked (opened : HostView) (worker : WorkerView) : Type 0 where
  pub exchanges : List Exchange
  pub is_report : IsWorkerReport 0 first_standing worker.steps exchanges worker.lines worker.ended
  pub answered : AreAnswered opened (new_seat worker.seat.build) exchanges worker.seat
  pub is_trail : IsTrailOf worker.seat.build exchanges worker.seat.trail
  pub counted : worker.seat.count ≡ length worker.seat.trail

-- the worker's invariant holds: the worker is new, or has worked on its steps
abbrev pub IsFaithful : HostView → WorkerView → Type 0
IsFaithful opened worker = IsNew worker ⊎ HasWorked opened worker

-- The worker `old` has run, and `new` is the same worker after it has worked on its steps. The gate let the turn of
-- each question pass, from 0 on. If the worker has not ended, the gate stops the next turn.
pub record IsWorkerRun (opened : HostView) (passes stops : ℕ → Type 0) (old new : WorkerView) : Type 0 where
  pub steps_are : new.steps ≡ old.steps
  pub build_is : new.seat.build ≡ old.seat.build
  pub worked : HasWorked opened new
  pub passed : (turn : ℕ) → turn < length worked.exchanges → passes turn
  pub stopped : new.ended ≡ false → stops (length worked.exchanges)
