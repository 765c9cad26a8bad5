-- Proofs that a plan's run by workers has the specified output text, or fails for a reason that `IsWithoutWorkersText`
-- allows.
use Rattle.std.proofs.Common.{◌≡◌, inl, inr, ℕ, ◌∷◌, [], ◌++◌, List, length, sym, subst, ◌∙◌, ap, ap₂}
use Rattle.std.specs.Global.{Vec}
use Rattle.std.specs.List.{AllZip, flat_map}
use Rattle.std.specs.Prelude.{All, ◌⊎◌, Result, Ok, Err, IfOk, IfErr}
use Rattle.std.proofs.lemmas.List.{map-append}
use Rattle.std.proofs.lemmas.List.Elements.{length_all_zip}
use Rattle.std.proofs.lemmas.Slice.Zip.{all_zipped_more}
use Rattle.host_ledger.specs.View.{HostView}
use Rattle.host_commands.specs.declared.cmd.Step.{Step}
use Rattle.build_seats.specs.Close.{IsClosed, IsHostGivenBack}
use Rattle.build_seats.specs.Fault.{IsFault}
use Rattle.builders.specs.Runs.{AreRun, IsLowestWaiting}
use Rattle.build_seats.specs.Seats.{SeatView}
use Rattle.builders.specs.Workers.{WorkerView, IsWorkerRun}
use Rattle.build_seats.specs.declared.close.CloseFault.{CloseFault}
use Rattle.plan_replay.specs.Run.{map_text}
use Rattle.realm_plan.specs.Plan.{Plan}
use Rattle.realm_program.specs.Fitting.{ReportFits}
use Rattle.build_seats.specs.declared.report.Report.{Report}
use Rattle.realm_program.specs.Text.{report_lines, audit_line}
use Rattle.realm_program.specs.Workers.{new_workers, worker_seats, IsReportOf, AreLeft, IsEndedRun, IsWorkersText, IsStuck, IsMismatch, IsWithoutWorkersText}
use Rattle.realm_program.specs.declared.run_fault.RunFault.{RunFault}
use Rattle.realm_program.specs.declared.run_fault.RunFault.TheVariants.{Memory, Mismatch}
use Rattle.realm_program.proofs.Reports.{workers_fit, reports_fit, text_of_workers}

-- ---- what workers leave, with one worker more

pub seats_more : (workers : List WorkerView) (seats after : List SeatView) (worker : WorkerView) (seat : SeatView) → seats ≡ worker_seats workers → seat ≡ worker.seat
    → after ≡ seats ++ seat ∷ [] → after ≡ worker_seats (workers ++ worker ∷ [])
seats_more workers seats after worker seat are is grows =
    grows ∙ ap₂ (λ (l : List SeatView) (s : SeatView). l ++ s ∷ []) are is ∙ sym (map-append (λ (w : WorkerView). w.seat) workers (worker ∷ []))

pub reports_more : (workers : List WorkerView) (reports after : List (Report × Vec Step)) (worker : WorkerView) (report : Report × Vec Step) → AllZip IsReportOf workers reports
    → IsReportOf worker report → after ≡ reports ++ report ∷ [] → AllZip IsReportOf (workers ++ worker ∷ []) after
reports_more workers reports after worker report are is grows =
    subst (λ (l : List (Report × Vec Step)). AllZip IsReportOf (workers ++ worker ∷ []) l) (sym grows) (all_zipped_more IsReportOf workers reports worker report are is)

-- ---- a run

-- there are as many workers after a run as before it
pub same_length : (opened : HostView) (passes stops : ℕ → ℕ → Type 0) (old new : List WorkerView) → AreRun opened passes stops old new → length new ≡ length old
unfolding AreRun
same_length opened passes stops old new are = sym (length_all_zip (λ (before after : WorkerView). IsWorkerRun opened (passes before.seat.build) (stops before.seat.build) before after) old new are)

pub is_stuck : (plan : Plan) (passes stops : ℕ → ℕ → Type 0) (opened : HostView) (old new : List WorkerView) → old ≡ new_workers plan → AreRun opened passes stops old new
    → (build : ℕ) → IsLowestWaiting new build → IsStuck plan passes stops opened build
is_stuck plan passes stops opened old new are_new run build waits = record {
  workers = new;
  run = subst (λ (ws : List WorkerView). AreRun opened passes stops ws new) are_new run;
  waits = waits;
}

-- ---- all have ended

module _ (plan : Plan) (passes stops : ℕ → ℕ → Type 0) (opened : HostView) (seats : List SeatView) (reports : List (Report × Vec Step)) (left : AreLeft plan passes stops opened seats reports)
    (host : HostView) (back : IsHostGivenBack opened host seats) where
  ended_run : IsEndedRun plan passes stops opened host left.workers
  ended_run = record { run = left.run; ended = left.ended; given_back = subst (IsHostGivenBack opened host) left.seats_are back }

  -- if a build does not have exactly one seat, or its seat's events are not its events in the history, the run is a
  -- mismatch
  pub not_closed : (fault : CloseFault) → IsFault fault host seats → IsMismatch plan passes stops opened
  not_closed fault bad = record { host = host; workers = left.workers; is_run = ended_run; differs = inl (fault, subst (IsFault fault host) left.seats_are bad) }

  -- if not all reports of a run match the history, the run is a mismatch
  pub misfit : (All (ReportFits host.history) reports → ⊥) → IsMismatch plan passes stops opened
  misfit bad = record {
    host = host;
    workers = left.workers;
    is_run = ended_run;
    differs = inr (λ fit. bad (reports_fit host.history left.workers reports left.reports_are fit));
  }

  -- if each build has one seat, and all seats and reports match the history, the run's text is the reports, the map and
  -- `audit ok`
  pub is_text : (text : List ℕ) → IsClosed host seats → All (ReportFits host.history) reports
      → text ≡ flat_map (report_lines plan) reports ++ (map_text host ++ audit_line) → IsWorkersText plan passes stops opened text
  is_text text closed fit whole = record {
    host = host;
    workers = left.workers;
    is_run = ended_run;
    closed = subst (IsClosed host) left.seats_are closed;
    fit = workers_fit host.history left.workers reports left.reports_are fit;
    whole = whole ∙ ap (λ (lines : List ℕ). lines ++ (map_text host ++ audit_line)) (text_of_workers plan left.workers reports left.reports_are);
  }

-- ---- what a call says of its text, or of why there is none

pub with_both : {A E : Type 0} {P Q R : A → Type 0} (r : Result A E) → ((x : A) → P x → Q x → R x) → IfOk r P → IfOk r Q → IfOk r R
with_both (Ok x) both p q = both x p q
with_both (Err e) both p q = tt

pub without_text : {A : Type 0} (plan : Plan) (passes stops : ℕ → ℕ → Type 0) (opened : HostView) (r : Result A RunFault) (bad : Type 0) → (bad → IsMismatch plan passes stops opened)
    → IfErr r (λ fault. (fault ≡ Memory) ⊎ ((fault ≡ Mismatch) × bad)) → IfErr r (IsWithoutWorkersText plan passes stops opened)
without_text plan passes stops opened (Ok x) bad differs why = tt
without_text plan passes stops opened (Err fault) bad differs (inl memory) = rw memory tt
without_text plan passes stops opened (Err fault) bad differs (inr mismatch) = rw mismatch.0 (differs mismatch.1)
