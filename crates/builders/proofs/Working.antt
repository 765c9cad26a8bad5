-- Proofs that a worker's run meets its contract, and that a worker's seat has no events if the worker's report is
-- empty.
use Rattle.std.proofs.Common.{◌≡◌, ℕ, Bool, false, List, [], ◌∷◌, length, inl, inr, refl, sym, ◌∙◌, ap, subst}
use Rattle.std.specs.Prelude.{filter}
use Rattle.std.specs.List.{AllZip}
use Rattle.host_ledger.specs.View.{HostView}
use Rattle.host_commands.specs.declared.cmd.Step.{Step}
use Rattle.build_seats.proofs.Events.{accepted_match_events}
use Rattle.build_seats.specs.Events.{IsLineOf, is_accepted}
use Rattle.build_seats.specs.Exchange.{is_event}
use Rattle.build_seats.specs.Report.{IsWorkerReport, IsWork}
use Rattle.build_seats.specs.Standing.{first_standing}
use Rattle.build_seats.specs.declared.report.ReportLine.{ReportLine}
use Rattle.realm_model.specs.declared.act.Event.{Event}
use Rattle.builders.proofs.Telling.{trail_of_answers}
use Rattle.builders.specs.Answered.{AreAnswered}
use Rattle.build_seats.specs.Seats.{SeatView, new_seat}
use Rattle.builders.specs.Trails.{IsEventOf, IsTrailOf}
use Rattle.builders.specs.Workers.{WorkerView, IsFaithful, IsWorkerRun}

-- a seat without events is new if its count is the length of its event list
is_fresh : (seat : SeatView) → seat.count ≡ length seat.trail → seat.trail ≡ [] → seat ≡ new_seat seat.build
is_fresh seat counted empty =
    ap (λ (n : ℕ). record { build = seat.build; count = n; trail = seat.trail }) (counted ∙ ap length empty)
    ∙ ap (λ (trail : List Event). record { build = seat.build; count = 0; trail = trail }) empty

pub is_run : (opened : HostView) (old new : SeatView) (passes stops : ℕ → Type 0) (steps : List Step) (lines : List ReportLine) (answered ended : Bool) → ended ≡ answered
    → old.count ≡ length old.trail → old.trail ≡ [] → new.count ≡ length new.trail → new.build ≡ old.build
    → IsWork (λ exchanges. AreAnswered opened (new_seat old.build) exchanges old) (λ exchanges. AreAnswered opened (new_seat new.build) exchanges new) passes stops steps lines answered
    → IsWorkerRun opened passes stops (record { seat = old; steps = steps; lines = []; ended = false }) (record { seat = new; steps = steps; lines = lines; ended = ended })
is_run opened old new passes stops steps lines answered ended is counts empty counted build work =
    let are = work.told [] (is_fresh old counts empty) in
    record {
      steps_are = refl;
      build_is = build;
      worked = record {
        exchanges = work.exchanges;
        is_report = subst (IsWorkerReport 0 first_standing steps work.exchanges lines) (sym is) work.is_report;
        answered = are;
        is_trail = trail_of_answers opened new.build work.exchanges new are;
        counted = counted;
      };
      passed = work.passed;
      stopped = λ not_ended. work.stopped (sym is ∙ not_ended);
    }

-- if a worker that has not ended, with an empty report, becomes `new` by a run, so does the worker `old`, which has the
-- same seat and steps
pub of_worker : (opened : HostView) (passes stops : ℕ → Type 0) (old new : WorkerView)
    → IsWorkerRun opened passes stops (record { seat = old.seat; steps = old.steps; lines = []; ended = false }) new → IsWorkerRun opened passes stops old new
of_worker opened passes stops old new run = record { steps_are = run.steps_are; build_is = run.build_is; worked = run.worked; passed = run.passed; stopped = run.stopped }

none_left : {A B : Type 0} (R : A → B → Type 0) (xs : List A) (ys : List B) → xs ≡ [] → AllZip R xs ys → ys ≡ []
none_left R [] [] e h = refl
none_left R [] (y ∷ ys) e h = absurd h
none_left R (x ∷ xs) ys e h = cc

-- if a worker's invariant holds, and the worker's report is empty, then its seat has no events
pub no_event : (opened : HostView) (worker : WorkerView) → IsFaithful opened worker → worker.lines ≡ [] → worker.seat.trail ≡ []
unfolding IsTrailOf
no_event opened worker (inl fresh) none = fresh.no_event
no_event opened worker (inr worked) none =
    none_left (IsEventOf worker.seat.build) (filter is_event worked.exchanges) worker.seat.trail
    (none_left (IsLineOf worker.steps) (filter is_accepted worker.lines) (filter is_event worked.exchanges) (ap (filter is_accepted) none)
    (accepted_match_events first_standing worker.steps worked.exchanges worker.lines worker.ended worked.is_report))
    worked.is_trail
