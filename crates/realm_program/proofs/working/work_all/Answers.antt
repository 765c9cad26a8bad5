use Rattle.std.proofs.Common.{◌≡◌, [], length, sym, ap, ◌∙◌, subst}
use Rattle.std.specs.List.{AllZip, range_with_len}
use Rattle.std.specs.Prelude.{All}
use Rattle.std.proofs.lemmas.List.{take_at}
use Rattle.builders.specs.Runs.{AreRun}
use Rattle.builders.specs.Workers.{WorkerView}
use Rattle.realm_plan.specs.PlanView.{plan_view}
use Rattle.realm_program.specs.Workers.{worker_seats, IsReportOf}
use Rattle.realm_program.proofs.Ended.{same_length, is_stuck}
use Rattle.realm_program.proofs.Seating.{no_lines}
use Rattle.realm_program.proofs.working.work_all.Goals as goal

pub run_builds-requires-after_bounds : goal.run_builds-requires-after_bounds
run_builds-requires-after_bounds g c κs within =
    let plan = plan_view c.args.plan.now in
    subst (λ ws. All (λ (worker : WorkerView). worker.lines ≡ []) ws) (sym (c.as_mut_slice.ensures.value ∙ c.in_ok-workers.ensures)) (no_lines plan (range_with_len 0 (length plan.builds)))

pub returns-in-Err-clause-err : goal.returns-in-Err-clause-err
returns-in-Err-clause-err g c =
    is_stuck (plan_view c.args.plan.now) (g.G.Gate.passes c.args.gate.now) (g.G.Gate.stops c.args.gate.now) g.L.Ledgers.opened
    c.as_mut_slice.result.now c.run_builds.new.workers (c.as_mut_slice.ensures.value ∙ c.in_ok-workers.ensures) c.run_builds.ensures.run c.in-Err.build c.in-Err.ensures.told

pub returns-clause-ok : goal.returns-clause-ok
returns-clause-ok g c =
    let plan = plan_view c.args.plan.now in
    let passes = g.G.Gate.passes c.args.gate.now in
    let stops = g.G.Gate.stops c.args.gate.now in
    let old = c.as_mut_slice.result.now in
    let new = c.run_builds.new.workers in
    let ran = c.run_builds.ensures.run in
    let count = same_length g.L.Ledgers.opened passes stops old new ran ∙ ap (λ ws. length ws) c.as_mut_slice.ensures.value ∙ sym c.in_ok-workers.workers.ok.0 in
    let back = take_at new _ c.in_ok-workers.workers.len count in
    record {
      workers = new;
      run = subst (λ ws. AreRun g.L.Ledgers.opened passes stops ws new) (c.as_mut_slice.ensures.value ∙ c.in_ok-workers.ensures) ran;
      ended = c.in_default.ensures.told;
      seats_are = c.in_ok-ends.ensures.seats ∙ ap (λ ws. worker_seats ws) back;
      reports_are = subst (λ ws. AllZip IsReportOf ws c.in_ok-ends.ends.reports.items) back c.in_ok-ends.ensures.reports;
    }
