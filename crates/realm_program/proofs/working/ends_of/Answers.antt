use Rattle.std.proofs.Common.{◌∙◌, ap, subst}
use Rattle.std.specs.List.{AllZip}
use Rattle.realm_program.specs.Workers.{worker_seats, IsReportOf}
use Rattle.realm_program.proofs.Ended.{seats_more, reports_more}
use Rattle.realm_program.proofs.Taken.{taken_more, left_less, taken_all}
use Rattle.realm_program.proofs.working.ends_of.Goals as goal

pub loop-worker-preserved : goal.loop-worker-preserved
loop-worker-preserved g c =
    let at = c.loop-worker in
    let x = c.in-Some.worker in
    let parts = c.end-seat.ensures.parts in
    let steps = c.in-Some.ensures.steps in (
      taken_more at.yielded _ _ _ at.invariant.0 at.invariant.1 x _ steps.0,
      left_less at.yielded _ _ _ at.invariant.0 at.invariant.1 x _ _ steps.0 steps.1,
      seats_more at.yielded at.seats.items _ x c.end-seat.result.0 at.invariant.2 parts.0 c.in_ok-append_item.ensures,
      reports_more at.yielded at.reports.items _ x (c.end-seat.result.2, c.end-seat.result.1) at.invariant.3 (c.end-seat.ensures.build, parts.2, parts.1) c.in_ok-append_item-2.ensures,
    )

pub returns-clause-seats : goal.returns-clause-seats
returns-clause-seats g c =
    let at = c.loop-worker in
    let all = taken_all at.yielded _ _ _ at.invariant.0 at.invariant.1 c.in-None.ensures.steps.0 ∙ c.into_iter-worker-iterator.ensures.into_iter_gives.0 in
    at.invariant.2 ∙ ap worker_seats all

pub returns-clause-reports : goal.returns-clause-reports
returns-clause-reports g c =
    let at = c.loop-worker in
    let all = taken_all at.yielded _ _ _ at.invariant.0 at.invariant.1 c.in-None.ensures.steps.0 ∙ c.into_iter-worker-iterator.ensures.into_iter_gives.0 in
    subst (λ ws. AllZip IsReportOf ws at.reports.items) all at.invariant.3
