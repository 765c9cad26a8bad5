use Rattle.std.proofs.Common.{ℕ, [], false, sym, ◌∙◌, subst, rules, arith}
use Rattle.build_seats.specs.Seats.{SeatView}
use Rattle.builders.specs.Workers.{IsWorkerRun}
use Rattle.builders.proofs.Working.{is_run}
use Rattle.builders.proofs.worker.work_at.Goals as goal

pub returns-clause-run : goal.returns-clause-run
returns-clause-run g c =
    let old = c.args.seat.now in
    let new = c.work.new.teller.seat.now in
    let gate = c.args.gate.now in
    let steps = c.args.steps.now in
    let lines = c.work.new.report.lines.items in
    let Run = (λ (build : ℕ) (seat : SeatView). IsWorkerRun g.L.Ledgers.opened (g.G.Gate.passes gate build) (g.G.Gate.stops gate build)
    (record { seat = old; steps = steps; lines = []; ended = false }) (record { seat = seat; steps = steps; lines = lines; ended = c.is_ok-ended.result })) in
    subst (Run old.build) (search (rules, arith))
    (subst (λ (build : ℕ). Run build new) c.requires.build
    (is_run g.L.Ledgers.opened old new (g.G.Gate.passes gate c.args.report.now.build) (g.G.Gate.stops gate c.args.report.now.build) steps lines _ _ c.is_ok-ended.ensures.value
    (sym c.count.ensures.count ∙ c.count.ensures.trail) c.requires.trail
    (sym c.count-2.ensures.count ∙ c.count-2.ensures.trail) (search (rules, arith)) c.work.ensures.work))
