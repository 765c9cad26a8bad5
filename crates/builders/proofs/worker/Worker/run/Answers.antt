use Rattle.std.proofs.Common.{List, [], false, ap, subst, ◌∙◌}
use Rattle.host_commands.specs.declared.cmd.Step.{Step}
use Rattle.builders.specs.Workers.{WorkerView, IsWorkerRun}
use Rattle.builders.proofs.Working.{no_event, of_worker}
use Rattle.builders.proofs.worker.Worker.run.Goals as goal

pub work_at-requires-clause-trail : goal.work_at-requires-clause-trail
work_at-requires-clause-trail g c = no_event g.L.Ledgers.opened _ c.self.invariant.0 (ap (λ (w : WorkerView). w.lines) c.self.view_is ∙ c.requires)

pub returns : goal.returns
returns g c =
    let Run = (λ (old new : WorkerView). IsWorkerRun g.L.Ledgers.opened (g.G.Gate.passes c.args.gate.now old.seat.build) (g.G.Gate.stops c.args.gate.now old.seat.build) old new) in
    let inside = c.self.inside in
    let worked : List Step → WorkerView = (λ steps. record { seat = c.work_at.new.seat; steps = steps; lines = c.work_at.new.report.lines.items; ended = c.work_at.result }) in
    subst (λ (old : WorkerView). Run old (worked inside.steps.items)) c.self.view_is
    (of_worker g.L.Ledgers.opened _ _ (record { seat = inside.seat; steps = inside.steps.items; lines = inside.report.lines.items; ended = inside.ended }) (worked inside.steps.items)
    (subst (λ (steps : List Step). Run (record { seat = inside.seat; steps = steps; lines = []; ended = false }) (worked steps)) c.as_slice.ensures.value c.work_at.ensures.run))
