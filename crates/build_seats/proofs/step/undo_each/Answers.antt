use Rattle.std.proofs.Common.{refl, replicate, ◌-◌, ◌+◌}
use Rattle.build_seats.specs.declared.report.Asked.{Asked}
use Rattle.build_seats.specs.declared.ask.Question.{Question}
use Rattle.build_seats.specs.declared.ask.Question.TheVariants.{Undo}
use Rattle.build_seats.proofs.Growth.{undo_closes}
use Rattle.build_seats.proofs.Loops.{Leads-all, loop_none, loop_next, loop_stop, loop_whole, replicate-next, replicate-none}
use Rattle.build_seats.proofs.Stretches.{IsStretch-build}
use Rattle.build_seats.proofs.step.undo_each.Goals as goal

pub undos-init : goal.undos-init
undos-init g c = record {
  so_far = loop_none (Leads-all c.args.count (c.args.asked.now, Undo));
  loan = refl;
  build = refl;
  capacity = refl;
}

pub undos-preserved : goal.undos-preserved
undos-preserved g c =
    let question : Asked × Question = (c.args.asked.now, Undo) in
    let before = c.undos.invariant in
    record {
      so_far = loop_next (replicate (c.args.count - (c.undos._done + 1)) question) (replicate-next question c.args.count c.undos._done c.undos-test.true)
          undo_closes before.so_far
          (IsStretch-build (g.G.Gate.passes c.args.gate.now) (g.G.Gate.stops c.args.gate.now) before.build c.in-Done.ensures.asked);
      loan = cc;
      build = cc;
      capacity = cc;
    }

pub returns-in_default-clause-undone : goal.returns-in_default-clause-undone
returns-in_default-clause-undone g c =
    let question : Asked × Question = (c.args.asked.now, Undo) in
    loop_stop (replicate (c.args.count - (c.undos._done + 1)) question) (replicate-next question c.args.count c.undos._done c.undos-test.true)
    c.in_default.not-Done c.undos.invariant.so_far (IsStretch-build (g.G.Gate.passes c.args.gate.now) (g.G.Gate.stops c.args.gate.now) c.undos.invariant.build c.ask.ensures.asked)

pub returns-clause-undone : goal.returns-clause-undone
returns-clause-undone g c =
    loop_whole (replicate-none (c.args.asked.now, Undo) c.args.count c.undos._done c.undos-test.false) c.undos.invariant.so_far
