use Rattle.std.proofs.Common.{◌≡◌, ◌-◌, vec_capacity, replicate}
use Rattle.build_seats.specs.declared.ask.Question.TheVariants.{Undo}
use Rattle.build_seats.proofs.Loops.{IsUnderWay}
use Rattle.build_seats.proofs.step.undo_each.Given as goal

abbrev pub invariant-undos : goal.invariant-undos
invariant-undos g l = record {
  so_far : IsUnderWay (g.T.Teller.tells l.fn.teller) (g.T.Teller.tells l.teller) (g.G.Gate.passes l.gate l.fn.report.build)
      (g.G.Gate.stops l.gate l.fn.report.build) l.fn.standing l.standing l.fn.report.lines.items l.report.lines.items l._done
      (replicate (l.count - l._done) (l.asked, Undo)) (replicate l.count (l.asked, Undo));
  loan : g.T.Teller.loan l.teller ≡ g.T.Teller.loan l.fn.teller;
  build : l.report.build ≡ l.fn.report.build;
  capacity : vec_capacity l.report.lines ≡ vec_capacity l.fn.report.lines;
}
