use Rattle.std.proofs.Common.{◌≡◌, vec_capacity, map, drop}
use Rattle.build_seats.specs.Report.{exit_of}
use Rattle.build_seats.proofs.Loops.{IsUnderWay}
use Rattle.build_seats.proofs.client.exit_each.Given as goal

abbrev pub invariant-exits : goal.invariant-exits
invariant-exits g l = record {
  so_far : IsUnderWay (g.T.Teller.tells l.fn.teller) (g.T.Teller.tells l.teller) (g.G.Gate.passes l.gate l.fn.report.build)
      (g.G.Gate.stops l.gate l.fn.report.build) l.fn.standing l.standing l.fn.report.lines.items l.report.lines.items l.number-index
      (map exit_of (drop l.number-index l.numbers)) (map exit_of l.numbers);
  loan : g.T.Teller.loan l.teller ≡ g.T.Teller.loan l.fn.teller;
  build : l.report.build ≡ l.fn.report.build;
  capacity : vec_capacity l.report.lines ≡ vec_capacity l.fn.report.lines;
}
