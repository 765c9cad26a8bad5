use Rattle.std.proofs.Common.{◌≡◌, ◌+◌, ◌*◌, ◌≤◌, vec_len, vec_capacity, drop}
use Rattle.build_seats.specs.Standing.{left_to_clear}
use Rattle.build_seats.specs.Stretch.{IsStretch}
use Rattle.build_seats.specs.declared.ask.Ending.TheVariants.{Done}
use Rattle.build_seats.proofs.Plans.{LeadsOn}
use Rattle.build_seats.proofs.client.take_steps.Given as goal

abbrev pub invariant-steps : goal.invariant-steps
invariant-steps g l = record {
  so_far : IsStretch (g.T.Teller.tells l.fn.teller) (g.T.Teller.tells l.teller) (g.G.Gate.passes l.gate l.fn.report.build)
      (g.G.Gate.stops l.gate l.fn.report.build) l.fn.standing l.standing l.fn.report.lines.items l.report.lines.items Done (LeadsOn l.place l.standing (drop l.place l.steps) l.fn.standing l.steps);
  loan : g.T.Teller.loan l.teller ≡ g.T.Teller.loan l.fn.teller;
  left : left_to_clear l.standing ≤ l.place;
  lines : vec_len l.report.lines + left_to_clear l.standing ≤ 2 * l.place;
  turns : l.standing.turn ≤ vec_len l.report.lines + l.place;
  build : l.report.build ≡ l.fn.report.build;
  capacity : vec_capacity l.report.lines ≡ vec_capacity l.fn.report.lines;
}
