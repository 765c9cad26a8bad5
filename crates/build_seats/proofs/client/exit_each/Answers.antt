use Rattle.std.proofs.Common.{refl, arith, ◌+◌, map, drop}
use Rattle.build_seats.specs.Report.{exit_of}
use Rattle.build_seats.proofs.Questions.{Leads-none}
use Rattle.build_seats.proofs.Growth.{exit_closes, closed_by}
use Rattle.build_seats.proofs.Loops.{loop_none, loop_next, loop_stop, loop_whole, exits-next, exits-none}
use Rattle.build_seats.proofs.Stretches.{IsStretch-build}
use Rattle.build_seats.proofs.client.exit_each.Goals as goal

pub exits-init : goal.exits-init
exits-init g c = record {
  so_far = loop_none (Leads-none (map exit_of c.args.numbers.now));
  loan = refl;
  build = refl;
  capacity = refl;
}

pub exits-preserved : goal.exits-preserved
exits-preserved g c =
    let numbers = c.args.numbers.now in
    let at = c.exits.number-index in
    let before = c.exits.invariant in
    record {
      so_far = loop_next (map exit_of (drop (at + 1) numbers)) (exits-next numbers c.new-number.result at c.exits-test.true c.new-number.ensures)
          (exit_closes c.new-number.result) before.so_far
          (IsStretch-build (g.G.Gate.passes c.args.gate.now) (g.G.Gate.stops c.args.gate.now) before.build c.in-Done.ensures.asked);
      loan = cc;
      build = cc;
      capacity = cc;
    }

pub returns-in_default-clause-exited : goal.returns-in_default-clause-exited
returns-in_default-clause-exited g c =
    let numbers = c.args.numbers.now in
    let at = c.exits.number-index in
    loop_stop (map exit_of (drop (at + 1) numbers)) (exits-next numbers c.new-number.result at c.exits-test.true c.new-number.ensures) c.in_default.not-Done
    c.exits.invariant.so_far (IsStretch-build (g.G.Gate.passes c.args.gate.now) (g.G.Gate.stops c.args.gate.now) c.exits.invariant.build c.ask.ensures.asked)

pub returns-in_default-clause-no_more : goal.returns-in_default-clause-no_more
returns-in_default-clause-no_more g c =
    let less = closed_by (exit_closes c.new-number.result) c.ask.ensures.asked in omega (arith, less, c.exits.invariant.so_far.left)

pub returns-clause-exited : goal.returns-clause-exited
returns-clause-exited g c = loop_whole (exits-none c.args.numbers.now c.exits.number-index c.exits-test.false) c.exits.invariant.so_far
