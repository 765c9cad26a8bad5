use Rattle.std.proofs.Common.{refl, arith, ap, ◌+◌, ◌∙◌, length, drop}
use Rattle.build_seats.specs.Standing.{left_to_clear}
use Rattle.build_seats.proofs.Loops.{length-clearing}
use Rattle.build_seats.proofs.Plans.{LeadsOn-none, steps_next, steps_cleared, steps_cut, steps_done, drop-step, drop-none, grown_step, left_if_refused}
use Rattle.build_seats.proofs.Questions.{grown}
use Rattle.build_seats.proofs.Stretches.{IsStretch-none, IsStretch-build}
use Rattle.build_seats.proofs.client.take_steps.Goals as goal

pub steps-init : goal.steps-init
steps-init g c =
    let nothing = ap left_to_clear c.requires.first in
    let first = ap (λ s. s.turn) c.requires.first in
    let empty = ap length c.requires.empty in
    record {
      so_far = IsStretch-none (LeadsOn-none c.args.standing.now c.args.steps.now);
      loan = refl;
      left = omega (arith, nothing);
      lines = omega (arith, nothing, empty);
      turns = omega (arith, first);
      build = refl;
      capacity = refl;
    }

pub clear-requires-clause-room : goal.clear-requires-clause-room
clear-requires-clause-room g c =
    let grows = grown_step c.steps.place c.index-steps-place.result c.take_step.ensures.taken in
    let so_far = c.steps.invariant in
    omega (arith, grows.1, so_far.lines, so_far.capacity, c.take_step.ensures.same.1, c.requires.room, c.steps-test.true)

pub clear-requires-clause-turns : goal.clear-requires-clause-turns
clear-requires-clause-turns g c =
    let grows = grown_step c.steps.place c.index-steps-place.result c.take_step.ensures.taken in
    let so_far = c.steps.invariant in
    omega (arith, grows.0, grows.1, grows.2, so_far.left, so_far.lines, so_far.turns, c.requires.few, c.steps-test.true)

pub clear-requires-clause-few : goal.clear-requires-clause-few
clear-requires-clause-few g c =
    let left = left_if_refused c.steps.place c.index-steps-place.result c.in-Refused.ensures.taken in
    omega (arith, left, c.steps.invariant.left, c.requires.few, c.steps-test.true)

pub steps-preserved : goal.steps-preserved
steps-preserved g c =
    let steps = c.args.steps.now in
    let step = c.index-steps-place.result in
    let place = c.steps.place in
    let so_far = c.steps.invariant in
    let taken = c.in-Done.ensures.taken in
    let grows = grown_step place step taken in
    record {
      so_far = steps_next place step (drop place steps) (drop (place + 1) steps) steps (drop-step steps step place c.steps-test.true c.index-steps-place.is) so_far.so_far
          (IsStretch-build (g.G.Gate.passes c.args.gate.now) (g.G.Gate.stops c.args.gate.now) so_far.build taken);
      loan = cc;
      left = omega (arith, grows.0, so_far.left);
      lines = omega (arith, grows.1, so_far.lines);
      turns = omega (arith, grows.2, so_far.turns);
      build = cc;
      capacity = cc;
    }

pub returns-in-Refused-clause-taken : goal.returns-in-Refused-clause-taken
returns-in-Refused-clause-taken g c =
    let steps = c.args.steps.now in
    let step = c.index-steps-place.result in
    let place = c.steps.place in
    let so_far = c.steps.invariant in
    let passes = g.G.Gate.passes c.args.gate.now in
    let stops = g.G.Gate.stops c.args.gate.now in
    steps_cleared place step (drop place steps) (drop (place + 1) steps) steps (drop-step steps step place c.steps-test.true c.index-steps-place.is) so_far.so_far
    (IsStretch-build passes stops so_far.build c.in-Refused.ensures.taken)
    (IsStretch-build passes stops (c.take_step.ensures.same.0 ∙ so_far.build) c.clear.ensures.cleared)

pub returns-in-Refused-clause-few_lines : goal.returns-in-Refused-clause-few_lines
returns-in-Refused-clause-few_lines g c =
    let so_far = c.steps.invariant in
    let grows = grown_step c.steps.place c.index-steps-place.result c.take_step.ensures.taken in
    let cleared = grown c.clear.ensures.cleared in
    let questions = length-clearing c.take_step.new.standing in
    omega (arith, grows.1, cleared.0, questions, so_far.lines, c.steps-test.true)

pub returns-in-Cut-clause-taken : goal.returns-in-Cut-clause-taken
returns-in-Cut-clause-taken g c =
    let steps = c.args.steps.now in
    let step = c.index-steps-place.result in
    let place = c.steps.place in
    let so_far = c.steps.invariant in
    steps_cut place step (drop place steps) (drop (place + 1) steps) steps (drop-step steps step place c.steps-test.true c.index-steps-place.is) so_far.so_far
    (IsStretch-build (g.G.Gate.passes c.args.gate.now) (g.G.Gate.stops c.args.gate.now) so_far.build c.in-Cut.ensures.taken)

pub returns-in-Cut-clause-few_lines : goal.returns-in-Cut-clause-few_lines
returns-in-Cut-clause-few_lines g c =
    let so_far = c.steps.invariant in
    let grows = grown_step c.steps.place c.index-steps-place.result c.take_step.ensures.taken in
    omega (arith, grows.1, so_far.lines, c.steps-test.true)

pub returns-clause-taken : goal.returns-clause-taken
returns-clause-taken g c =
    steps_done c.steps.place (drop c.steps.place c.args.steps.now) c.args.steps.now (drop-none c.args.steps.now c.steps.place c.steps-test.false) c.steps.invariant.so_far
