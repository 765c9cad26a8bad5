use Rattle.std.proofs.Common.{arith, ap, ◌∙◌, length}
use Rattle.build_seats.proofs.Questions.{grown}
use Rattle.build_seats.proofs.Loops.{cleared, cleared_stop, length-exits}
use Rattle.build_seats.proofs.Stretches.{IsStretch-build}
use Rattle.build_seats.proofs.client.clear.Goals as goal

pub undo_each-requires-clause-room : goal.undo_each-requires-clause-room
undo_each-requires-clause-room g c =
    let grows = grown c.exit_each.ensures.exited in
    let count = length-exits c.as_slice.result.now in
    let runs = ap length (c.as_slice.ensures.value ∙ c.clone_numbers-numbers.ensures ∙ c.running.ensures.value) in
    omega (arith, grows.0, count, runs, c.journal-open.ensures, c.requires.room, c.exit_each.ensures.same.1)

pub undo_each-requires-clause-turns : goal.undo_each-requires-clause-turns
undo_each-requires-clause-turns g c =
    let grows = grown c.exit_each.ensures.exited in
    let count = length-exits c.as_slice.result.now in
    let runs = ap length (c.as_slice.ensures.value ∙ c.clone_numbers-numbers.ensures ∙ c.running.ensures.value) in
    omega (arith, grows.1, count, runs, c.journal-open.ensures, c.requires.turns)

pub undo_each-requires-clause-few : goal.undo_each-requires-clause-few
undo_each-requires-clause-few g c = omega (arith, c.exit_each.ensures.no_more, c.requires.few)

pub returns-in-Done-clause-cleared : goal.returns-in-Done-clause-cleared
returns-in-Done-clause-cleared g c =
    let runs = c.as_slice.ensures.value ∙ c.clone_numbers-numbers.ensures ∙ c.running.ensures.value in
    cleared c.args.standing.now c.as_slice.result.now c.journal-open.result runs c.journal-open.ensures c.in-Done.ensures.exited
    (IsStretch-build (g.G.Gate.passes c.args.gate.now) (g.G.Gate.stops c.args.gate.now) c.exit_each.ensures.same.0 c.undo_each.ensures.undone)

pub returns-in_default-clause-cleared : goal.returns-in_default-clause-cleared
returns-in_default-clause-cleared g c =
    let runs = c.as_slice.ensures.value ∙ c.clone_numbers-numbers.ensures ∙ c.running.ensures.value in
    cleared_stop c.args.standing.now c.as_slice.result.now runs c.in_default.not-Done c.exit_each.ensures.exited
