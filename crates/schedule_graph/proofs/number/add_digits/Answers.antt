use Rattle.std.proofs.Common.{◌<◌, length, arith}
use Rattle.schedule_graph.proofs.Numbers.{number_of_none, number_of-take}
use Rattle.schedule_graph.proofs.number.add_digits.Goals as goal

pub loop-place-init : goal.loop-place-init
loop-place-init c = (omega (arith, c.in_ok-pad.ensures.number, number_of_none), c.in_ok-pad.ensures.digits, c.in_ok-pad.ensures.places)

pub loop-place-preserved : goal.loop-place-preserved
loop-place-preserved c =
    let (number, small, longer) = c.loop-place.invariant in
    let inside : c.loop-place.place < length c.args.more.now = omega arith in (
      omega (arith, c.in_ok-add_at.ensures.number, number, number_of-take c.args.more.now c.loop-place.place inside),
      c.in_ok-add_at.ensures.digits,
      omega (arith, c.in_ok-add_at.ensures.longer, longer),
    )
