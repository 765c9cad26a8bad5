use Rattle.std.proofs.Common.{◌<◌, length, arith, sym}
use Rattle.decimal_text.proofs.Maxima.{length-AreAtMost, AreAtMost-index, AreAtMost-from_index}
use Rattle.decimal_text.proofs.range.at_most.Goals as goal

pub returns-in_default-clause-none : goal.returns-in_default-clause-none
returns-in_default-clause-none g c = λ h. c.in_default.ensures.1 (omega (arith, length-AreAtMost _ _ h))

pub returns-then-found-i-clause-none : goal.returns-then-found-i-clause-none
returns-then-found-i-clause-none g c = λ h.
    let within : c.loop-i.i < length c.args.numbers.now = omega (arith, c.in-Ok.ensures.1.long) in
    let small = AreAtMost-index _ _ c.loop-i.i h within in
    let above = rw c.in-Ok.ensures.1.same at c.if-found-i.true in
    omega (arith, small, above)

pub returns-clause-found : goal.returns-clause-found
returns-clause-found g c = (
  sym c.in-Ok.ensures.1.same,
  AreAtMost-from_index _ _ (omega (arith, c.in-Ok.ensures.1.long)) (λ k within. c.loop-i.invariant k (omega arith)),
)
