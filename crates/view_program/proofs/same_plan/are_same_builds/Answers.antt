use Rattle.std.proofs.Common.{◌<◌, length, sym, ◌∙◌, arith}
use Rattle.view_program.proofs.SamePlans.{same_more}
use Rattle.view_program.proofs.same_plan.are_same_builds.Goals as goal

pub loop-place-preserved : goal.loop-place-preserved
loop-place-preserved c =
    let within : c.loop-place.place < length c.args.other.now = omega (arith, c.loop-place-test.true, c.if-one-other.false) in
    same_more (λ steps. steps.items) c.args.one.now c.args.other.now c.loop-place.place c.index-one-place.result c.index-other-place.result c.loop-place-test.true within
    c.index-one-place.is c.index-other-place.is c.loop-place.invariant
    (sym c.deref.ensures.value ∙ c.are_same_steps.ensures c.if-not-are_same_steps.false ∙ c.deref-in-loop-place.ensures.value)
