use Rattle.std.proofs.Common.{sym, ap, ◌∙◌}
use Rattle.plan_states.specs.Tallies.{is_before}
use Rattle.plan_states.proofs.Tallies.{place_here, place_more}
use Rattle.plan_states.proofs.outcomes.place_for.Goals as goal

pub loop-place-preserved : goal.loop-place-preserved
loop-place-preserved g c =
    place_more c.args.first.now c.args.tallies.now c.loop-place.place _ c.index-tallies-place.result c.loop-place-test.true
    (sym (ap (is_before c.args.first.now) c.deref.ensures.value) ∙ sym c.is_before.ensures ∙ c.if-is_before.false) c.loop-place.invariant

pub returns-then-is_before : goal.returns-then-is_before
returns-then-is_before g c =
    place_here c.args.first.now c.args.tallies.now c.loop-place.place _ c.index-tallies-place.result c.loop-place-test.true
    (sym (ap (is_before c.args.first.now) c.deref.ensures.value) ∙ sym c.is_before.ensures ∙ c.if-is_before.true) c.loop-place.invariant
