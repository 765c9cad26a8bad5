use Rattle.std.proofs.Common.{Bool, drop, sym, ap, ◌∙◌, ◌+◌}
use Rattle.std.specs.Prelude.{◌||◌, not}
use Rattle.realm_model.specs.Command.Check.{is_apart_from, is_in}
use Rattle.rmi_monitor.proofs.Sweeps.{test_rest, test_fails, test_ends}
use Rattle.rmi_monitor.proofs.places.is_apart.Goals as goal

pub loop-other-preserved : goal.loop-other-preserved
loop-other-preserved c =
    test_rest c.args.others.now c.loop-other.other-index c.other-item.result c.loop-other-test.true c.other-item.is (is_apart_from c.args.granule) c.loop-other.invariant
    (ap (λ (t : Bool). not (t || is_in c.args.granule (drop (c.loop-other.other-index + 1) c.args.others.now))) (sym c.eq.ensures ∙ c.if-eq.false))

pub returns-then-eq : goal.returns-then-eq
returns-then-eq c =
    test_fails c.args.others.now c.loop-other.other-index c.other-item.result c.loop-other-test.true c.other-item.is (is_apart_from c.args.granule) c.loop-other.invariant
    (ap (λ (t : Bool). not (t || is_in c.args.granule (drop (c.loop-other.other-index + 1) c.args.others.now))) (sym c.eq.ensures ∙ c.if-eq.true))

pub returns : goal.returns
returns c = test_ends (is_apart_from c.args.granule) c.args.others.now c.loop-other.other-index c.loop-other-test.false c.loop-other.invariant
