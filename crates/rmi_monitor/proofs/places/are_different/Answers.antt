use Rattle.std.proofs.Common.{Bool, ◌&&◌, drop, sym, ap, ◌∙◌, ◌+◌}
use Rattle.std.proofs.lemmas.Bool.{and_right}
use Rattle.std.proofs.lemmas.List.{take_rest}
use Rattle.realm_model.specs.Command.Check.{are_distinct, is_apart_from}
use Rattle.rmi_monitor.proofs.Comparisons.{and_with}
use Rattle.rmi_monitor.proofs.Sweeps.{test_rest, test_fails, test_ends}
use Rattle.rmi_monitor.proofs.places.are_different.Goals as goal

pub loop-i-preserved : goal.loop-i-preserved
loop-i-preserved c =
    let rest = drop (c.loop-i.i + 1) c.args.others.now in
    test_rest c.args.others.now c.loop-i.i c.index-others-i.result c.loop-i-test.true c.index-others-i.is are_distinct c.loop-i.invariant
    (ap (λ (t : Bool). t && are_distinct rest)
    (ap (is_apart_from c.index-others-i.result) (sym (take_rest c.args.others.now (c.loop-i.i + 1))) ∙ sym c.is_apart.ensures ∙ c.if-not-is_apart.false))

pub returns-then-not-is_apart : goal.returns-then-not-is_apart
returns-then-not-is_apart c =
    let rest = drop (c.loop-i.i + 1) c.args.others.now in
    sym (and_right _ _ (sym
    (test_fails c.args.others.now c.loop-i.i c.index-others-i.result c.loop-i-test.true c.index-others-i.is are_distinct c.loop-i.invariant
    (ap (λ (t : Bool). t && are_distinct rest)
    (ap (is_apart_from c.index-others-i.result) (sym (take_rest c.args.others.now (c.loop-i.i + 1))) ∙ sym c.is_apart.ensures ∙ c.if-not-is_apart.true)))))

pub returns : goal.returns
returns c =
    c.is_apart-2.ensures
    ∙ sym (and_with (is_apart_from c.args.first c.args.others.now) (are_distinct c.args.others.now)
    (sym (test_ends are_distinct c.args.others.now c.loop-i.i c.loop-i-test.false c.loop-i.invariant)))
