use Rattle.std.proofs.Common.{sym, ap, ◌∙◌, arith}
use Rattle.rmm_granules.specs.Tests.{aux_passes, aux_test}
use Rattle.rmm_granules.proofs.Passing.{all_from-on, all_from-not, all_from-end}
use Rattle.rmm_granules.proofs.rec_params.all_aux.Goals as goal

pub returns-then-not-passes : goal.returns-then-not-passes
returns-then-not-passes g c =
    let m = c.args.granules.now in
    sym (all_from-not (aux_test m c.args.test c.args.page.now) c.args.count c.loop-k.k c.loop-k-test.true
    (ap (aux_passes m c.args.test) (sym c.aux.ensures) ∙ sym c.passes.ensures ∙ c.if-not-passes.true))
    ∙ c.loop-k.invariant

pub loop-k-preserved : goal.loop-k-preserved
loop-k-preserved g c =
    let m = c.args.granules.now in
    sym (all_from-on (aux_test m c.args.test c.args.page.now) c.args.count c.loop-k.k c.loop-k-test.true
    (ap (aux_passes m c.args.test) (sym c.aux.ensures) ∙ sym c.passes.ensures ∙ c.if-not-passes.false))
    ∙ c.loop-k.invariant

pub returns : goal.returns
returns g c = sym (all_from-end (aux_test c.args.granules.now c.args.test c.args.page.now) c.args.count c.loop-k.k (omega arith)) ∙ c.loop-k.invariant
