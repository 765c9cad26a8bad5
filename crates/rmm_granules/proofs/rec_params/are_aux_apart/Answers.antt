use Rattle.std.proofs.Common.{sym, ◌∙◌, arith}
use Rattle.rmm_model.specs.Command.RecCreate.{is_apart}
use Rattle.rmm_granules.proofs.Passing.{all_from-on, all_from-not, all_from-end}
use Rattle.rmm_granules.proofs.rec_params.are_aux_apart.Goals as goal

pub returns-then-not-is_apart : goal.returns-then-not-is_apart
returns-then-not-is_apart g c =
    sym (all_from-not (is_apart c.args.rec c.args.page.now) c.args.count c.loop-k.k c.loop-k-test.true (sym c.is_apart.ensures ∙ c.if-not-is_apart.true)) ∙ c.loop-k.invariant

pub loop-k-preserved : goal.loop-k-preserved
loop-k-preserved g c =
    sym (all_from-on (is_apart c.args.rec c.args.page.now) c.args.count c.loop-k.k c.loop-k-test.true (sym c.is_apart.ensures ∙ c.if-not-is_apart.false)) ∙ c.loop-k.invariant

pub returns : goal.returns
returns g c = sym (all_from-end (is_apart c.args.rec c.args.page.now) c.args.count c.loop-k.k (omega arith)) ∙ c.loop-k.invariant
