use Rattle.std.proofs.Common.{sym, ◌∙◌, arith}
use Rattle.rmi_abi.specs.Gic.{is_gicv3_lr}
use Rattle.rmm_granules.proofs.Passing.{all_from-on, all_from-not, all_from-end}
use Rattle.rmm_granules.proofs.run_page.are_lrs.Goals as goal

pub returns-then-not-is_lr_allowed : goal.returns-then-not-is_lr_allowed
returns-then-not-is_lr_allowed c =
    sym (all_from-not (is_gicv3_lr c.args.num_lrs c.args.page.now) 16 c.loop-k.k c.loop-k-test.true (sym c.is_lr_allowed.ensures ∙ c.if-not-is_lr_allowed.true))
    ∙ c.loop-k.invariant

pub loop-k-preserved : goal.loop-k-preserved
loop-k-preserved c =
    sym (all_from-on (is_gicv3_lr c.args.num_lrs c.args.page.now) 16 c.loop-k.k c.loop-k-test.true (sym c.is_lr_allowed.ensures ∙ c.if-not-is_lr_allowed.false))
    ∙ c.loop-k.invariant

pub returns : goal.returns
returns c = sym (all_from-end (is_gicv3_lr c.args.num_lrs c.args.page.now) 16 c.loop-k.k (omega arith)) ∙ c.loop-k.invariant
