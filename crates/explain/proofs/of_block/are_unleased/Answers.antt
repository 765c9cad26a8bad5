use Rattle.std.proofs.Common.{sym, arith}
use Rattle.explain.specs.OfBlock.{is_unleased}
use Rattle.explain.proofs.Lists.{all_range, one_fails}
use Rattle.explain.proofs.of_block.are_unleased.Goals as goal

pub returns-then-not-is_unleased : goal.returns-then-not-is_unleased
returns-then-not-is_unleased g c =
    sym (one_fails (is_unleased c.args.host.now) c.args.first c.args.count c.loop-number.number c.loop-number-test.true (sym c.if-not-is_unleased.ensures))

pub returns : goal.returns
returns g c =
    let end = c.loop-number-test.false in
    sym (all_range (is_unleased c.args.host.now) c.args.first c.args.count (λ k few. c.loop-number.invariant k (omega (arith, end, few))))
