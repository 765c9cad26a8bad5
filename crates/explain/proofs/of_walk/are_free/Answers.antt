use Rattle.std.proofs.Common.{sym, arith}
use Rattle.explain.specs.OfWalk.{is_free_entry}
use Rattle.explain.proofs.Lists.{all_range, one_fails}
use Rattle.explain.proofs.of_walk.are_free.Goals as goal

pub returns-then-not-is_free_entry : goal.returns-then-not-is_free_entry
returns-then-not-is_free_entry g c =
    sym (one_fails (is_free_entry c.args.host.now c.args.build) c.args.ipa c.args.count c.loop-number.number c.loop-number-test.true (sym c.if-not-is_free_entry.ensures))

pub returns : goal.returns
returns g c =
    let end = c.loop-number-test.false in
    sym (all_range (is_free_entry c.args.host.now c.args.build) c.args.ipa c.args.count (λ k few. c.loop-number.invariant k (omega (arith, end, few))))
