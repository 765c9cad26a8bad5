use Rattle.std.proofs.Common.{◌≡◌, ◌+◌, true, sym, subst, arith}
use Rattle.explain.specs.OfBlock.{is_free_at}
use Rattle.explain.proofs.Lists.{none_range, one_holds}
use Rattle.explain.proofs.of_block.has_block.Goals as goal

pub returns-then-is_free_at : goal.returns-then-is_free_at
returns-then-is_free_at g c =
    let first = c.loop-first.first in
    let pages = c.pages-first-end.ensures in
    let inside = c.loop-first-test.true in
    let here : first ≡ 0 + first = omega arith in
    sym (one_holds (is_free_at c.args.host.now c.args.order) 0 c.args.host.now.limits.pages first (omega (arith, pages, inside))
    (subst (λ k. is_free_at c.args.host.now c.args.order k ≡ true) here (sym c.if-is_free_at.ensures)))

pub returns : goal.returns
returns g c =
    let end = c.loop-first-test.false in
    let pages = c.pages-first-end.ensures in
    sym (none_range (is_free_at c.args.host.now c.args.order) 0 c.args.host.now.limits.pages (λ k few. c.loop-first.invariant k (omega (arith, end, pages, few))))
