use Rattle.std.proofs.Common.{◌≡◌, ◌+◌, true, false, sym, subst, arith}
use Rattle.std.specs.List.{list_any, range_with_len}
use Rattle.host_ledger.specs.View.{world_of}
use Rattle.realm_host.specs.Refusals.{is_free_block}
use Rattle.history_calls.proofs.FreeBlocks.{leases_long, none_range, one_holds}
use Rattle.history_calls.proofs.free_block.has_block.Goals as goal

pub returns-then-is_free_at : goal.returns-then-is_free_at
returns-then-is_free_at g c =
    let first = c.loop-first.first in
    let pages = c.pages-first-end.ensures in
    let inside = c.loop-first-test.true in
    let here : first ≡ 0 + first = omega arith in
    sym (subst (λ n. list_any (is_free_block (world_of c.args.host.now) c.args.order) (range_with_len 0 n) ≡ true) (sym (leases_long c.args.host.now))
    (one_holds (is_free_block (world_of c.args.host.now) c.args.order) 0 c.args.host.now.limits.pages first (omega (arith, pages, inside))
    (subst (λ k. is_free_block (world_of c.args.host.now) c.args.order k ≡ true) here (sym c.if-is_free_at.ensures))))

pub returns : goal.returns
returns g c =
    let end = c.loop-first-test.false in
    let pages = c.pages-first-end.ensures in
    sym (subst (λ n. list_any (is_free_block (world_of c.args.host.now) c.args.order) (range_with_len 0 n) ≡ false) (sym (leases_long c.args.host.now))
    (none_range (is_free_block (world_of c.args.host.now) c.args.order) 0 c.args.host.now.limits.pages
    (λ k few. c.loop-first.invariant k (omega (arith, end, pages, few)))))
