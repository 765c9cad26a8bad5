use Rattle.std.proofs.Common.{None, sym, arith}
use Rattle.realm_model.specs.World.{is_leased_to}
use Rattle.host_ledger.specs.View.{world_of}
use Rattle.history_calls.proofs.FreeBlocks.{all_range, one_fails}
use Rattle.history_calls.proofs.free_block.are_free.Goals as goal

pub returns-then-not-is_free : goal.returns-then-not-is_free
returns-then-not-is_free g c =
    sym (one_fails (is_leased_to None (world_of c.args.host.now).leases) c.args.first c.args.count c.loop-number.number c.loop-number-test.true
    (sym c.if-not-is_free.ensures))

pub returns : goal.returns
returns g c =
    let end = c.loop-number-test.false in
    sym (all_range (is_leased_to None (world_of c.args.host.now).leases) c.args.first c.args.count (λ k few. c.loop-number.invariant k (omega (arith, end, few))))
