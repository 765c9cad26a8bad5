use Rattle.std.proofs.Common.{ℕ, sym, arith}
use Rattle.host_ledger.specs.View.{world_of}
use Rattle.realm_host.specs.Readings.{row_of}
use Rattle.history_calls.specs.Refused.{end_in, is_free_row}
use Rattle.history_calls.proofs.FreeBlocks.{all_range, one_fails}
use Rattle.history_calls.proofs.refusal.are_free.Goals as goal

pub returns-then-not-is_free : goal.returns-then-not-is_free
returns-then-not-is_free g c =
    sym (one_fails (λ (page : ℕ). is_free_row (end_in (row_of (world_of c.args.host.now) c.args.build) page 3)) c.args.first c.args.count c.loop-number.number
    c.loop-number-test.true (sym c.if-not-is_free.ensures))

pub returns : goal.returns
returns g c =
    let end = c.loop-number-test.false in
    sym (all_range (λ (page : ℕ). is_free_row (end_in (row_of (world_of c.args.host.now) c.args.build) page 3)) c.args.first c.args.count
    (λ k few. c.loop-number.invariant k (omega (arith, end, few))))
