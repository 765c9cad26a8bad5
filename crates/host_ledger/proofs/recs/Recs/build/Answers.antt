use Rattle.std.proofs.Common.{arith}
use Rattle.host_ledger.proofs.RecsFollow.{none_rise}
use Rattle.host_ledger.proofs.recs.Recs.build.Goals as goal

pub invariant_of-result : goal.invariant_of-result
invariant_of-result c =
    let room = c.in_ok-entries.ensures.capacity in
    let len = c.in_ok-entries.ensures.len in
    (omega (arith, room), omega (arith, len), none_rise c.in_ok-entries.entries.items c.in_ok-entries.ensures.items)
