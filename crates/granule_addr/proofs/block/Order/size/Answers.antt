use Rattle.std.proofs.Common.{◌^◌, ◌≤◌, arith}
use Rattle.std.proofs.Math.Pow.{pow_mono}
use Rattle.granule_addr.proofs.block.Order.size.Goals as goal

pub returns-clause-at_most : goal.returns-clause-at_most
returns-clause-at_most c =
    let bound : 2 ^ c.self.inside.0 ≤ 512 = pow_mono c.self.invariant in
    omega arith
