use Rattle.std.proofs.Common.{◌-◌, ◌^◌, ◌≤◌, arith}
use Rattle.std.proofs.Math.Pow.{pow_mono}
use Rattle.granule_addr.proofs.width.IpaWidth.start_count.Goals as goal

pub returns-clause-at_most : goal.returns-clause-at_most
returns-clause-at_most c =
    let few : c.self.inside.0 - 39 ≤ 4 = omega arith in
    let bound : 2 ^ (c.self.inside.0 - 39) ≤ 16 = pow_mono few in
    omega arith
