use Rattle.std.proofs.Common.{◌-◌, ◌^◌, ◌≤◌, sym, arith}
use Rattle.std.proofs.lemmas.Bool.{lt-ltb}
use Rattle.std.proofs.Math.Pow.{pow_mono}
use Rattle.explain.proofs.of_input.is_protected_at.Goals as goal

pub returns-then-top-ge32 : goal.returns-then-top-ge32
returns-then-top-ge32 c =
    let is = c.saturating_sub-top.ensures in
    let large = c.if-top-ge32.true in
    let top : 32 ≤ c.args.width - 13 = omega (arith, is, large) in
    let more : 2 ^ 32 ≤ 2 ^ (c.args.width - 13) = pow_mono {i = 32} {j = c.args.width - 13} top in
    let small = c.ranges.ipa.fits in
    sym (lt-ltb c.args.ipa (2 ^ (c.args.width - 13)) (omega (arith, more, small)))
