use Rattle.std.proofs.Common.{◌≤◌, take, get_or, add-one, arith}
use Rattle.std.proofs.Math.Seq.{take-suc}
use Rattle.history_text.specs.Written.{granule}
use Rattle.history_text.proofs.Auxiliaries.{at_most_more}
use Rattle.history_text.proofs.law.granules_in_range.Goals as goal

pub loop-granule-preserved : goal.loop-granule-preserved
loop-granule-preserved c =
    let xs = c.args.granules.now in
    let item = get_or xs c.loop-granule.granule-index c.granule-item.result in
    let low : item ≤ granule = omega (arith, c.granule-item.is, c.number-number.ensures.value, c.number-number.ensures.below) in
    rw (add-one, take-suc xs c.loop-granule.granule-index c.granule-item.result c.loop-granule-test.true)
    (at_most_more (take c.loop-granule.granule-index xs) c.loop-granule.granule-index item granule c.loop-granule.invariant low)
