use Rattle.std.proofs.Common.{◌++◌, map, take, ap, ◌∙◌}
use Rattle.view_program.specs.Same.{same_end}
use Rattle.view_program.specs.Tally.{counted}
use Rattle.view_program.specs.Totals.{sighting_in}
use Rattle.view_program.proofs.Smooth.{seen_more}
use Rattle.view_program.proofs.schedules.add.count_ends.Goals as goal

pub loop-end-preserved : goal.loop-end-preserved
loop-end-preserved c = λ seen are.
    c.in_ok-count.ensures (seen ++ map (sighting_in c.args.choices.now) (take c.loop-end.end-index c.args.ends.now)) (c.loop-end.invariant seen are)
    ∙ ap (counted same_end) (seen_more c.args.choices.now seen c.args.ends.now c.loop-end.end-index c.end-item.result c.loop-end-test.true c.end-item.is)
