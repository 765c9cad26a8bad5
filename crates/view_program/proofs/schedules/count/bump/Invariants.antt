use Rattle.std.proofs.Common.{◌≡◌, take}
use Rattle.view_program.proofs.Tallies.{AreBumped}
use Rattle.view_program.specs.Tally.{is_known}
use Rattle.view_program.proofs.schedules.count.bump.Given as goal

abbrev pub invariant-loop-tally : goal.invariant-loop-tally
invariant-loop-tally g l =
    AreBumped g.K.PartialEq.eq l.outcome l.initial.tallies l.tally-index l.tallies
    × (l.is_known ≡ is_known g.K.PartialEq.eq l.outcome (take l.tally-index l.initial.tallies))
