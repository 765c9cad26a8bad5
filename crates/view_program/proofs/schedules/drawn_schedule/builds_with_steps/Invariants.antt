use Rattle.std.proofs.Common.{◌≡◌}
use Rattle.std.specs.Prelude.{filter}
use Rattle.std.specs.List.{range_with_len}
use Rattle.view_program.proofs.schedules.drawn_schedule.builds_with_steps.Given as goal
use Rattle.view_program.specs.Chosen.{could}

abbrev pub invariant-loop-build : goal.invariant-loop-build
invariant-loop-build l = l.builds.items ≡ filter (could l.left) (range_with_len 0 l.build)
