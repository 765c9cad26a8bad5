use Rattle.std.proofs.Common.{take}
use Rattle.std.specs.Fmt.{HasWritten, IsPlainFormatter}
use Rattle.plan_states.specs.OrderText.{turns_after}
use Rattle.plan_states.proofs.schedule_text.MoreTurnsDisplay.fmt.Given as goal

abbrev pub invariant-loop-build : goal.invariant-loop-build
invariant-loop-build g l =
    IsPlainFormatter l.initial.f → HasWritten g.W.Write.write_str_gives l.initial.f (turns_after (take l.build-index l.build-items)) l.f
