use Rattle.std.proofs.Common.{refl}
use Rattle.trace_program.proofs.Deciding.{extends_on, extends_same}
use Rattle.trace_program.proofs.reasons.push_passed.Goals as goal

pub loop-row-init : goal.loop-row-init
loop-row-init c = extends_same _ _ refl

pub loop-row-preserved : goal.loop-row-preserved
loop-row-preserved c = extends_on _ _ _ c.loop-row.invariant c.in_ok-push_if_passed.ensures
