use Rattle.std.proofs.Common.{refl}
use Rattle.explain.proofs.of_step.mark_check.Goals as goal

pub returns : goal.returns
returns c = refl
