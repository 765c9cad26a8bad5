use Rattle.std.proofs.Common.{refl}
use Rattle.explain.proofs.of_input.input_check.Goals as goal

pub returns : goal.returns
returns c = refl
