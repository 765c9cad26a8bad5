use Rattle.std.proofs.Common.{refl}
use Rattle.explain.proofs.of_build.build_there.Goals as goal

pub returns : goal.returns
returns g c = rw (c.build_count-builds.ensures.value, c.number.ensures.value) refl
