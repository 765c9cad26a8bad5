use Rattle.std.proofs.Common.{◌≡◌}
use Rattle.rmm_model.specs.Command.RttInitRipas.{rim_with_ripas}
use Rattle.rmm.proofs.init_ripas.rim_with_ripas.Given as goal

abbrev pub invariant-loop-k : goal.invariant-loop-k
invariant-loop-k l = l.rim ≡ rim_with_ripas l.realm.hash l.realm.rim l.size l.base l.k
