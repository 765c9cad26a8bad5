use Rattle.std.proofs.Common.{◌≡◌, drop}
use Rattle.realm_model.specs.Command.Check.{is_apart_from}
use Rattle.rmi_monitor.proofs.places.is_apart.Given as goal

abbrev pub invariant-loop-other : goal.invariant-loop-other
invariant-loop-other l = is_apart_from l.granule (drop l.other-index l.others) ≡ is_apart_from l.granule l.others
