use Rattle.std.proofs.Common.{◌≡◌, All, IsTrue, Some, drop}
use Rattle.realm_model.specs.Command.Check.{are_distinct}
use Rattle.realm_model.specs.StepLaw.{set_each}
use Rattle.rmi_monitor.specs.Places.{IsInState}
use Rattle.rmi_monitor.proofs.places.shift_all.Given as goal

abbrev pub invariant-loop-granule : goal.invariant-loop-granule
invariant-loop-granule l = record {
  left : set_each (record { state = l.to; realm = Some l.rd }) (drop l.granule-index l.all) l.granules ≡ set_each (record { state = l.to; realm = Some l.rd }) l.all l.fn.granules;
  stand : All (IsInState l.granules l.from) (drop l.granule-index l.all);
  distinct : IsTrue (are_distinct (drop l.granule-index l.all));
}
