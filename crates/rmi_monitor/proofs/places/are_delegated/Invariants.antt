use Rattle.std.proofs.Common.{◌≡◌, drop}
use Rattle.std.specs.List.{list_all}
use Rattle.rmi_monitor.specs.Places.{is_delegated_at}
use Rattle.rmi_monitor.proofs.places.are_delegated.Given as goal

abbrev pub invariant-loop-granule : goal.invariant-loop-granule
invariant-loop-granule l = list_all (is_delegated_at l.granules) (drop l.granule-index l.all) ≡ list_all (is_delegated_at l.granules) l.all
