use Rattle.std.proofs.Common.{◌≡◌, drop, Some}
use Rattle.std.specs.List.{list_all}
use Rattle.realm_model.specs.World.{is_leased_to}
use Rattle.host_ledger.specs.View.{world_of}
use Rattle.realm_host.proofs.host.Host.leases_all.Given as goal

abbrev pub invariant-loop-granule : goal.invariant-loop-granule
invariant-loop-granule g l =
    list_all (is_leased_to (Some l.build) (world_of l.self).leases) (drop l.granule-index l.granules)
    ≡ list_all (is_leased_to (Some l.build) (world_of l.self).leases) l.granules
