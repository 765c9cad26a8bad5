use Rattle.std.proofs.Common.{◌≡◌}
use Rattle.rmm_model.specs.Machine.{granule_count}
use Rattle.rmm_model.specs.Command.RealmDestroy.{without_tables}
use Rattle.rmm.proofs.realm_destroy.remove_tables.Given as goal

abbrev pub invariant-loop-k : goal.invariant-loop-k
invariant-loop-k g l = record {
  removed : l.granules ≡ without_tables l.fn.granules l.realm l.k;
  count : granule_count l.granules ≡ granule_count l.fn.granules;
}
