use Rattle.std.proofs.Common.{◌≡◌, ◌<◌, length}
use Rattle.rmm_model.specs.Machine.{granule_count, page_in}
use Rattle.rmm_model.specs.Command.RipasRange.{with_ripas_from}
use Rattle.rmm.proofs.ripas_range.write_ripas.Given as goal

abbrev pub invariant-loop-k : goal.invariant-loop-k
invariant-loop-k g l = record {
  changed : l.granules ≡ with_ripas_from l.fn.granules l.found.table l.first l.ripas l.k;
  count : granule_count l.granules ≡ granule_count l.fn.granules;
  known : 0 < l.k → length (page_in l.fn.granules l.found.table) ≡ 4096;
}
