use Rattle.std.proofs.Common.{◌≡◌}
use Rattle.rmm_model.specs.Machine.{granule_count}
use Rattle.rmm_model.specs.Command.Auxiliary.{with_aux}
use Rattle.rmm.proofs.auxiliary.set_aux.Given as goal

abbrev pub invariant-loop-k : goal.invariant-loop-k
invariant-loop-k g l = record {
  made : l.granules ≡ with_aux l.fn.granules l.rec l.kept l.k;
  count : granule_count l.granules ≡ granule_count l.fn.granules;
}
