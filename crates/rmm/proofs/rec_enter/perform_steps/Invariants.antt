use Rattle.std.proofs.Common.{◌≡◌, ◌-◌}
use Rattle.rmm_model.specs.Machine.{granule_count}
use Rattle.rmm_model.specs.Command.RecEnter.{after_steps}
use Rattle.rmm.proofs.rec_enter.perform_steps.Given as goal

abbrev pub invariant-loop-i : goal.invariant-loop-i
invariant-loop-i g l = record {
  goes_on : after_steps l.granules l.g l.flags (16 - l.i) ≡ after_steps l.fn.granules l.g l.flags 16;
  count : granule_count l.granules ≡ granule_count l.fn.granules;
}
