-- The edit of a REC's attributes at a guest step that causes an exit.
use Rattle.std.specs.Prelude.{◌%◌, ◌==◌, false}
use Rattle.rmm_model.specs.declared.rec.PsciRequest.TheVariants.{CpuOn as CpuOnRequest, AffinityInfo as AffinityInfoRequest, Complete}
use Rattle.rmm_model.specs.declared.step.GuestStep.{GuestStep}
use Rattle.rmm_model.specs.declared.step.GuestStep.TheVariants.{SetRipas, CpuOn, AffinityInfo, CpuOff, CpuSuspend}
use Rattle.rmm_model.specs.Step.{ripas_of}
use Rattle.rmm_granules.specs.declared.rec_edit.RecEdit.{RecEdit}
use Rattle.rmm_granules.specs.declared.rec_edit.RecEdit.TheVariants.{Ripas, Psci, Runnable, Nothing}

-- the change of a REC's attributes at a guest step that causes an exit
abbrev pub exit_edit : GuestStep → RecEdit
exit_edit (SetRipas base top ripas more) = Ripas (record { base = base; top = top; ripas = ripas_of ripas; changes_destroyed = more % 2 == 1 })
exit_edit (CpuOn target entry_point context) = Psci (CpuOnRequest target entry_point context)
exit_edit (AffinityInfo target level) = Psci (AffinityInfoRequest target)
exit_edit CpuOff = Runnable false
exit_edit CpuSuspend = Psci (Complete 0)
exit_edit _ = Nothing
