-- A proof that the RMM's edit of a REC at an exit gives the REC the attributes that the model prescribes.
use Rattle.std.proofs.Common.{◌≡◌, refl}
use Rattle.rmm_model.specs.declared.rec.RmmRec.{RmmRec}
use Rattle.rmm_model.specs.declared.step.GuestStep.{GuestStep}
use Rattle.rmm_model.specs.declared.step.GuestStep.TheVariants.{Write, Read, Fetch, HostCall, SetRipas, CpuOn, AffinityInfo, CpuOff, CpuSuspend, SystemOff, SystemReset}
use Rattle.rmm_model.specs.declared.step.GuestStep.TheVariants.{Wfi, Wfe, SystemRegister, Spin}
use Rattle.rmm_model.specs.Step.{rec_after_exit}
use Rattle.rmm_granules.specs.RecEdits.{edited}
use Rattle.rmm.specs.ExitEdits.{exit_edit}

-- the edit of a REC at an exit gives the REC's attributes after the exit
pub edited-exit : (step : GuestStep) (rec : RmmRec) → edited (exit_edit step) rec ≡ rec_after_exit rec step
edited-exit (Write ipa value size) rec = refl
edited-exit (Read ipa size) rec = refl
edited-exit (Fetch ipa) rec = refl
edited-exit (HostCall imm gpr0 gpr1 gpr2) rec = refl
edited-exit (SetRipas base top ripas more) rec = refl
edited-exit (CpuOn target entry_point context) rec = refl
edited-exit (AffinityInfo target level) rec = refl
edited-exit CpuOff rec = refl
edited-exit CpuSuspend rec = refl
edited-exit SystemOff rec = refl
edited-exit SystemReset rec = refl
edited-exit Wfi rec = refl
edited-exit Wfe rec = refl
edited-exit (SystemRegister iss value) rec = refl
edited-exit Spin rec = refl
