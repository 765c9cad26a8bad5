-- The attributes of a REC after an edit of the REC.
use Rattle.std.specs.Prelude.{◌+◌, ◌-◌, ◌%◌}
use Rattle.rmm_model.specs.declared.rec.LastExit.TheVariants.{Other}
use Rattle.rmm_model.specs.declared.rec.RmmRec.{RmmRec}
use Rattle.rmm_model.specs.declared.rec.RmmRecState.TheVariants.{Ready, Running}
use Rattle.rmm_granules.specs.declared.rec_edit.RecEdit.{RecEdit}
use Rattle.rmm_granules.specs.declared.rec_edit.RecEdit.TheVariants.{Enter, Leave, PassStep, Steps, AddResult, Ripas, Psci, Runnable, Nothing}

-- the attributes of a REC after an edit
abbrev pub edited : RecEdit → RmmRec → RmmRec
edited (Enter run) rec = record rec { state = Running; run = run; exit = Other; result_count = 0 }
edited (Leave last) rec = record rec { state = Ready; exit = last }
edited PassStep rec = record rec { first_step = (rec.first_step % 16 + 1) % 16; step_count = rec.step_count - 1 }
edited (Steps count) rec = record rec { step_count = count }
edited AddResult rec = record rec { result_count = (rec.result_count % 32 + 1) % 32 }
edited (Ripas request) rec = record rec { ripas = request }
edited (Psci request) rec = record rec { psci = request }
edited (Runnable is_runnable) rec = record rec { is_runnable = is_runnable }
edited Nothing rec = rec
