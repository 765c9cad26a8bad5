-- The attributes of RECs, and the addresses of their auxiliary granules. RMM 1.0, REC attributes. The words of a REC's
-- granule are this RMM's own. Words 0 to 30 are the general-purpose registers, 31 is the pc, and 32 to 47 are the
-- addresses of the auxiliary granules.
use Rattle.std.specs.Prelude.{ℕ, ◌+◌, ◌||◌, Bool, true, false, List}
use Rattle.page_arena.specs.Word.{word_of_page}
use Rattle.rmm_model.specs.declared.entry.RmmRipas.TheVariants.{Empty}
use Rattle.rmm_model.specs.declared.rec.LastExit.TheVariants.{Other}
use Rattle.rmm_model.specs.declared.rec.PsciRequest.TheVariants.{None as NoRequest}
use Rattle.rmm_model.specs.declared.rec.RmmRec.{RmmRec}
use Rattle.rmm_model.specs.declared.rec.RmmRecState.{RmmRecState}
use Rattle.rmm_model.specs.declared.rec.RmmRecState.TheVariants.{Ready, Running}
use Rattle.rmm_model.specs.declared.rec.RipasRequest.{RipasRequest}

abbrev pub no_request : RipasRequest
no_request = record { base = 0; top = 0; ripas = Empty; changes_destroyed = false }

-- The attributes of a READY REC without requests, results or steps, given whether the REC is runnable, and its MPIDR.
abbrev pub new_rec : Bool → ℕ → RmmRec
new_rec is_runnable mpidr = record {
  state = Ready;
  is_runnable = is_runnable;
  mpidr = mpidr;
  ripas = no_request;
  psci = NoRequest;
  exit = Other;
  run = 0;
  first_step = 0;
  step_count = 0;
  result_count = 0;
}

-- the placeholder REC that is used if a granule is not a REC, as after a failed check
abbrev pub no_rec : RmmRec
no_rec = new_rec false 0

abbrev pub is_running : RmmRecState → Bool
is_running Running = true
is_running Ready = false

-- the REC is on in the sense of PSCI: it is runnable or RUNNING
abbrev pub is_on : RmmRec → Bool
is_on rec = rec.is_runnable || is_running rec.state

-- the address of a REC's auxiliary granule k, read from the REC's granule
abbrev pub aux_of : List ℕ → ℕ → ℕ
aux_of page k = word_of_page page (32 + k)
