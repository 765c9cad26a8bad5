-- The conditions under which calls, host accesses, interrupts, guest accesses and the queueing of guest steps are
-- refused.
use Rattle.std.specs.Prelude.{◌≡◌, ◌≢◌, ℕ, ◌-◌, ◌%◌, ◌^◌, ◌≤◌, ◌⊎◌, Bool, true, false, List, [], ◌∷◌, Option, Some}
use Rattle.rmi_abi.specs.declared.call.Call.{Call}
use Rattle.rmi_abi.specs.declared.call.Call.TheVariants.{RecEnter}
use Rattle.rmi_abi.specs.declared.word.Word.{Word}
use Rattle.rmi_abi.specs.declared.word.Word.TheVariants.{Success, Running}
use Rattle.rmm_model.specs.declared.granule.RmmGranuleState.TheVariants.{Undelegated}
use Rattle.rmm_model.specs.declared.step.GuestStep.{GuestStep}
use Rattle.rmm_model.specs.declared.step.GuestStep.TheVariants.{Write, Read, Fetch}
use Rattle.rmm_model.specs.declared.step.Queued.{Queued}
use Rattle.rmm_model.specs.declared.step.Queued.TheVariants.{Queued as IsQueued}
use Rattle.rmm_model.specs.declared.step.StepOutcome.{StepOutcome}
use Rattle.rmm_model.specs.declared.step.StepOutcome.TheVariants.{Result as IsResult}
use Rattle.rmm_model.specs.declared.step.StepResult.TheVariants.{Done}
use Rattle.rmm_model.specs.Guest.{rec_in, is_rec_named}
use Rattle.rmm_model.specs.Machine.{Machine, is_inside, is_secure, number_of, state_at}
use Rattle.rmm_model.specs.Rec.{is_running}
use Rattle.rmm_model.specs.Command.Operand.{rec_at}

-- X0 has the result word of a refusal: neither RMI_SUCCESS nor the word for a REC that is still running
abbrev pub IsRefused : ℕ → Type 0
IsRefused x0 = (x0 ≢ 0) × (x0 ≢ 2 ^ 64 - 2)

-- a result word is a refusal: neither RMI_SUCCESS nor the word for a REC that is still running
abbrev pub is_refusal : Word → Bool
is_refusal Success = false
is_refusal Running = false
is_refusal _ = true

-- a word is in a list of words
abbrev pub IsOneOf : Word → List Word → Type 0
IsOneOf word [] = ⊥
IsOneOf word (first ∷ rest) = (first ≡ word) ⊎ IsOneOf word rest

-- A call is RMI_REC_ENTER of a REC that is not RUNNING before the call, and is RUNNING after it.
abbrev pub IsRecEnter : Machine → Machine → Option Call → Type 0
IsRecEnter m n (Some (RecEnter rec run)) =
    (is_rec_named m rec ≡ true) × (is_running (rec_in m (number_of m rec)).state ≡ false) × (is_running (rec_in n (number_of m rec)).state ≡ true)
IsRecEnter m n _ = ⊥

-- A host's access at an address faults: the address is not a multiple of the access size, or is not in an UNDELEGATED
-- granule outside the secure world.
abbrev pub IsFault : Machine → ℕ → ℕ → Type 0
IsFault m size address = (address % size ≢ 0) ⊎ ((is_inside m address ≡ false) ⊎ ((state_at m address ≢ Undelegated) ⊎ (is_secure m address ≡ true)))

-- a guest step cannot be queued at the given address: no REC begins there, or the REC has 16 steps already
abbrev pub IsNotGiven : Machine → ℕ → Type 0
IsNotGiven m address = (is_rec_named m address ≡ false) ⊎ (16 ≤ (rec_at m address).step_count)

-- no REC begins at the given address, or the REC that begins there is not running
abbrev pub IsNotRunning : Machine → ℕ → Type 0
IsNotRunning m address = (is_rec_named m address ≡ false) ⊎ (is_running (rec_at m address).state ≡ false)

-- the answer says that a guest step was not queued: the REC has 16 steps already, or there is no REC
abbrev pub IsNotQueued : Queued → Type 0
IsNotQueued answer = answer ≢ IsQueued

-- a guest's step accesses memory
abbrev pub IsAccess : GuestStep → Type 0
IsAccess (Write ipa value size) = Unit {0}
IsAccess (Read ipa size) = Unit {0}
IsAccess (Fetch ipa) = Unit {0}
IsAccess _ = ⊥

-- the outcome of a guest's step is not `Done`
abbrev pub IsNotDone : StepOutcome → Type 0
IsNotDone outcome = outcome ≢ IsResult Done
