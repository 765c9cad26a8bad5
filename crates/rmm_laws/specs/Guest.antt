-- Conditions on new RECs, on guest steps, on values that guests read from the host, and on RECs that are entered after
-- an unanswered exit.
use Rattle.std.specs.Prelude.{◌≡◌, ℕ, ◌<◌, Bool, true, false}
use Rattle.page_arena.specs.Word.{word_of_page}
use Rattle.rmi_abi.specs.RecParams.{is_runnable_in, mpidr_in}
use Rattle.rmi_abi.specs.RecRun.{injects_sea, emulates_mmio}
use Rattle.rmm_model.specs.declared.access.AccessSize.{AccessSize}
use Rattle.rmm_model.specs.declared.granule.RmmGranuleState.TheVariants.{Undelegated, Rec}
use Rattle.rmm_model.specs.declared.realm.RmmRealm.{RmmRealm}
use Rattle.rmm_model.specs.declared.rec.LastExit.{LastExit}
use Rattle.rmm_model.specs.declared.rec.LastExit.TheVariants.{Other, EmulatableAbort, UnprotectedAbort}
use Rattle.rmm_model.specs.declared.rec.PsciRequest.{PsciRequest}
use Rattle.rmm_model.specs.declared.rec.PsciRequest.TheVariants.{Complete}
use Rattle.rmm_model.specs.declared.rec.RmmRec.{RmmRec}
use Rattle.rmm_model.specs.declared.step.GuestStep.{GuestStep}
use Rattle.rmm_model.specs.declared.step.GuestStep.TheVariants.{Write}
use Rattle.rmm_model.specs.Access.{value_in}
use Rattle.rmm_model.specs.Granule.{of_realm}
use Rattle.rmm_model.specs.Guest.{first_step}
use Rattle.rmm_model.specs.Machine.{Machine, granule_at, granule_count, page_in, number_of}
use Rattle.rmm_model.specs.Rec.{new_rec}
use Rattle.rmm_model.specs.Command.RecCreate.{rec_page}
use Rattle.rmm_model.specs.Command.RecEnter.{running_at, step_outcome, after_step, with_step_passed, first_step_outcome, after_first_step}
use Rattle.rmm_laws.specs.Apart.{IsNormal}

-- a new REC has the attributes and the registers that the parameters of its creation ask for
abbrev pub IsRecMadeOf : Machine → Machine → ℕ → ℕ → ℕ → Type 0
IsRecMadeOf m n rd rec params =
    let page = page_in m (number_of m params) in
    (granule_at n (number_of m rec) ≡ of_realm (number_of m rd) (Rec (new_rec (is_runnable_in page) (mpidr_in page)))) × (page_in n (number_of m rec) ≡ rec_page page)

-- a guest's step writes memory
abbrev pub is_write : GuestStep → Bool
is_write (Write ipa value size) = true
is_write _ = false

-- an access can read the value from some host page of the machine, outside the secure world
abbrev pub IsHostValue : Machine → AccessSize → ℕ → ℕ → Type 0
IsHostValue m size ipa value = (h : ℕ) × (h < granule_count m) × ((granule_at m h).state ≡ Undelegated) × IsNormal m h × (value ≡ value_in (page_in m h) size ipa)

-- the first queued step of a REC's guest has the outcome and the effect of a step that is performed for the given realm
abbrev pub IsStepFor : Machine → RmmRealm → ℕ → ℕ → Type 0
IsStepFor m realm g flags =
    let outcome = step_outcome m realm g flags (first_step m g) in
    (first_step_outcome m g flags ≡ outcome) × (after_first_step m g flags ≡ with_step_passed (after_step m realm g (first_step m g) outcome) g outcome)

-- a PSCI request is complete and has a result
abbrev pub is_completed : PsciRequest → Bool
is_completed (Complete value) = true
is_completed _ = false

-- The host gives no answer to a REC's last exit. After an abort at an unprotected address, the flags do not inject an
-- SEA, and do not emulate an access that can be emulated. After an exit that takes no answer, no PSCI request is
-- completed.
abbrev pub IsUnanswered : LastExit → PsciRequest → ℕ → Type 0
IsUnanswered EmulatableAbort psci flags = (injects_sea flags ≡ false) × (emulates_mmio flags ≡ false)
IsUnanswered UnprotectedAbort psci flags = injects_sea flags ≡ false
IsUnanswered Other psci flags = is_completed psci ≡ false
IsUnanswered last psci flags = ⊥

-- A REC is entered as it was left, with the same registers and queued guest steps, and with no results of guest steps.
-- Words 0 to 191 of its page are those of before the entry.
abbrev pub IsAsLeft : Machine → Machine → ℕ → RmmRec → ℕ → Type 0
IsAsLeft m n g rec address =
    ((granule_at n g).state ≡ Rec (running_at rec address)) × ((i : ℕ) → i < 192 → word_of_page (page_in n g) i ≡ word_of_page (page_in m g) i)
