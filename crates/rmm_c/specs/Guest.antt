-- The effect of the C functions that queue steps for the guests of RECs, interrupt RECs, and read the results of steps.
use Rattle.std.specs.Prelude.{ℕ, ◌+◌, ◌*◌, ◌&&◌, nat_lt, Option, Some, None, option_map, option_and_then, if◌then◌else◌}
use Rattle.rmi_abi.specs.Word.{number}
use Rattle.rmm_model.specs.declared.rec.RmmRec.{RmmRec}
use Rattle.rmm_model.specs.declared.step.Queued.{Queued}
use Rattle.rmm_model.specs.declared.step.Queued.TheVariants.{Queued as IsQueued, Full, NoRec}
use Rattle.rmm_model.specs.declared.step.StepWords.{StepWords}
use Rattle.rmm_model.specs.Granule.{rec_of}
use Rattle.rmm_model.specs.Guest.{queued}
use Rattle.rmm_model.specs.Host.{state_shown}
use Rattle.rmm_model.specs.Machine.{Machine}
use Rattle.rmm_model.specs.Command.RecEnter.{interrupted}
use Rattle.rmm.specs.Reading.{word_shown}
use Rattle.rmm_c.specs.declared.guest.RawStep.{RawStep}
use Rattle.rmm_c.specs.declared.guest.GuestStepResult.{GuestStepResult}

-- ---- steps

-- the kind and the operands of a step of a guest's program, from the C struct of the step
abbrev pub words_of : RawStep → StepWords
words_of step = record { kind = step.kind; a = step.a; b = step.b; c = step.c; d = step.d }

abbrev pub queued_code : Queued → ℕ
queued_code IsQueued = 0
queued_code Full = 1
queued_code NoRec = 2

-- The return code and the new machine after an attempt to queue a step for a REC's guest. A closed handle has no REC.
abbrev pub on_guest : ℕ → RawStep → Option Machine → ℕ × Option Machine
on_guest rec step (Some m) = (queued_code (queued m rec (words_of step)).0, Some (queued m rec (words_of step)).1)
on_guest rec step None = (2, None)

-- ---- the end of a run

-- the word that RMI_REC_ENTER returns when a REC's run is interrupted; none if the REC is not running
abbrev pub interrupt_word : ℕ → Machine → Option ℕ
interrupt_word rec m = option_map number (interrupted m rec).0

abbrev pub after_interrupt : ℕ → Machine → Machine
after_interrupt rec m = (interrupted m rec).1

-- ---- results

-- a result of a guest's step: its kind is word `first` of a REC's granule, and its value is the next word
abbrev pub outcome_shown : ℕ → ℕ → Machine → Option GuestStepResult
outcome_shown rec first m =
    option_and_then (λ kind. option_map (λ value. record { kind = kind; value = value }) (word_shown m rec (first + 1))) (word_shown m rec first)

-- result `k` of a REC's guest, if `k` is below 32 and below the number of results in the REC's attributes
abbrev pub outcome_in : ℕ → ℕ → Machine → RmmRec → Option GuestStepResult
outcome_in rec k m attributes = if nat_lt k 32 && nat_lt k attributes.result_count then outcome_shown rec (128 + 2 * k) m else None

-- Result `k` of the guest of the REC at an address, if there is such a result. Results are counted from the REC's last
-- entry on.
abbrev pub result_shown : ℕ → ℕ → Machine → Option GuestStepResult
result_shown rec k m = option_and_then (outcome_in rec k m) (option_and_then rec_of (state_shown m rec))
