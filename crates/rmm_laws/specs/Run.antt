-- The run of a REC, of at most a given number of guest steps, until an exit or until the guest spins. RMM 1.0,
-- RMI_REC_ENTER.
use Rattle.std.specs.Prelude.{◌≡◌, ℕ, zero, suc}
use Rattle.rmi_abi.specs.declared.rec_run.ExitReason.TheVariants.{Irq}
use Rattle.rmi_abi.specs.declared.word.Word.{Word}
use Rattle.rmi_abi.specs.declared.word.Word.TheVariants.{Success, Running}
use Rattle.rmi_abi.specs.RecRun.{only_reason}
use Rattle.rmm_model.specs.declared.rec.LastExit.TheVariants.{Other}
use Rattle.rmm_model.specs.declared.step.StepOutcome.{StepOutcome}
use Rattle.rmm_model.specs.declared.step.StepOutcome.TheVariants.{Result as IsResult, Exit as IsExit, Spin as Spins}
use Rattle.rmm_model.specs.Machine.{Machine}
use Rattle.rmm_model.specs.Command.RecEnter.{after_exit, first_step_outcome, after_first_step}

-- If a guest step's outcome ends a REC's run, the run ends with the given word and machine; otherwise a given
-- statement, on the rest of the run, holds. After a result the run goes on, an exit ends it with RMI_SUCCESS, and
-- spinning ends it with the word for a REC that is still running.
abbrev pub GoesOn : StepOutcome → Machine → ℕ → Word → Machine → Type 0 → Type 0
GoesOn (IsResult r) m g word n rest = rest
GoesOn (IsExit exit last) m g word n rest = (word ≡ Success) × (n ≡ after_exit m g exit last)
GoesOn Spins m g word n rest = (word ≡ Running) × (n ≡ m)

-- A REC's run of at most a given number of guest steps ends with the given result word and machine. If no step ends the
-- run, the REC exits by an IRQ, as if by a timer of the host.
unfoldable pub HasRun : Machine → ℕ → ℕ → ℕ → Word → Machine → Type 0
HasRun m g flags zero word n = (word ≡ Success) × (n ≡ after_exit m g (only_reason Irq) Other)
HasRun m g flags (suc count) word n =
    GoesOn (first_step_outcome m g flags) (after_first_step m g flags) g word n (HasRun (after_first_step m g flags) g flags count word n)
