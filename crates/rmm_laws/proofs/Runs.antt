-- A proof that an RMI_REC_ENTER that is not refused is an entry, followed by a run of at most 16 guest steps.
use Rattle.std.proofs.Common.{◌≡◌, ℕ, zero, suc, Bool, false, refl, sym, subst}
use Rattle.rmi_abi.specs.declared.call.Call.TheVariants.{RecEnter}
use Rattle.rmi_abi.specs.declared.registers.SmcResult.{SmcResult}
use Rattle.rmi_abi.specs.declared.word.Word.{Word}
use Rattle.rmi_abi.specs.RecRun.{flags_in}
use Rattle.rmm_model.specs.declared.step.StepOutcome.{StepOutcome}
use Rattle.rmm_model.specs.declared.step.StepOutcome.TheVariants.{Result as IsResult, Exit as IsExit, Spin as Spins}
use Rattle.rmm_model.specs.Call.{performed}
use Rattle.rmm_model.specs.Machine.{Machine, number_of, page_in}
use Rattle.rmm_model.specs.Command.RecEnter.{rec_enter, entered_answer, after_entry, first_step_outcome, after_first_step, continued, after_steps}
use Rattle.rmm_laws.specs.Refusal.{is_refusal}
use Rattle.rmm_laws.specs.Run.{GoesOn, HasRun}
use Rattle.rmm_laws.proofs.Answered.{done_own}

goes_on : (outcome : StepOutcome) (m : Machine) (g : ℕ) (rest : Bool × Machine) (More : Word → Machine → Type 0) → More (entered_answer rest.0).word rest.1
    → GoesOn outcome m g (entered_answer (continued outcome m g rest).0).word (continued outcome m g rest).1 (More (entered_answer (continued outcome m g rest).0).word (continued outcome m g rest).1)
goes_on (IsResult r) m g rest More ran = ran
goes_on (IsExit exit last) m g rest More ran = (refl, refl)
goes_on Spins m g rest More ran = (refl, refl)

has_run : (count g flags : ℕ) (m : Machine) → HasRun m g flags count (entered_answer (after_steps m g flags count).0).word (after_steps m g flags count).1
unfolding after_steps HasRun
has_run zero g flags m = (refl, refl)
has_run (suc count) g flags m =
    let next : Machine = after_first_step m g flags in
    goes_on (first_step_outcome m g flags) next g (after_steps next g flags count) (HasRun next g flags count) (has_run count g flags next)

-- an RMI_REC_ENTER that is not refused has a run of at most 16 steps after the entry
pub entered_run : (m : Machine) (rec run : ℕ) → is_refusal (performed (RecEnter rec run) m).0.word ≡ false
    → HasRun (after_entry m (number_of m rec) run (flags_in (page_in m (number_of m run)))) (number_of m rec) (flags_in (page_in m (number_of m run))) 16 (performed (RecEnter rec run) m).0.word (performed (RecEnter rec run) m).1
unfolding rec_enter
entered_run m rec run done =
    let g : ℕ = number_of m rec in
    let flags : ℕ = flags_in (page_in m (number_of m run)) in
    subst (λ (p : SmcResult × Machine). HasRun (after_entry m g run flags) g flags 16 p.0.word p.1) (sym (done_own (RecEnter rec run) m done)) (has_run 16 g flags (after_entry m g run flags))
