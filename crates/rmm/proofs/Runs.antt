-- Proofs that a REC's run goes on as each guest step's outcome says, and ends by an IRQ after 16 steps, or if no step
-- is queued.
use Rattle.std.proofs.Common.{◌≡◌, ℕ, suc, ◌+◌, ◌-◌, ◌<◌, ◌==◌, true, refl, sym, ap, ◌∙◌, arith}
use Rattle.rmi_abi.specs.declared.rec_run.ExitReason.TheVariants.{Irq}
use Rattle.rmi_abi.specs.RecRun.{only_reason}
use Rattle.rmm_model.specs.declared.rec.LastExit.TheVariants.{Other}
use Rattle.rmm_model.specs.declared.step.StepOutcome.{StepOutcome}
use Rattle.rmm_model.specs.Guest.{rec_in}
use Rattle.rmm_model.specs.Machine.{Machine}
use Rattle.rmm_model.specs.Command.RecEnter.{first_step_outcome, after_first_step, continued, after_exit, after_steps}

module _ (m after : Machine) (g flags i : ℕ) (then : after ≡ after_first_step m g flags) where
  -- if fewer than 16 steps of the guest are done, the outcome of the guest's next step decides how the run continues
  pub by_step : (outcome : StepOutcome) → i < 16 → outcome ≡ first_step_outcome m g flags → after_steps m g flags (16 - i) ≡ continued outcome after g (after_steps after g flags (16 - (i + 1)))
  unfolding after_steps
  by_step outcome lt is =
      let more : 16 - i ≡ suc (16 - (i + 1)) = omega arith in
      ap (λ (n : ℕ). after_steps m g flags n) more
      ∙ ap (λ (x : StepOutcome). continued x (after_first_step m g flags) g (after_steps (after_first_step m g flags) g flags (16 - (i + 1)))) (sym is)
      ∙ ap (λ (x : Machine). continued outcome x g (after_steps x g flags (16 - (i + 1)))) (sym then)

-- if fewer than 16 steps of the guest are done, and none is queued, the REC exits with an IRQ
pub after_steps-idle : (m : Machine) (g flags i : ℕ) → i < 16 → ((rec_in m g).step_count == 0) ≡ true → after_steps m g flags (16 - i) ≡ (true, after_exit m g (only_reason Irq) Other)
unfolding after_steps first_step_outcome after_first_step
after_steps-idle m g flags i lt idle =
    let more : 16 - i ≡ suc (16 - (i + 1)) = omega arith in
    ap (λ (n : ℕ). after_steps m g flags n) more ∙ rw idle refl

-- after 16 steps of the guest, the REC exits with an IRQ
pub after_steps-end : (m : Machine) (g flags i : ℕ) → i ≡ 16 → after_steps m g flags (16 - i) ≡ (true, after_exit m g (only_reason Irq) Other)
unfolding after_steps
after_steps-end m g flags i end =
    let none : 16 - i ≡ 0 = omega arith in
    ap (λ (n : ℕ). after_steps m g flags n) none
