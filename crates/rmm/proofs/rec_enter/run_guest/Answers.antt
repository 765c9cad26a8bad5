use Rattle.std.proofs.Common.{true, sym, ap, ◌∙◌, arith}
use Rattle.rmm_model.specs.Machine.{Machine}
use Rattle.rmm.proofs.Runs.{after_steps-idle}
use Rattle.rmm.proofs.rec_enter.run_guest.Goals as goal

pub returns-then-is_idle : goal.returns-then-is_idle
returns-then-is_idle g c =
    ap (λ (m : Machine). (true, m)) c.leave_by_irq.ensures.machine
    ∙ sym (after_steps-idle c.args.granules.now c.args.g c.args.flags 0 (omega arith) (sym c.is_idle.ensures ∙ c.if-is_idle.true))
