use Rattle.std.proofs.Common.{true, sym, ap, ◌∙◌, arith}
use Rattle.rmm_model.specs.Machine.{Machine}
use Rattle.rmm.proofs.Runs.{by_step, after_steps-idle, after_steps-end}
use Rattle.rmm.proofs.rec_enter.perform_steps.Goals as goal
use Rattle.rmm.proofs.rec_enter.perform_steps.Goals.{else-loop-i-test, then-loop-i-test+then-is_idle}

pub loop-i-preserved : goal.loop-i-preserved
loop-i-preserved g c = record {
  goes_on = sym (by_step c.loop-i.granules c.perform_first.new.granules c.args.g c.args.flags c.loop-i.i c.in-Result.ensures.machine _ c.loop-i-test.true c.in-Result.ensures.outcome)
      ∙ c.loop-i.invariant.goes_on;
  count = c.in-Result.ensures.count ∙ c.loop-i.invariant.count;
}

pub returns-in-Exit : goal.returns-in-Exit
returns-in-Exit g c =
    ap (λ (m : Machine). (true, m)) c.leave.ensures.machine
    ∙ sym (by_step c.loop-i.granules c.perform_first.new.granules c.args.g c.args.flags c.loop-i.i c.in-Exit.ensures.machine _ c.loop-i-test.true c.in-Exit.ensures.outcome)
    ∙ c.loop-i.invariant.goes_on

pub returns-in-Spin : goal.returns-in-Spin
returns-in-Spin g c =
    sym (by_step c.loop-i.granules c.perform_first.new.granules c.args.g c.args.flags c.loop-i.i c.in-Spin.ensures.machine _ c.loop-i-test.true c.in-Spin.ensures.outcome)
    ∙ c.loop-i.invariant.goes_on

pub returns : goal.returns
returns g c =
    ap (λ (m : Machine). (true, m)) c.leave_by_irq.ensures.machine
    ∙ sym (elim c.loop-i-test.branch [
      | else-loop-i-test w ↦ after_steps-end c.loop-i.granules c.args.g c.args.flags c.loop-i.i (omega arith)
      | then-loop-i-test+then-is_idle w ↦ after_steps-idle c.loop-i.granules c.args.g c.args.flags c.loop-i.i (omega arith) (sym w.is_idle.ensures ∙ w.if-is_idle.true)
    ])
    ∙ c.loop-i.invariant.goes_on
