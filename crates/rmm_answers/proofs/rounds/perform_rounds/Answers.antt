use Rattle.std.proofs.Common.{◌-◌, ◌+◌, sym, ap, ◌∙◌, arith}
use Rattle.rmi_abi.specs.declared.registers.Registers.{Registers}
use Rattle.rmm_model.specs.Call.{rmi}
use Rattle.rmm_model.specs.Machine.{Machine}
use Rattle.rmm_answers.specs.Rounds.{more_rounds, performed_rounds}
use Rattle.rmm_answers.proofs.MoreRounds.{no_more, refused, one_more}
use Rattle.rmm_answers.proofs.rounds.perform_rounds.Goals as goal

pub rounds-preserved : goal.rounds-preserved
rounds-preserved g c =
    let step = c.smc-after-in-rounds.ensures ∙ ap (λ (r : Registers). rmi r c.rounds.rmm) c.registers_at-in-rounds.ensures in
    record {
      goes_on = ap (λ (after : Registers × Machine). more_rounds (c.rounds.left - 1) c.args.call.now (c.rounds.round + 1) after) step
          ∙ sym (one_more c.rounds.left (c.rounds.left - 1) c.args.call.now c.rounds.round (c.rounds.after, c.rounds.rmm) (omega arith) c.if-after-ne0.false)
          ∙ c.rounds.invariant.goes_on;
      count = omega (arith, c.rounds.invariant.count, c.rounds-test.true);
    }

pub returns-after-rounds : goal.returns-after-rounds
unfolding performed_rounds
returns-after-rounds g c = no_more c.rounds.left c.args.call.now c.rounds.round (c.rounds.after, c.rounds.rmm) (omega arith) ∙ c.rounds.invariant.goes_on

pub returns-then-after-ne0 : goal.returns-then-after-ne0
unfolding performed_rounds
returns-then-after-ne0 g c = refused c.rounds.left c.args.call.now c.rounds.round (c.rounds.after, c.rounds.rmm) c.if-after-ne0.true ∙ c.rounds.invariant.goes_on
