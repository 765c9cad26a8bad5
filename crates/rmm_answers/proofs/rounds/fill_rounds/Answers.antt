use Rattle.std.proofs.Common.{◌-◌, ◌+◌, Bool, sym, ap, ◌∙◌, arith}
use Rattle.rmm_model.specs.Machine.{Machine}
use Rattle.rmm_answers.specs.Rounds.{more_fills, filled_rounds}
use Rattle.rmm_answers.proofs.MoreRounds.{no_more_fills, faulted, one_more_fill}
use Rattle.rmm_answers.proofs.rounds.fill_rounds.Goals as goal

pub rounds-preserved : goal.rounds-preserved
rounds-preserved g c = record {
  goes_on = ap (λ (after : Bool × Machine). more_fills (c.rounds.left - 1) c.args.operands.now (c.rounds.round + 1) after) c.fill_round-is_done-then-is_done.ensures
      ∙ sym (one_more_fill c.rounds.left (c.rounds.left - 1) c.args.operands.now c.rounds.round (c.rounds.is_done, c.rounds.rmm) (omega arith) c.if-is_done.true)
      ∙ c.rounds.invariant.goes_on;
  count = omega (arith, c.rounds.invariant.count, c.rounds-test.true);
}

pub returns-after-rounds : goal.returns-after-rounds
unfolding filled_rounds
returns-after-rounds g c = no_more_fills c.rounds.left c.args.operands.now c.rounds.round (c.rounds.is_done, c.rounds.rmm) (omega arith) ∙ c.rounds.invariant.goes_on

pub returns-else-is_done : goal.returns-else-is_done
unfolding filled_rounds
returns-else-is_done g c = faulted c.rounds.left c.args.operands.now c.rounds.round (c.rounds.is_done, c.rounds.rmm) c.if-is_done.false ∙ c.rounds.invariant.goes_on
