use Rattle.std.proofs.Common.{sym, ◌∙◌}
use Rattle.plan_states.specs.Tallies.{end_tally, with_tally}
use Rattle.plan_states.proofs.Tallies.{added_more}
use Rattle.plan_states.proofs.outcomes.step_ends.Goals as goal

pub loop-number-preserved : goal.loop-number-preserved
loop-number-preserved c = λ are.
    c.in_ok-add.ensures ∙ (λ i. with_tally (c.in_ok-tally.ensures are i) (c.loop-number.invariant are i)) ∙ sym (added_more (end_tally c.args.graph.now) c.loop-number.number)
