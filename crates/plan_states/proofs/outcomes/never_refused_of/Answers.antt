use Rattle.std.proofs.Common.{sym, ◌∙◌}
use Rattle.plan_states.specs.Tallies.{never_refused_tally, with_tally}
use Rattle.plan_states.proofs.Tallies.{added_more}
use Rattle.plan_states.proofs.outcomes.never_refused_of.Goals as goal

pub loop-build-preserved : goal.loop-build-preserved
loop-build-preserved c =
    c.in_ok-add.ensures ∙ (λ i. with_tally (c.in_ok-tally.ensures i) (c.loop-build.invariant i)) ∙ sym (added_more (never_refused_tally c.args.graph.now) c.loop-build.build)
