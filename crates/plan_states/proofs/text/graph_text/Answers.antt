use Rattle.std.proofs.Common.{◌++◌, subst, ap, ◌∙◌}
use Rattle.realm_plan.specs.PlanView.{plan_view}
use Rattle.plan_states.specs.Lines.{outcomes_text}
use Rattle.plan_states.specs.Tallies.{AreOutcomes}
use Rattle.plan_states.proofs.Builds.{builds_are}
use Rattle.plan_states.proofs.text.graph_text.Goals as goal

pub returns : goal.returns
returns c =
    let plan = plan_view c.args.plan.now in
    let outcomes = c.in_ok-outcomes.outcomes in
    record {
      outcomes = outcomes;
      are_outcomes = subst (λ n. AreOutcomes n c.args.graph.now outcomes) (builds_are c.args.plan.now c.len.result c.len.ensures) c.in_ok-outcomes.ensures;
      whole = c.in_ok-push_outcomes.ensures ∙ ap (λ t. t ++ outcomes_text plan c.deref.result.now outcomes) c.new-text.ensures.bytes
          ∙ ap (λ maps. outcomes_text plan maps outcomes) c.deref.ensures.value;
    }
