use Rattle.std.proofs.Common.{ℕ, List, sym, subst, ap, ◌∙◌}
use Rattle.std.specs.Prelude.{option_map}
use Rattle.realm_plan.specs.PlanView.{plan_view}
use Rattle.plan_states.specs.Exploration.{IsExploration}
use Rattle.plan_states.specs.Shortest.{is_answered, shortest_tally, EndsWithAnswer}
use Rattle.plan_states.specs.Tallies.{PathCount, count_of_tally}
use Rattle.plan_states.specs.declared.question.TurnQuestion.{TurnQuestion}
use Rattle.plan_states.proofs.Builds.{builds_are}
use Rattle.plan_states.proofs.shortest.shortest_answer.Goals as goal

pub returns-then-not-is_answered-clause-ok : goal.returns-then-not-is_answered-clause-ok
returns-then-not-is_answered-clause-ok c = record {
  graph = c.in-All.graph;
  within = subst (IsExploration (plan_view c.args.plan.now) c.args.most) c.in-All.is c.in_ok-graph.ensures.ok;
  none = ap (λ n. is_answered c.in-All.graph n c.args.question) (sym (builds_are c.args.plan.now c.len-builds.result c.len-builds.ensures))
      ∙ sym c.is_answered.ensures ∙ c.if-not-is_answered.true;
}

pub returns-clause-ok : goal.returns-clause-ok
returns-clause-ok c = record {
  answers = subst (λ (schedule : List ℕ). EndsWithAnswer (plan_view c.args.plan.now) c.args.question schedule) c.deref.ensures.value
      (c.in_ok-answers.ensures.yes c.if-not-branch.false);
  graph = c.in-All.graph;
  within = subst (IsExploration (plan_view c.args.plan.now) c.args.most) c.in-All.is c.in_ok-graph.ensures.ok;
  is_first = ap (option_map (λ (tally : PathCount TurnQuestion). tally.first))
      (ap (λ n. shortest_tally c.in-All.graph n c.args.question) (sym (builds_are c.args.plan.now c.len-builds.result c.len-builds.ensures))
      ∙ sym c.in_ok-tally.ensures ∙ ap (option_map count_of_tally) c.in-Some.is);
}
