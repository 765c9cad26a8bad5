use Rattle.std.proofs.lemmas.Bool.{OnTrue_at, OnTrue_from}
use Rattle.realm_plan.specs.PlanView.{plan_view}
use Rattle.plan_states.specs.Runs.{ArePathsRuns}
use Rattle.plan_states.proofs.PathRuns.{paths_run}
use Rattle.plan_states.proofs.runs.are_paths_runs.Goals as goal

pub returns-clause-ok : goal.returns-clause-ok
returns-clause-ok c =
    let plan = plan_view c.args.plan.now in
    OnTrue_from c.is_complete.result (ArePathsRuns plan c.args.graph.now) (λ is.
    paths_run plan c.args.graph.now c.run_all.new.self.log c.run_all.new.self.visits.items c.in_ok-run_all.ensures.ok (OnTrue_at is c.is_complete.ensures))
