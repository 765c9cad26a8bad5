use Rattle.realm_plan.specs.PlanView.{plan_view}
use Rattle.plan_states.proofs.Reached.{of_runs-none}
use Rattle.plan_states.proofs.graph.search.Goals as goal

pub first_front-requires : goal.first_front-requires
first_front-requires c =
    of_runs-none (plan_view c.args.plan.now) c.new-explorer.result.turns.ends.items c.new-explorer.result.maps.items
    c.new-explorer.ensures.ends c.new-explorer.ensures.maps
