use Rattle.realm_plan.specs.PlanView.{plan_view}
use Rattle.plan_states.proofs.Reached.{of_runs-map}
use Rattle.plan_states.proofs.graph.Explorer.map_of.Goals as goal

pub returns-clause-ok : goal.returns-clause-ok
returns-clause-ok c =
    of_runs-map (plan_view c.args.plan.now) c.args.self.now.turns.ends.items c.args.self.now.maps.items c.number_of_map.new.maps.items c.in_ok-map.map
    c.in_ok-map.ensures.ok c.in_ok-number_of_map.ensures c.requires
