use Rattle.std.proofs.Common.{refl, sym, ap, ◌∙◌}
use Rattle.std.proofs.lemmas.Option.{slice_get_past}
use Rattle.realm_plan.specs.PlanView.{plan_view}
use Rattle.plan_states.specs.Whole.{leads_if_there}
use Rattle.plan_states.proofs.RunLogs.{seen_at_place}
use Rattle.plan_states.proofs.whole.leads_on.Goals as goal

pub returns-in-Some : goal.returns-in-Some
returns-in-Some c =
    c.leads_to_state.ensures
    ∙ ap (leads_if_there (plan_view c.args.plan.now) c.args.ends.now c.args.map_count c.args.done.now c.args.edge.now.label)
    (sym (seen_at_place c.args.next.now c.args.next.now c.args.edge.now.to c.in-Some.then.now refl c.in-Some.ensures.lookup.3.0 c.in-Some.ensures.lookup.1))

pub returns-in-None : goal.returns-in-None
returns-in-None c =
    sym (ap (leads_if_there (plan_view c.args.plan.now) c.args.ends.now c.args.map_count c.args.done.now c.args.edge.now.label)
    (slice_get_past c.args.next.now c.args.edge.now.to c.in-None.ensures.lookup.3))
