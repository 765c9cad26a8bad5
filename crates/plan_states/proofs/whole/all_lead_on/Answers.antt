use Rattle.std.proofs.Common.{◌&&◌, sym, ◌∙◌}
use Rattle.std.proofs.lemmas.List.Folds.{list_all_at, list_all_more}
use Rattle.realm_plan.specs.PlanView.{plan_view}
use Rattle.plan_states.specs.Whole.{leads_on}
use Rattle.plan_states.proofs.Loops.{all_pass}
use Rattle.plan_states.proofs.whole.all_lead_on.Goals as goal

pub returns-then-not-leads_on : goal.returns-then-not-leads_on
returns-then-not-leads_on c =
    sym (list_all_at (leads_on (plan_view c.args.plan.now) c.args.ends.now c.args.map_count c.args.done.now c.args.next.now) c.args.edges.now c.loop-edge.edge-index _
    c.loop-edge-test.true (sym c.if-not-leads_on.ensures))

pub loop-edge-preserved : goal.loop-edge-preserved
loop-edge-preserved c =
    list_all_more (leads_on (plan_view c.args.plan.now) c.args.ends.now c.args.map_count c.args.done.now c.args.next.now) c.args.edges.now c.loop-edge.edge-index _ c.loop-edge-test.true
    ∙ (λ i. c.loop-edge.invariant i && sym c.if-not-leads_on.ensures i)

pub returns : goal.returns
returns c =
    sym (all_pass (leads_on (plan_view c.args.plan.now) c.args.ends.now c.args.map_count c.args.done.now c.args.next.now) c.args.edges.now c.loop-edge.edge-index
    c.loop-edge-test.false c.loop-edge.invariant)
