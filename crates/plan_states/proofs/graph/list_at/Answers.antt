use Rattle.std.proofs.Common.{refl, sym, ◌∙◌}
use Rattle.plan_states.proofs.Positions.{items_past, items_seen}
use Rattle.plan_states.proofs.graph.list_at.Goals as goal

pub returns-in-Some : goal.returns-in-Some
returns-in-Some g c =
    c.deref.ensures.value
    ∙ sym (items_seen c.args.lists.now c.args.lists.now c.args.place c.in-Some.list.now refl c.in-Some.ensures.lookup.3.0 c.in-Some.ensures.lookup.1)

pub returns-in-None : goal.returns-in-None
returns-in-None g c = sym (items_past c.args.lists.now c.args.place c.in-None.ensures.lookup.3)
