use Rattle.std.proofs.Common.{sym, subst, ◌∙◌}
use Rattle.rmi_monitor.specs.Inside.{fields_of, seen_as, IsWhole}
use Rattle.rmi_monitor.proofs.Blocks.{whole_given, given_back}
use Rattle.rmi_monitor.proofs.monitor.Monitor.give.Goals as goal

pub invariant_of-self : goal.invariant_of-self
invariant_of-self g c =
    subst IsWhole (λ i. fields_of c.self.inside.vmids c.self.inside.aux c.self.inside.used c.self.inside.granules (sym c.give.ensures.cleared i) (sym c.give.ensures.given i) c.self.inside.realms.items
    c.self.inside.rec_counts.items c.self.inside.recs.items)
    (whole_given c.args.self.now _ c.self.view_is c.self.invariant (g.met.S.PageStore.sized c.self.inside.store) c.args.order c.args.first c.requires)

pub returns : goal.returns
returns g c =
    (λ i. seen_as (fields_of c.self.inside.vmids c.self.inside.aux c.self.inside.used c.self.inside.granules (c.give.ensures.cleared i) (c.give.ensures.given i) c.self.inside.realms.items
    c.self.inside.rec_counts.items c.self.inside.recs.items))
    ∙ given_back c.args.self.now _ c.self.view_is c.self.invariant (g.met.S.PageStore.sized c.self.inside.store) c.args.order c.args.first c.requires
