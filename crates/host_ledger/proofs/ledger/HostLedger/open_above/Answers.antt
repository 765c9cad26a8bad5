use Rattle.std.proofs.Common.{◌≤◌, drop, length, refl, sym, ap, subst, ◌∙◌}
use Rattle.host_ledger.proofs.Readings.{journal_told}
use Rattle.host_ledger.proofs.ledger.HostLedger.open_above.Goals as goal

pub above-requires : goal.above-requires
above-requires c =
    subst (λ acts. c.args.count ≤ length acts)
    (sym (journal_told _ c.self.inside.builds.items c.self.inside.leases c.self.inside.holders c.self.inside.vmids c.self.inside.history c.self.invariant
    c.args.self.now c.self.view_is c.args.build c.requires.there refl c.number.result c.index.result.now c.number.ensures.value c.index.ensures))
    c.requires.enough

pub returns : goal.returns
returns c =
    c.above.ensures
    ∙ ap (drop c.args.count) (journal_told _ c.self.inside.builds.items c.self.inside.leases c.self.inside.holders c.self.inside.vmids c.self.inside.history c.self.invariant
    c.args.self.now c.self.view_is c.args.build c.requires.there refl c.number.result c.index.result.now c.number.ensures.value c.index.ensures)
