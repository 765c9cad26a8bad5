use Rattle.std.proofs.Common.{ℕ, ◌+◌, ◌≤◌, refl, sym, ap, subst, ◌∙◌}
use Rattle.host_ledger.proofs.Readings.{used_told, used_fits}
use Rattle.host_ledger.proofs.ledger.HostLedger.used.Goals as goal

pub returns-clause-value : goal.returns-clause-value
returns-clause-value c =
    ap (λ (n : ℕ). c.index-kept.result.now.events + n + c.index-kept.result.now.running) c.len.ensures.value
    ∙ used_told _ c.self.inside.builds.items c.self.inside.leases c.self.inside.holders c.self.inside.vmids c.self.inside.history c.self.invariant
    c.args.self.now c.self.view_is c.args.build c.requires refl c.number.result c.index-kept.result.now c.number.ensures.value c.index-kept.ensures

pub returns-clause-fits : goal.returns-clause-fits
returns-clause-fits c =
    subst (λ (n : ℕ). c.index-kept.result.now.events + n + c.index-kept.result.now.running ≤ c.args.self.now.capacity) (sym c.len.ensures.value)
    (used_fits _ c.self.inside.builds.items c.self.inside.leases c.self.inside.holders c.self.inside.vmids c.self.inside.history c.self.invariant
    c.args.self.now c.self.view_is c.args.build c.requires refl c.number.result c.index-kept.result.now c.number.ensures.value c.index-kept.ensures)
