use Rattle.std.proofs.Common.{ap, sym, ◌∙◌}
use Rattle.host_ledger.specs.Marks.{mark_while}
use Rattle.host_ledger.specs.View.{mark_of}
use Rattle.host_ledger.proofs.Pointed.{idle, low}
use Rattle.host_ledger.proofs.ledger.HostLedger.open_count.Goals as goal

pub returns-clause-idle : goal.returns-clause-idle
returns-clause-idle c = λ none.
    idle c.self.inside.builds.items c.self.inside.leases c.self.inside.holders c.self.inside.vmids c.self.inside.aux c.self.inside.capacity
    c.self.inside.history c.args.self.now c.self.view_is c.self.invariant c.args.build c.requires
    c.number.result c.index.result.now c.number.ensures.value c.index.ensures (sym c.len.ensures.value ∙ none)

pub returns-clause-low : goal.returns-clause-low
returns-clause-low c =
    ap (λ n. mark_while n (mark_of c.args.self.now c.args.build)) c.len.ensures.value
    ∙ low c.self.inside.builds.items c.self.inside.leases c.self.inside.holders c.self.inside.vmids c.self.inside.aux c.self.inside.capacity
    c.self.inside.history c.args.self.now c.self.view_is c.self.invariant c.args.build c.requires
    c.number.result c.index.result.now c.number.ensures.value c.index.ensures
