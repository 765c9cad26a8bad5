use Rattle.std.proofs.Common.{refl, ap, ◌∙◌}
use Rattle.host_ledger.specs.View.{HostView, mark_of}
use Rattle.host_ledger.proofs.Pointed.{kept_marked, view_marked, mark_told}
use Rattle.host_ledger.proofs.ledger.HostLedger.keep_mark.Goals as goal

pub invariant_of-self : goal.invariant_of-self
invariant_of-self c =
    kept_marked c.self.inside.builds.items c.self.inside.leases c.self.inside.holders c.self.inside.vmids c.self.inside.aux c.self.inside.capacity
    c.self.inside.history c.args.self.now c.self.view_is c.self.invariant c.args.build c.requires.there
    c.number.result c.index_mut.result.now c.number.ensures.value c.index_mut.ensures.value _ refl refl c.args.mark.now c.requires.now refl

pub returns-clause-kept : goal.returns-clause-kept
returns-clause-kept c =
    view_marked c.self.inside.builds.items c.self.inside.leases c.self.inside.holders c.self.inside.vmids c.self.inside.aux c.self.inside.capacity
    c.self.inside.history c.args.self.now c.self.view_is c.self.invariant c.args.build c.requires.there
    c.number.result c.index_mut.result.now c.number.ensures.value c.index_mut.ensures.value _ refl refl c.args.mark.now c.requires.now refl

pub returns-clause-told : goal.returns-clause-told
returns-clause-told c =
    ap (λ (h : HostView). mark_of h c.args.build) (returns-clause-kept c) ∙ mark_told c.self.inside.builds.items c.self.inside.leases c.self.inside.holders
    c.self.inside.vmids c.self.inside.aux c.self.inside.capacity c.self.inside.history c.args.self.now c.self.view_is c.self.invariant c.args.build c.requires.there c.args.mark.now
