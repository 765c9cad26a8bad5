use Rattle.std.proofs.Common.{sym, ap, ◌∙◌}
use Rattle.host_ledger.specs.declared.build.Build.{Build}
use Rattle.host_ledger.specs.View.{HostView, is_aborting}
use Rattle.host_ledger.proofs.Pointed.{kept_begun, view_begun, flag_begun}
use Rattle.host_ledger.proofs.ledger.HostLedger.begin_abort.Goals as goal

pub invariant_of-self : goal.invariant_of-self
invariant_of-self c =
    kept_begun c.self.inside.builds.items c.self.inside.leases c.self.inside.holders c.self.inside.vmids c.self.inside.aux c.self.inside.capacity
    c.self.inside.history c.args.self.now c.self.view_is c.self.invariant c.args.build c.requires
    c.number.result c.index_mut.result.now c.number.ensures.value c.index_mut.ensures.value c.begin_abort.new.self
    (c.begin_abort.ensures ∙ sym (ap (λ (b : Build). record c.index_mut.result.now { aborting = b.aborting; mark = b.mark }) c.begin_abort.ensures))
    (ap (λ (b : Build). b.mark) c.begin_abort.ensures) (ap (λ (b : Build). b.aborting) c.begin_abort.ensures)

pub returns-clause-begun : goal.returns-clause-begun
returns-clause-begun c =
    view_begun c.self.inside.builds.items c.self.inside.leases c.self.inside.holders c.self.inside.vmids c.self.inside.aux c.self.inside.capacity
    c.self.inside.history c.args.self.now c.self.view_is c.self.invariant c.args.build c.requires
    c.number.result c.index_mut.result.now c.number.ensures.value c.index_mut.ensures.value c.begin_abort.new.self
    (c.begin_abort.ensures ∙ sym (ap (λ (b : Build). record c.index_mut.result.now { aborting = b.aborting; mark = b.mark }) c.begin_abort.ensures))
    (ap (λ (b : Build). b.mark) c.begin_abort.ensures) (ap (λ (b : Build). b.aborting) c.begin_abort.ensures)

pub returns-clause-flag : goal.returns-clause-flag
returns-clause-flag c =
    ap (λ (h : HostView). is_aborting h c.args.build) (returns-clause-begun c)
    ∙ flag_begun c.self.inside.builds.items c.self.inside.leases c.self.inside.holders c.self.inside.vmids c.self.inside.aux c.self.inside.capacity
    c.self.inside.history c.args.self.now c.self.view_is c.self.invariant c.args.build c.requires
