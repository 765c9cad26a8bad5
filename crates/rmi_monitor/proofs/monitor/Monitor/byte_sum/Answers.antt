use Rattle.std.proofs.Common.{◌<◌, ◌∙◌, sym, ap, subst}
use Rattle.std.specs.Prelude.{sum}
use Rattle.realm_model.specs.Machine.{Cell}
use Rattle.rmi_monitor.specs.Inside.{fields_of}
use Rattle.rmi_monitor.proofs.Granules.{as_many_granules, as_many_pages, cell_is}
use Rattle.rmi_monitor.proofs.Sums.{sum-table, sum-page}
use Rattle.rmi_monitor.proofs.monitor.Monitor.byte_sum.Goals as goal

pub state-requires : goal.state-requires
state-requires g c = subst (λ n. c.args.granule < n) (as_many_granules c.args.self.now _ c.self.view_is c.self.invariant) c.requires

pub bytes-requires : goal.bytes-requires
bytes-requires g c = subst (λ n. c.args.granule < n) (as_many_pages c.args.self.now _ c.self.view_is c.self.invariant) c.requires

pub returns-in-Rtt : goal.returns-in-Rtt
returns-in-Rtt g c =
    sum-table (fields_of c.self.inside.vmids c.self.inside.aux c.self.inside.used c.self.inside.granules (g.S.PageStore.page_bytes c.self.inside.store) (g.S.PageStore.free_flags c.self.inside.store)
    c.self.inside.realms.items c.self.inside.rec_counts.items c.self.inside.recs.items) c.args.granule (sym c.in-Rtt.ensures)
    ∙ sym (ap (λ (x : Cell). sum x.bytes) (cell_is c.args.self.now _ c.self.view_is c.self.invariant c.args.granule c.requires))

pub returns-in_default : goal.returns-in_default
returns-in_default g c =
    c.sum_of.ensures ∙ ap sum c.bytes.ensures.value
    ∙ sum-page (fields_of c.self.inside.vmids c.self.inside.aux c.self.inside.used c.self.inside.granules (g.S.PageStore.page_bytes c.self.inside.store) (g.S.PageStore.free_flags c.self.inside.store)
    c.self.inside.realms.items c.self.inside.rec_counts.items c.self.inside.recs.items) c.args.granule (λ e. c.in_default.not-Rtt (c.state.ensures ∙ e))
    ∙ sym (ap (λ (x : Cell). sum x.bytes) (cell_is c.args.self.now _ c.self.view_is c.self.invariant c.args.granule c.requires))
