use Rattle.std.proofs.Common.{◌<◌, sym, subst}
use Rattle.realm_model.specs.Machine.{Cell}
use Rattle.rmi_monitor.specs.View.{IsPageOf}
use Rattle.rmi_monitor.specs.Inside.{fields_of}
use Rattle.rmi_monitor.proofs.Granules.{as_many_pages, cell_is}
use Rattle.rmi_monitor.proofs.Machines.{IsPageOf-cell_of}
use Rattle.rmi_monitor.proofs.monitor.Monitor.bytes.Goals as goal

pub bytes-requires : goal.bytes-requires
bytes-requires g c = subst (λ n. c.args.granule < n) (as_many_pages c.args.self.now _ c.self.view_is c.self.invariant) c.requires

pub returns-clause-value : goal.returns-clause-value
returns-clause-value g c =
    subst (λ (x : Cell). IsPageOf x c.bytes.result.now) (sym (cell_is c.args.self.now _ c.self.view_is c.self.invariant c.args.granule c.requires))
    (IsPageOf-cell_of (fields_of c.self.inside.vmids c.self.inside.aux c.self.inside.used c.self.inside.granules (g.S.PageStore.page_bytes c.self.inside.store)
    (g.S.PageStore.free_flags c.self.inside.store) c.self.inside.realms.items c.self.inside.rec_counts.items c.self.inside.recs.items) c.args.granule c.bytes.result.now c.bytes.ensures.value)
