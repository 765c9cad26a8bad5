use Rattle.std.proofs.Common.{◌<◌, ◌∙◌, sym, ap, subst}
use Rattle.realm_model.specs.Machine.{Cell}
use Rattle.rmi_monitor.proofs.Granules.{as_many_granules, cell_is}
use Rattle.rmi_monitor.proofs.monitor.Monitor.realm_of.Goals as goal

pub realm_of-requires : goal.realm_of-requires
realm_of-requires g c = subst (λ n. c.args.granule < n) (as_many_granules c.args.self.now _ c.self.view_is c.self.invariant) c.requires

pub returns : goal.returns
returns g c = c.realm_of.ensures ∙ sym (ap (λ (x : Cell). x.realm) (cell_is c.args.self.now _ c.self.view_is c.self.invariant c.args.granule c.requires))
