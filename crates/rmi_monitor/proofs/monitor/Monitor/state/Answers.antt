use Rattle.std.proofs.Common.{◌<◌, ◌∙◌, sym, ap, subst}
use Rattle.realm_model.specs.Machine.{Cell}
use Rattle.rmi_monitor.proofs.Granules.{as_many_granules, cell_is}
use Rattle.rmi_monitor.proofs.monitor.Monitor.state.Goals as goal

pub state-requires : goal.state-requires
state-requires g c = subst (λ n. c.args.granule < n) (as_many_granules c.args.self.now _ c.self.view_is c.self.invariant) c.requires

pub returns : goal.returns
returns g c = c.state.ensures ∙ sym (ap (λ (x : Cell). x.state) (cell_is c.args.self.now _ c.self.view_is c.self.invariant c.args.granule c.requires))
