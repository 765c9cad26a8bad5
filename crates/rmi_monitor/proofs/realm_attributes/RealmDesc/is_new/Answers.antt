use Rattle.std.proofs.Common.{◌∙◌, sym, ap}
use Rattle.realm_model.specs.Command.Check as checks
use Rattle.rmi_monitor.specs.Attributes.{RealmAttributes}
use Rattle.rmi_monitor.proofs.realm_attributes.RealmDesc.is_new.Goals as goal

pub returns-in-New : goal.returns-in-New
returns-in-New c = ap checks.is_new (sym c.in-New.is ∙ ap (λ (realm : RealmAttributes). realm.state) c.self.view_is)

pub returns-in_default : goal.returns-in_default
returns-in_default c = ap checks.is_new (sym c.in_default.is ∙ ap (λ (realm : RealmAttributes). realm.state) c.self.view_is)
