use Rattle.std.proofs.Common.{◌∙◌, sym, ap}
use Rattle.realm_model.specs.Command.Check as checks
use Rattle.rmi_monitor.specs.Attributes.{RecAttributes}
use Rattle.rmi_monitor.proofs.rec_attributes.Rec.is_ready.Goals as goal

pub returns-in-Ready : goal.returns-in-Ready
returns-in-Ready c = ap checks.is_ready (sym c.in-Ready.is ∙ ap (λ (rec : RecAttributes). rec.state) c.self.view_is)

pub returns-in_default : goal.returns-in_default
returns-in_default c = ap checks.is_ready (sym c.in_default.is ∙ ap (λ (rec : RecAttributes). rec.state) c.self.view_is)
