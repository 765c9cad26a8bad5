use Rattle.std.proofs.Common.{sym, ap, ◌∙◌}
use Rattle.rmi_monitor.proofs.Checks.{delegated_test, not_delegated}
use Rattle.rmi_monitor.proofs.places.is_delegated.Goals as goal

pub state-requires : goal.state-requires
state-requires c = c.requires

pub returns-in-Delegated : goal.returns-in-Delegated
returns-in-Delegated c = ap delegated_test c.in-Delegated.ensures

pub returns-in_default : goal.returns-in_default
returns-in_default c = sym (not_delegated _ (λ e. c.in_default.not-Delegated (c.state.ensures ∙ e)))
