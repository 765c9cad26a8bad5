use Rattle.std.proofs.Common.{sym, ap, ◌∙◌}
use Rattle.rmi_monitor.proofs.Checks.{undelegated_test, not_undelegated}
use Rattle.rmi_monitor.proofs.places.is_undelegated.Goals as goal

pub state-requires : goal.state-requires
state-requires c = c.requires

pub returns-in-Undelegated : goal.returns-in-Undelegated
returns-in-Undelegated c = ap undelegated_test c.in-Undelegated.ensures

pub returns-in_default : goal.returns-in_default
returns-in_default c = sym (not_undelegated _ (λ e. c.in_default.not-Undelegated (c.state.ensures ∙ e)))
