use Rattle.std.proofs.Common.{ℕ, List, [], Ok, sym, ap, ◌∙◌}
use Rattle.std.specs.Prelude.{slice_index}
use Rattle.realm_model.specs.Command.Check.{error_input}
use Rattle.realm_model.proofs.Outcomes.{check_true, check_false}
use Rattle.rmi_monitor.proofs.Outcomes.{answers_ok, answers_err}
use Rattle.rmi_monitor.proofs.Granules.{in_granules, in_pages, is_undelegated_there, is_not_undelegated, undelegated_bytes}
use Rattle.rmi_monitor.proofs.monitor.Monitor.host_peek.Goals as goal

pub state-requires : goal.state-requires
state-requires g c = in_granules c.args.self.now _ c.self.view_is c.self.invariant c.args.granule c.requires

pub bytes-requires : goal.bytes-requires
bytes-requires g c = in_pages c.args.self.now _ c.self.view_is c.self.invariant c.args.granule c.requires

pub returns-in-Undelegated-clause-answer : goal.returns-in-Undelegated-clause-answer
returns-in-Undelegated-clause-answer g c =
    answers_ok {A = ℕ} (slice_index c.bytes.result.now c.number.result) [] _
    (check_true _ error_input (Ok []) (is_undelegated_there c.args.self.now _ c.self.view_is c.self.invariant c.args.granule c.requires (sym c.in-Undelegated.ensures)))

pub returns-in-Undelegated-clause-byte : goal.returns-in-Undelegated-clause-byte
returns-in-Undelegated-clause-byte g c =
    ap (λ (bytes : List ℕ). slice_index bytes c.number.result)
    (c.bytes.ensures.value ∙ undelegated_bytes c.args.self.now _ c.self.view_is c.self.invariant c.args.granule c.requires (sym c.in-Undelegated.ensures))
    ∙ ap (slice_index _) c.number.ensures.value

pub returns-in_default : goal.returns-in_default
returns-in_default g c = record {
  answer = answers_err ℕ error_input _
      (check_false _ error_input (Ok [])
      (is_not_undelegated c.args.self.now _ c.self.view_is c.self.invariant c.args.granule c.requires (λ e. c.in_default.not-Undelegated (c.state.ensures ∙ e))));
  byte = tt;
}
