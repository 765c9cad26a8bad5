use Rattle.std.proofs.Common.{[], ◌∷◌, refl, sym, ◌∙◌, Ok}
use Rattle.granule_addr.specs.Page.{page_of}
use Rattle.realm_model.specs.Machine.{cell_at}
use Rattle.realm_model.specs.Update.{Put}
use Rattle.realm_model.specs.Command.Check.{error_input}
use Rattle.realm_model.proofs.Outcomes.{check_true, check_false}
use Rattle.rmi_monitor.proofs.Granules.{in_granules, in_pages, not_free, is_undelegated_there, is_not_undelegated, whole_filled, filled_done}
use Rattle.rmi_monitor.proofs.Outcomes.{answers_ok, refusal}
use Rattle.rmi_monitor.proofs.monitor.Monitor.host_fill.Goals as goal

pub state-requires : goal.state-requires
state-requires g c = in_granules c.args.self.now _ c.self.view_is c.self.invariant c.args.granule c.requires

pub fill-requires : goal.fill-requires
fill-requires g c = record {
  inside = in_pages c.args.self.now _ c.self.view_is c.self.invariant c.args.granule c.requires;
  taken = not_free c.args.self.now _ c.self.view_is c.self.invariant c.args.granule c.requires;
}

pub invariant_of-self : goal.invariant_of-self
invariant_of-self g c =
    whole_filled c.args.self.now _ c.self.view_is c.self.invariant c.args.granule c.requires (sym c.in-Undelegated.ensures) _ _ _ c.fill.ensures.flags c.args.value refl c.fill.ensures.filled

pub returns-in-Undelegated-clause-answer : goal.returns-in-Undelegated-clause-answer
returns-in-Undelegated-clause-answer g c =
    answers_ok {A = Unit {0}} tt (Put c.args.granule (record (cell_at c.args.self.now.machine c.args.granule) { bytes = page_of c.args.value }) ∷ []) _
    (check_true _ error_input (Ok (Put c.args.granule (record (cell_at c.args.self.now.machine c.args.granule) { bytes = page_of c.args.value }) ∷ []))
    (is_undelegated_there c.args.self.now _ c.self.view_is c.self.invariant c.args.granule c.requires (sym c.in-Undelegated.ensures)))

pub returns-in-Undelegated-clause-machine : goal.returns-in-Undelegated-clause-machine
returns-in-Undelegated-clause-machine g c =
    filled_done c.args.self.now _ c.self.view_is c.self.invariant c.args.granule c.requires (sym c.in-Undelegated.ensures) _ _ _ c.fill.ensures.flags c.args.value refl c.fill.ensures.filled

pub returns-in_default : goal.returns-in_default
returns-in_default g c =
    refusal (check_false _ error_input (Ok (Put c.args.granule (record (cell_at c.args.self.now.machine c.args.granule) { bytes = page_of c.args.value }) ∷ []))
    (is_not_undelegated c.args.self.now _ c.self.view_is c.self.invariant c.args.granule c.requires (λ e. c.in_default.not-Undelegated (c.state.ensures ∙ e))))
