use Rattle.std.proofs.Common.{[], ◌∷◌, refl, Ok, Err}
use Rattle.std.proofs.lemmas.Bool.{false≢true}
use Rattle.realm_model.specs.Machine.{left}
use Rattle.realm_model.specs.Update.{Put}
use Rattle.realm_model.specs.Command.Check.{error_input}
use Rattle.realm_model.proofs.Outcomes.{check_true, check_false}
use Rattle.rmi_monitor.proofs.Granules.{has_fields, in_granules, in_pages, not_free, is_undelegated_there, is_not_undelegated, whole_delegated, delegated_done}
use Rattle.rmi_monitor.proofs.Outcomes.{answers_ok}
use Rattle.rmi_monitor.proofs.RealmCommands.{whole_refused, refused_call}
use Rattle.rmi_monitor.proofs.monitor.Monitor.granule_delegate.Goals as goal

pub shift-requires : goal.shift-requires
shift-requires g c = in_granules c.args.self.now _ c.self.view_is c.self.invariant c.args.granule c.requires

pub invariant_of-self-else-shift : goal.invariant_of-self-else-shift
invariant_of-self-else-shift g c = whole_refused c.self.invariant (refl, c.if-shift.ensures.unchanged) refl

pub returns-else-shift : goal.returns-else-shift
returns-else-shift g c =
    refused_call (has_fields c.self.view_is c.self.invariant) (refl, c.if-shift.ensures.unchanged) refl (Err error_input) refl
    (check_false _ error_input (Ok (Put c.args.granule left ∷ []))
    (is_not_undelegated c.args.self.now _ c.self.view_is c.self.invariant c.args.granule c.requires (λ e. false≢true (c.if-shift.ensures.answer.1 e))))

pub fill-requires : goal.fill-requires
fill-requires g c = record {
  inside = in_pages c.args.self.now _ c.self.view_is c.self.invariant c.args.granule c.requires;
  taken = not_free c.args.self.now _ c.self.view_is c.self.invariant c.args.granule c.requires;
}

pub invariant_of-self : goal.invariant_of-self
invariant_of-self g c =
    whole_delegated c.args.self.now _ c.self.view_is c.self.invariant c.args.granule c.requires (c.if-shift.ensures.answer.0 refl) _ _ _ c.fill.ensures.flags c.if-shift.ensures.shifted
    c.fill.ensures.filled

pub returns-then-shift-clause-answer : goal.returns-then-shift-clause-answer
returns-then-shift-clause-answer g c =
    answers_ok {A = Unit {0}} tt (Put c.args.granule left ∷ []) _ (check_true _ error_input (Ok (Put c.args.granule left ∷ []))
    (is_undelegated_there c.args.self.now _ c.self.view_is c.self.invariant c.args.granule c.requires (c.if-shift.ensures.answer.0 refl)))

pub returns-then-shift-clause-machine : goal.returns-then-shift-clause-machine
returns-then-shift-clause-machine g c =
    delegated_done c.args.self.now _ c.self.view_is c.self.invariant c.args.granule c.requires (c.if-shift.ensures.answer.0 refl) _ _ _ c.fill.ensures.flags c.if-shift.ensures.shifted
    c.fill.ensures.filled
