use Rattle.std.proofs.Common.{sym, ap, ◌∙◌}
use Rattle.rmi_monitor.proofs.NewRealm.{new_vmid, new_root}
use Rattle.realm_model.specs.Command.Check.{error_input}
use Rattle.rmi_monitor.specs.View.{after_command}
use Rattle.rmi_monitor.proofs.Granules.{has_fields, in_granules}
use Rattle.rmi_monitor.proofs.Creates.{create_no_width, is_given, by_width, create_used, create_unfit, create_done, create_shifted, create_backed, create_delegated}
use Rattle.rmi_monitor.proofs.Creates.{whole_after_create, seen_after_create}
use Rattle.rmi_monitor.proofs.Outcomes.{answers_err, answers_ok, after_err}
use Rattle.rmi_monitor.proofs.RealmFound.{realm_place}
use Rattle.rmi_monitor.proofs.monitor.Monitor.realm_create.Goals as goal

pub returns-in_default-clause-answer : goal.returns-in_default-clause-answer
returns-in_default-clause-answer g c = answers_err (Unit {0}) error_input _ (create_no_width c.args.self.now c.args.rd c.args.root c.args.width c.args.vmid c.new.result c.new.ensures c.in_default.is)

pub returns-in_default-clause-machine : goal.returns-in_default-clause-machine
returns-in_default-clause-machine g c =
    after_err c.args.self.now error_input _ (create_no_width c.args.self.now c.args.rd c.args.root c.args.width c.args.vmid c.new.result c.new.ensures c.in_default.is)

pub returns-then-contains-clause-answer : goal.returns-then-contains-clause-answer
returns-then-contains-clause-answer g c =
    answers_err (Unit {0}) error_input _
    (sym (by_width c.args.self.now c.args.rd c.args.root c.args.vmid c.in-Some.width c.args.width (is_given c.args.width c.in-Some.width c.new.result c.new.ensures c.in-Some.is).1) ∙ create_used
    c.args.self.now _ c.self.view_is c.self.invariant c.args.rd (record { first = c.args.root; width = c.in-Some.width }) c.args.vmid c.requires
    (is_given c.args.width c.in-Some.width c.new.result c.new.ensures c.in-Some.is).0 (sym c.if-contains.ensures))

pub returns-then-contains-clause-machine : goal.returns-then-contains-clause-machine
returns-then-contains-clause-machine g c =
    after_err c.args.self.now error_input _
    (sym (by_width c.args.self.now c.args.rd c.args.root c.args.vmid c.in-Some.width c.args.width (is_given c.args.width c.in-Some.width c.new.result c.new.ensures c.in-Some.is).1) ∙ create_used
    c.args.self.now _ c.self.view_is c.self.invariant c.args.rd (record { first = c.args.root; width = c.in-Some.width }) c.args.vmid c.requires
    (is_given c.args.width c.in-Some.width c.new.result c.new.ensures c.in-Some.is).0 (sym c.if-contains.ensures))

pub can_be_realm-requires : goal.can_be_realm-requires
can_be_realm-requires g c = in_granules c.args.self.now _ c.self.view_is c.self.invariant c.args.rd c.requires

pub returns-then-not-can_be_realm-clause-answer : goal.returns-then-not-can_be_realm-clause-answer
returns-then-not-can_be_realm-clause-answer g c =
    answers_err (Unit {0}) error_input _
    (sym (by_width c.args.self.now c.args.rd c.args.root c.args.vmid c.in-Some.width c.args.width (is_given c.args.width c.in-Some.width c.new.result c.new.ensures c.in-Some.is).1) ∙ create_unfit
    c.args.self.now _ c.self.view_is c.self.invariant c.args.rd (record { first = c.args.root; width = c.in-Some.width }) c.args.vmid c.requires
    (is_given c.args.width c.in-Some.width c.new.result c.new.ensures c.in-Some.is).0 (sym c.if-contains.ensures) (sym c.if-not-can_be_realm.ensures))

pub returns-then-not-can_be_realm-clause-machine : goal.returns-then-not-can_be_realm-clause-machine
returns-then-not-can_be_realm-clause-machine g c =
    after_err c.args.self.now error_input _
    (sym (by_width c.args.self.now c.args.rd c.args.root c.args.vmid c.in-Some.width c.args.width (is_given c.args.width c.in-Some.width c.new.result c.new.ensures c.in-Some.is).1) ∙ create_unfit
    c.args.self.now _ c.self.view_is c.self.invariant c.args.rd (record { first = c.args.root; width = c.in-Some.width }) c.args.vmid c.requires
    (is_given c.args.width c.in-Some.width c.new.result c.new.ensures c.in-Some.is).0 (sym c.if-contains.ensures) (sym c.if-not-can_be_realm.ensures))

pub open_root-requires-clause-backed : goal.open_root-requires-clause-backed
open_root-requires-clause-backed g c =
    create_backed c.args.self.now _ c.self.view_is c.self.invariant c.args.rd (record { first = c.args.root; width = c.in-Some.width }) c.args.vmid c.requires
    (is_given c.args.width c.in-Some.width c.new.result c.new.ensures c.in-Some.is).0 (sym c.if-contains.ensures) (sym c.if-not-can_be_realm.ensures) _
    (create_shifted c.args.self.now _ c.self.view_is c.self.invariant c.args.rd (record { first = c.args.root; width = c.in-Some.width }) c.args.vmid c.requires
    (is_given c.args.width c.in-Some.width c.new.result c.new.ensures c.in-Some.is).0 (sym c.if-contains.ensures) (sym c.if-not-can_be_realm.ensures) c.shift.result _ c.shift.ensures.answer
    c.shift.ensures.shifted)

pub open_root-requires-clause-delegated : goal.open_root-requires-clause-delegated
open_root-requires-clause-delegated g c =
    create_delegated c.args.self.now _ c.self.view_is c.self.invariant c.args.rd (record { first = c.args.root; width = c.in-Some.width }) c.args.vmid c.requires
    (is_given c.args.width c.in-Some.width c.new.result c.new.ensures c.in-Some.is).0 (sym c.if-contains.ensures) (sym c.if-not-can_be_realm.ensures) _
    (create_shifted c.args.self.now _ c.self.view_is c.self.invariant c.args.rd (record { first = c.args.root; width = c.in-Some.width }) c.args.vmid c.requires
    (is_given c.args.width c.in-Some.width c.new.result c.new.ensures c.in-Some.is).0 (sym c.if-contains.ensures) (sym c.if-not-can_be_realm.ensures) c.shift.result _ c.shift.ensures.answer
    c.shift.ensures.shifted)

pub index_mut-requires : goal.index_mut-requires
index_mut-requires g c = realm_place (has_fields c.self.view_is c.self.invariant) c.requires.inside c.number.ensures.value c.self.inside.realms.ok.0

pub shift-requires : goal.shift-requires
shift-requires g c = in_granules c.args.self.now _ c.self.view_is c.self.invariant c.args.rd c.requires

pub invariant_of-self : goal.invariant_of-self
invariant_of-self g c =
    whole_after_create c.args.self.now _ c.self.view_is c.self.invariant c.args.rd (record { first = c.args.root; width = c.in-Some.width }) c.args.vmid c.requires
    (is_given c.args.width c.in-Some.width c.new.result c.new.ensures c.in-Some.is).0 (sym c.if-contains.ensures) (sym c.if-not-can_be_realm.ensures) _
    (create_shifted c.args.self.now _ c.self.view_is c.self.invariant c.args.rd (record { first = c.args.root; width = c.in-Some.width }) c.args.vmid c.requires
    (is_given c.args.width c.in-Some.width c.new.result c.new.ensures c.in-Some.is).0 (sym c.if-contains.ensures) (sym c.if-not-can_be_realm.ensures) c.shift.result _ c.shift.ensures.answer
    c.shift.ensures.shifted) c.new-realm.result (new_vmid c.new-realm.result _ _ c.new-realm.ensures.row) (new_root c.new-realm.result _ _
    c.new-realm.ensures.row) c.new-realm.ensures.row _ _ _ c.open_root.ensures.moved c.open_root.ensures.cleared c.open_root.ensures.rows c.open_root.ensures.keeps
    c.insert.new.self c.insert.ensures c.number.result c.number.ensures.value

pub returns-clause-answer : goal.returns-clause-answer
returns-clause-answer g c =
    answers_ok {A = Unit {0}} tt _ _
    (sym (by_width c.args.self.now c.args.rd c.args.root c.args.vmid c.in-Some.width c.args.width (is_given c.args.width c.in-Some.width c.new.result c.new.ensures c.in-Some.is).1) ∙ create_done
    c.args.self.now _ c.self.view_is c.self.invariant c.args.rd (record { first = c.args.root; width = c.in-Some.width }) c.args.vmid c.requires
    (is_given c.args.width c.in-Some.width c.new.result c.new.ensures c.in-Some.is).0 (sym c.if-contains.ensures) (sym c.if-not-can_be_realm.ensures))

pub returns-clause-machine : goal.returns-clause-machine
returns-clause-machine g c =
    seen_after_create c.args.self.now _ c.self.view_is c.self.invariant c.args.rd (record { first = c.args.root; width = c.in-Some.width }) c.args.vmid c.requires
    (is_given c.args.width c.in-Some.width c.new.result c.new.ensures c.in-Some.is).0 (sym c.if-contains.ensures) (sym c.if-not-can_be_realm.ensures) _
    (create_shifted c.args.self.now _ c.self.view_is c.self.invariant c.args.rd (record { first = c.args.root; width = c.in-Some.width }) c.args.vmid c.requires
    (is_given c.args.width c.in-Some.width c.new.result c.new.ensures c.in-Some.is).0 (sym c.if-contains.ensures) (sym c.if-not-can_be_realm.ensures) c.shift.result _ c.shift.ensures.answer
    c.shift.ensures.shifted) c.new-realm.result (new_vmid c.new-realm.result _ _ c.new-realm.ensures.row) (new_root c.new-realm.result _ _
    c.new-realm.ensures.row) c.new-realm.ensures.row _ _ _ c.open_root.ensures.moved c.open_root.ensures.cleared c.open_root.ensures.rows c.open_root.ensures.keeps
    c.insert.new.self c.insert.ensures c.number.result c.number.ensures.value
    ∙ ap (λ outcome. after_command outcome c.args.self.now)
    (by_width c.args.self.now c.args.rd c.args.root c.args.vmid c.in-Some.width c.args.width (is_given c.args.width c.in-Some.width c.new.result c.new.ensures c.in-Some.is).1)
