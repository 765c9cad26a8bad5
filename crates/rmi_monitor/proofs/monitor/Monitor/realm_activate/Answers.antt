use Rattle.std.proofs.Common.{refl, sym}
use Rattle.rmi_monitor.proofs.Activates.{activate_late, activate_done, whole_after_activate, seen_after_activate}
use Rattle.rmi_monitor.proofs.Granules.{has_fields}
use Rattle.rmi_monitor.proofs.Outcomes.{answers_ok}
use Rattle.rmi_monitor.proofs.RealmFound.{nowhere, realm_place, realm_read}
use Rattle.rmi_monitor.proofs.RealmCommands.{whole_back, refused_back}
use Rattle.rmi_monitor.proofs.monitor.Monitor.realm_activate.Goals as goal

pub index_mut-requires : goal.index_mut-requires
index_mut-requires g c = realm_place (has_fields c.self.view_is c.self.invariant) c.requires.inside c.number.ensures.value c.self.inside.realms.ok.0

pub invariant_of-self : goal.invariant_of-self
invariant_of-self g c = whole_back (has_fields c.self.view_is c.self.invariant) c.number.result c.index_mut.ensures.value refl

pub returns-in_default : goal.returns-in_default
returns-in_default g c =
    let has = has_fields c.self.view_is c.self.invariant in
    refused_back has c.number.result c.index_mut.ensures.value refl
    (nowhere c.args.self.now _ c.self.view_is c.self.invariant c.args.rd c.requires.inside
    (realm_read has c.requires.inside c.number.ensures.value c.index_mut.ensures.value c.in_default.is) _)

pub invariant_of-self-then-not-is_new : goal.invariant_of-self-then-not-is_new
invariant_of-self-then-not-is_new g c = whole_back (has_fields c.self.view_is c.self.invariant) c.number.result c.index_mut.ensures.value c.in-Some.is

pub returns-then-not-is_new : goal.returns-then-not-is_new
returns-then-not-is_new g c =
    let has = has_fields c.self.view_is c.self.invariant in
    refused_back has c.number.result c.index_mut.ensures.value c.in-Some.is
    (activate_late c.args.self.now _ c.self.view_is c.self.invariant c.args.rd c.requires c.in-Some.realm
    (realm_read has c.requires.inside c.number.ensures.value c.index_mut.ensures.value c.in-Some.is) (sym c.if-not-is_new.ensures))

pub invariant_of-self-2 : goal.invariant_of-self-2
invariant_of-self-2 g c =
    whole_after_activate c.args.self.now _ c.self.view_is c.self.invariant c.args.rd c.requires c.in-Some.realm
    (realm_read (has_fields c.self.view_is c.self.invariant) c.requires.inside c.number.ensures.value c.index_mut.ensures.value c.in-Some.is)
    c.number.result c.number.ensures.value c.activate.new.self c.activate.ensures

pub returns : goal.returns
returns g c =
    let there = realm_read (has_fields c.self.view_is c.self.invariant) c.requires.inside c.number.ensures.value c.index_mut.ensures.value c.in-Some.is in
    record {
      answer =
          answers_ok {A = Unit {0}} tt _ _
          (activate_done c.args.self.now _ c.self.view_is c.self.invariant c.args.rd c.requires c.in-Some.realm there (sym c.if-not-is_new.ensures));
      machine =
          seen_after_activate c.args.self.now _ c.self.view_is c.self.invariant c.args.rd c.requires c.in-Some.realm there
          c.number.result c.number.ensures.value c.activate.new.self c.activate.ensures (sym c.if-not-is_new.ensures);
    }
