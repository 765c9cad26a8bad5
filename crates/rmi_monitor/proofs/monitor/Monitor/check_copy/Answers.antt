use Rattle.std.proofs.Common.{sym, ◌∙◌}
use Rattle.rmi_monitor.proofs.DataCreates.{fit_seen, create_no_realm, create_unprotected, create_unfit, create_not_new}
use Rattle.rmi_monitor.proofs.Granules.{has_fields, in_granules}
use Rattle.rmi_monitor.proofs.Located.{locates_new}
use Rattle.rmi_monitor.proofs.RealmFound.{realm_place, realm_read}
use Rattle.rmi_monitor.proofs.monitor.Monitor.check_copy.Goals as goal

pub index-requires : goal.index-requires
index-requires g c = realm_place (has_fields c.self.view_is c.self.invariant) c.requires.rd_taken.inside c.number.ensures.value c.self.inside.realms.ok.0

pub returns-in_default : goal.returns-in_default
returns-in_default g c =
    let has = has_fields c.self.view_is c.self.invariant in
    let none = realm_read has c.requires.rd_taken.inside c.number.ensures.value c.index.ensures c.in_default.is in
    record { ok = tt; err = create_no_realm has c.args.rd c.args.page c.args.ipa c.args.source c.requires none }

pub returns-in_default-located : goal.returns-in_default-located
returns-in_default-located g c =
    let has = has_fields c.self.view_is c.self.invariant in
    let there = realm_read has c.requires.rd_taken.inside c.number.ensures.value c.index.ensures c.in-Some.is in
    record { ok = tt; err = create_unprotected has c.args.rd c.args.page c.args.ipa c.args.source c.requires there c.in_default-located.ensures.none }

pub can_be_copied-requires : goal.can_be_copied-requires
can_be_copied-requires g c = record {
  source = in_granules c.args.self.now _ c.self.view_is c.self.invariant c.args.source c.requires.source_taken;
  page = in_granules c.args.self.now _ c.self.view_is c.self.invariant c.args.page c.requires.page_taken;
}

pub returns-then-not-can_be_copied : goal.returns-then-not-can_be_copied
returns-then-not-can_be_copied g c =
    let has = has_fields c.self.view_is c.self.invariant in
    let there = realm_read has c.requires.rd_taken.inside c.number.ensures.value c.index.ensures c.in-Some.is in
    let unfit = sym c.can_be_copied.ensures ∙ c.if-not-can_be_copied.true in
    record { ok = tt; err = create_unfit has c.args.rd c.args.page c.args.ipa c.args.source c.requires there unfit }

pub returns-then-not-is_new : goal.returns-then-not-is_new
returns-then-not-is_new g c =
    let has = has_fields c.self.view_is c.self.invariant in
    let there = realm_read has c.requires.rd_taken.inside c.number.ensures.value c.index.ensures c.in-Some.is in
    let fit = sym c.can_be_copied.ensures ∙ c.if-not-can_be_copied.false in
    let active = sym c.is_new.ensures ∙ c.if-not-is_new.true in
    record { ok = tt; err = create_not_new has c.args.rd c.args.page c.args.ipa c.args.source c.requires there c.in-Some-located.ensures.some fit active }

pub returns : goal.returns
returns g c =
    let has = has_fields c.self.view_is c.self.invariant in
    let there = realm_read has c.requires.rd_taken.inside c.number.ensures.value c.index.ensures c.in-Some.is in
    let fit = sym c.can_be_copied.ensures ∙ c.if-not-can_be_copied.false in
    record {
      ok = (
        locates_new has c.args.rd c.args.ipa _ there c.in-Some-located.ensures.some (sym c.is_new.ensures ∙ c.if-not-is_new.false),
        fit_seen has c.args.rd c.args.page c.args.ipa c.args.source c.requires fit,
      );
      err = tt;
    }
