use Rattle.std.proofs.Common.{Err, refl, sym, ap, subst, ◌∙◌}
use Rattle.realm_model.specs.Command.Check.{error_realm}
use Rattle.rtt.specs.Realm.{HasTables}
use Rattle.rtt.specs.declared.tables.Tables.{Tables}
use Rattle.rmi_monitor.proofs.Destroys.{destroy_with_rec, destroy_with_table, destroy_done, destroy_page, destroy_stands, whole_after_destroy, seen_after_destroy}
use Rattle.rmi_monitor.proofs.Granules.{has_fields, in_granules}
use Rattle.rmi_monitor.proofs.RecReads.{count_place}
use Rattle.rmi_monitor.proofs.Outcomes.{answers_ok, refusal}
use Rattle.rmi_monitor.proofs.RealmFound.{nowhere, realm_place, realm_read}
use Rattle.rmi_monitor.proofs.RealmCommands.{whole_refused, refused_call}
use Rattle.rmi_monitor.proofs.monitor.Monitor.realm_destroy.Goals as goal

pub index-requires : goal.index-requires
index-requires g c = realm_place (has_fields c.self.view_is c.self.invariant) c.requires.inside c.number.ensures.value c.self.inside.realms.ok.0

pub returns-in_default : goal.returns-in_default
returns-in_default g c =
    refusal (nowhere c.args.self.now _ c.self.view_is c.self.invariant c.args.rd c.requires.inside
    (realm_read (has_fields c.self.view_is c.self.invariant) c.requires.inside c.number.ensures.value c.index.ensures c.in_default.is) _)

pub index-recs-requires : goal.index-recs-requires
index-recs-requires g c =
    let inside = in_granules c.args.self.now _ c.self.view_is c.self.invariant c.args.rd c.requires in
    count_place _ c.self.invariant c.args.rd inside c.number-2.result c.number-2.ensures.value c.self.inside.rec_counts.ok.0

pub returns-then-recs-gt0 : goal.returns-then-recs-gt0
returns-then-recs-gt0 g c =
    refusal (destroy_with_rec c.args.self.now _ c.self.view_is c.self.invariant c.args.rd c.requires c.in-Some.realm
    (realm_read (has_fields c.self.view_is c.self.invariant) c.requires.inside c.number.ensures.value c.index.ensures c.in-Some.is)
    c.number-2.result c.index-recs.result.now c.number-2.ensures.value c.index-recs.ensures c.if-recs-gt0.true)

pub close_root-requires-clause-backed : goal.close_root-requires-clause-backed
close_root-requires-clause-backed g c = c.self.invariant.backed

pub close_root-requires-clause-tables : goal.close_root-requires-clause-tables
close_root-requires-clause-tables g c =
    subst (λ (t : Tables). HasTables (g.S.PageStore.page_bytes c.self.inside.store) c.self.inside.granules t.rd t.root) (sym c.tables_of.ensures)
    (c.self.invariant.tables c.args.rd c.in-Some.realm
    (realm_read (has_fields c.self.view_is c.self.invariant) c.requires.inside c.number.ensures.value c.index.ensures c.in-Some.is))

pub invariant_of-self : goal.invariant_of-self
invariant_of-self g c = whole_refused c.self.invariant c.if-not-close_root.ensures.unchanged c.if-not-close_root.ensures.keeps.flags

pub returns-then-not-close_root : goal.returns-then-not-close_root
returns-then-not-close_root g c =
    let has = has_fields c.self.view_is c.self.invariant in
    refused_call has c.if-not-close_root.ensures.unchanged c.if-not-close_root.ensures.keeps.flags (Err error_realm) refl
    (destroy_with_table c.args.self.now _ c.self.view_is c.self.invariant c.args.rd c.requires c.in-Some.realm
    (realm_read has c.requires.inside c.number.ensures.value c.index.ensures c.in-Some.is)
    c.number-2.result c.index-recs.result.now c.number-2.ensures.value c.index-recs.ensures c.if-recs-gt0.false c.tables_of.result.root (ap (λ (t : Tables). t.root) c.tables_of.ensures)
    c.if-not-close_root.ensures.answer)

pub release-requires-clause-page : goal.release-requires-clause-page
release-requires-clause-page g c =
    destroy_page c.args.self.now _ c.self.view_is c.self.invariant c.args.rd c.requires c.in-Some.realm
    (realm_read (has_fields c.self.view_is c.self.invariant) c.requires.inside c.number.ensures.value c.index.ensures c.in-Some.is)
    c.number-2.result c.index-recs.result.now c.number-2.ensures.value c.index-recs.ensures c.if-recs-gt0.false c.tables_of.result.root (ap (λ (t : Tables). t.root) c.tables_of.ensures)
    c.if-not-close_root.ensures.answer _ _ c.if-not-close_root.ensures.moved c.if-not-close_root.ensures.cleared _ c.if-not-close_root.ensures.keeps.flags

pub release-requires-clause-stands : goal.release-requires-clause-stands
release-requires-clause-stands g c =
    destroy_stands c.args.self.now _ c.self.view_is c.self.invariant c.args.rd c.requires c.in-Some.realm
    (realm_read (has_fields c.self.view_is c.self.invariant) c.requires.inside c.number.ensures.value c.index.ensures c.in-Some.is)
    c.number-2.result c.index-recs.result.now c.number-2.ensures.value c.index-recs.ensures c.if-recs-gt0.false c.tables_of.result.root (ap (λ (t : Tables). t.root) c.tables_of.ensures)
    c.if-not-close_root.ensures.answer _ _ c.if-not-close_root.ensures.moved c.if-not-close_root.ensures.cleared

pub index_mut-requires : goal.index_mut-requires
index_mut-requires g c = realm_place (has_fields c.self.view_is c.self.invariant) c.requires.inside c.number-3.ensures.value c.self.inside.realms.ok.0

pub invariant_of-self-2 : goal.invariant_of-self-2
invariant_of-self-2 g c =
    whole_after_destroy c.args.self.now _ c.self.view_is c.self.invariant c.args.rd c.requires c.in-Some.realm
    (realm_read (has_fields c.self.view_is c.self.invariant) c.requires.inside c.number.ensures.value c.index.ensures c.in-Some.is)
    c.number-2.result c.index-recs.result.now c.number-2.ensures.value c.index-recs.ensures c.if-recs-gt0.false c.tables_of.result.root (ap (λ (t : Tables). t.root) c.tables_of.ensures)
    c.if-not-close_root.ensures.answer _ _ c.if-not-close_root.ensures.moved c.if-not-close_root.ensures.cleared _ _ _ c.number-3.result c.release.ensures.shifted c.release.ensures.cleared
    (c.release.ensures.flags ∙ c.if-not-close_root.ensures.keeps.flags) c.number-3.ensures.value c.remove.new.self c.vmid.result c.vmid.ensures c.remove.ensures

pub returns-clause-answer : goal.returns-clause-answer
returns-clause-answer g c =
    answers_ok {A = Unit {0}} tt _ _
    (destroy_done c.args.self.now _ c.self.view_is c.self.invariant c.args.rd c.requires c.in-Some.realm
    (realm_read (has_fields c.self.view_is c.self.invariant) c.requires.inside c.number.ensures.value c.index.ensures c.in-Some.is)
    c.number-2.result c.index-recs.result.now c.number-2.ensures.value c.index-recs.ensures c.if-recs-gt0.false c.tables_of.result.root (ap (λ (t : Tables). t.root) c.tables_of.ensures)
    c.if-not-close_root.ensures.answer)

pub returns-clause-machine : goal.returns-clause-machine
returns-clause-machine g c =
    seen_after_destroy c.args.self.now _ c.self.view_is c.self.invariant c.args.rd c.requires c.in-Some.realm
    (realm_read (has_fields c.self.view_is c.self.invariant) c.requires.inside c.number.ensures.value c.index.ensures c.in-Some.is)
    c.number-2.result c.index-recs.result.now c.number-2.ensures.value c.index-recs.ensures c.if-recs-gt0.false c.tables_of.result.root (ap (λ (t : Tables). t.root) c.tables_of.ensures)
    c.if-not-close_root.ensures.answer _ _ c.if-not-close_root.ensures.moved c.if-not-close_root.ensures.cleared _ _ _ c.number-3.result c.release.ensures.shifted c.release.ensures.cleared
    (c.release.ensures.flags ∙ c.if-not-close_root.ensures.keeps.flags) c.number-3.ensures.value c.remove.new.self c.vmid.result c.vmid.ensures c.remove.ensures
