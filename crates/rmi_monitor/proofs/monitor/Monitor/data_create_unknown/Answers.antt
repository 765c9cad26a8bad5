use Rattle.std.proofs.Common.{sym, ◌∙◌}
use Rattle.realm_model.specs.Command.Data.{data_create_unknown}
use Rattle.rmi_monitor.specs.View.{seen_in}
use Rattle.rmi_monitor.specs.Inside.{fields_of}
use Rattle.rmi_monitor.proofs.DataUnknown.{unknown_nowhere, unknown_not_delegated, unknown_refused, unknown_done}
use Rattle.rmi_monitor.proofs.Granules.{has_fields, in_granules, delegated_there}
use Rattle.rmi_monitor.proofs.Located.{its_tables, its_space}
use Rattle.rmi_monitor.proofs.Outcomes.{refusal, refusal_input}
use Rattle.rmi_monitor.proofs.RealmCommands.{Done, whole_refused, refused_call}
use Rattle.rmi_monitor.proofs.monitor.Monitor.data_create_unknown.Given.{Over}
use Rattle.rmi_monitor.proofs.monitor.Monitor.data_create_unknown.Goals as goal

-- ---- what is refused

pub returns-in_err-tables : goal.returns-in_err-tables
returns-in_err-tables g c =
    refusal_input c.from_residual.result c.from_residual.ensures.1 c.in_err-tables.ensures.err.0
    (unknown_nowhere c.args.self.now c.args.rd c.args.page c.args.ipa c.in_err-tables.ensures.err.1)

pub is_delegated-requires : goal.is_delegated-requires
is_delegated-requires g c = in_granules c.args.self.now _ c.self.view_is c.self.invariant c.args.page c.requires.page_taken

pub returns-then-not-is_delegated : goal.returns-then-not-is_delegated
returns-then-not-is_delegated g c =
    refusal (unknown_not_delegated c.args.self.now c.args.rd c.args.page c.args.ipa (has_fields c.self.view_is c.self.invariant) c.requires.page_taken
    (sym c.is_delegated.ensures ∙ c.if-not-is_delegated.true))

-- ---- the call

pub map-requires : goal.map-requires
map-requires g c =
    let kept = has_fields c.self.view_is c.self.invariant in
    let at = c.in_ok-tables.ensures.ok in
    let free = delegated_there kept c.requires.page_taken (sym c.is_delegated.ensures ∙ c.if-not-is_delegated.false) in
    record { backed = c.self.invariant.backed; tables = its_tables kept at; inside = its_space kept at; delegated = free }

pub invariant_of-self : goal.invariant_of-self
invariant_of-self g c = whole_refused c.self.invariant c.in_err-map.ensures.unchanged c.in_err-map.ensures.keeps.rest.flags

pub returns-in_err-map : goal.returns-in_err-map
returns-in_err-map g c =
    let kept = has_fields c.self.view_is c.self.invariant in
    let said = c.in_err-map.ensures in
    refused_call kept said.unchanged said.keeps.rest.flags c.from_residual-in_err-map.result c.from_residual-in_err-map.ensures.1
    (unknown_refused c.args.self.now c.args.rd c.args.page c.args.ipa kept c.requires.page_taken c.in_ok-tables.ensures.ok
    (sym c.is_delegated.ensures ∙ c.if-not-is_delegated.false) said.answer)

done : (g : Over) (c : goal.In_ok-map g) → Done c.args.self.now (data_create_unknown (seen_in c.args.self.now c.args.rd) (seen_in c.args.self.now c.args.page) c.args.ipa)
    (fields_of c.self.inside.vmids c.self.inside.aux c.self.inside.used c.map.new.granules (g.S.PageStore.page_bytes c.map.new.store)
    (g.S.PageStore.free_flags c.map.new.store) c.self.inside.realms.items c.self.inside.rec_counts.items c.self.inside.recs.items)
done g c =
    let said = c.in_ok-map.ensures in
    unknown_done c.args.self.now c.args.rd c.args.page c.args.ipa (has_fields c.self.view_is c.self.invariant) c.requires.page_taken c.in_ok-tables.ensures.ok
    (sym c.is_delegated.ensures ∙ c.if-not-is_delegated.false) c.requires.rd_taken
    (record { answer = said.answer; gains = said.rows; moved = said.moved; others = said.others; keeps = said.keeps })

pub invariant_of-self-2 : goal.invariant_of-self-2
invariant_of-self-2 g c = (done g c).whole

pub returns : goal.returns
returns g c = (done g c).says
