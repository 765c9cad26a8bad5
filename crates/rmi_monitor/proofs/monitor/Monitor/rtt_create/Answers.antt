use Rattle.std.proofs.Common.{sym, ◌∙◌}
use Rattle.realm_model.specs.Command.Table.{rtt_create}
use Rattle.rmi_monitor.specs.View.{seen_in}
use Rattle.rmi_monitor.specs.Inside.{fields_of}
use Rattle.rmi_monitor.proofs.TableCreates.{create_misplaced, create_nowhere, create_undelegated, create_refused, create_done}
use Rattle.rmi_monitor.proofs.Granules.{has_fields, in_granules, delegated_there}
use Rattle.rmi_monitor.proofs.Located.{its_tables, its_space, its_place}
use Rattle.rmi_monitor.proofs.Outcomes.{refusal, refusal_input}
use Rattle.rmi_monitor.proofs.RealmCommands.{Done, whole_refused, refused_call}
use Rattle.rmi_monitor.proofs.monitor.Monitor.rtt_create.Given.{Over}
use Rattle.rmi_monitor.proofs.monitor.Monitor.rtt_create.Goals as goal

-- ---- what is refused

pub returns-in_default : goal.returns-in_default
returns-in_default g c = refusal (create_misplaced c.args.self.now c.args.rd c.args.table c.args.ipa c.args.level c.in_default.ensures.none)

pub returns-in_err-tables : goal.returns-in_err-tables
returns-in_err-tables g c =
    refusal_input c.from_residual.result c.from_residual.ensures.1 c.in_err-tables.ensures.err.0
    (create_nowhere c.args.self.now c.args.rd c.args.table c.args.ipa c.args.level c.in_err-tables.ensures.err.1)

pub is_delegated-requires : goal.is_delegated-requires
is_delegated-requires g c = in_granules c.args.self.now _ c.self.view_is c.self.invariant c.args.table c.requires.table_taken

pub returns-then-not-is_delegated : goal.returns-then-not-is_delegated
returns-then-not-is_delegated g c =
    refusal (create_undelegated c.args.self.now c.args.rd c.args.table c.args.ipa c.args.level (has_fields c.self.view_is c.self.invariant) c.requires.table_taken
    (sym c.is_delegated.ensures ∙ c.if-not-is_delegated.true))

-- ---- the call

pub create_table-requires : goal.create_table-requires
create_table-requires g c =
    let kept = has_fields c.self.view_is c.self.invariant in
    let at = c.in_ok-tables.ensures.ok in
    let free = delegated_there kept c.requires.table_taken (sym c.is_delegated.ensures ∙ c.if-not-is_delegated.false) in
    let place = its_place kept at c.in-Some.ensures.some in
    record { backed = c.self.invariant.backed; tables = its_tables kept at; inside = its_space kept at; delegated = free; place = place }

pub invariant_of-self : goal.invariant_of-self
invariant_of-self g c = whole_refused c.self.invariant c.in_err-create_table.ensures.unchanged c.in_err-create_table.ensures.keeps.rest.flags

pub returns-in_err-create_table : goal.returns-in_err-create_table
returns-in_err-create_table g c =
    let kept = has_fields c.self.view_is c.self.invariant in
    let said = c.in_err-create_table.ensures in
    refused_call kept said.unchanged said.keeps.rest.flags c.from_residual-in_err-create_table.result c.from_residual-in_err-create_table.ensures.1
    (create_refused c.args.self.now c.args.rd c.args.table c.args.ipa c.args.level kept c.requires.table_taken c.in_ok-tables.ensures.ok c.in-Some.ensures.some
    (sym c.is_delegated.ensures ∙ c.if-not-is_delegated.false) said.answer)

done : (g : Over) (c : goal.In_ok-create_table g) → Done c.args.self.now (rtt_create (seen_in c.args.self.now c.args.rd) (seen_in c.args.self.now c.args.table) c.args.ipa c.args.level)
    (fields_of c.self.inside.vmids c.self.inside.aux c.self.inside.used c.create_table.new.granules (g.S.PageStore.page_bytes c.create_table.new.store)
    (g.S.PageStore.free_flags c.create_table.new.store) c.self.inside.realms.items c.self.inside.rec_counts.items c.self.inside.recs.items)
done g c =
    let said = c.in_ok-create_table.ensures in
    create_done c.args.self.now c.args.rd c.args.table c.args.ipa c.args.level (has_fields c.self.view_is c.self.invariant) c.requires.table_taken c.in_ok-tables.ensures.ok
    c.in-Some.ensures.some (sym c.is_delegated.ensures ∙ c.if-not-is_delegated.false) c.requires.rd_taken
    (record { answer = said.answer; gains = said.rows; moved = said.moved; others = said.others; keeps = said.keeps })

pub invariant_of-self-2 : goal.invariant_of-self-2
invariant_of-self-2 g c = (done g c).whole

pub returns : goal.returns
returns g c = (done g c).says
