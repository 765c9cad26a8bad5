use Rattle.std.proofs.Common.{ℕ, sym, ap, ◌∙◌, arith}
use Rattle.rmm_model.specs.Machine.{page_in}
use Rattle.rmm_model.specs.Table.{has_live}
use Rattle.rmm_granules.proofs.LiveTables.{has_live_table-on, has_live_table-here, has_live_table-end}
use Rattle.rmm_granules.proofs.realm.has_live_table.Goals as goal

pub returns-then-has_live : goal.returns-then-has_live
returns-then-has_live g c =
    sym (has_live_table-here c.args.granules.now c.args.realm.now.first_table c.args.realm.now.table_count c.loop-k.k c.loop-k-test.true
    (ap (λ (n : ℕ). has_live (page_in c.args.granules.now n)) (sym c.start_table.ensures.value) ∙ ap has_live (sym c.page.ensures.value) ∙ sym c.has_live.ensures ∙ c.if-has_live.true))
    ∙ c.loop-k.invariant

pub loop-k-preserved : goal.loop-k-preserved
loop-k-preserved g c =
    sym (has_live_table-on c.args.granules.now c.args.realm.now.first_table c.args.realm.now.table_count c.loop-k.k c.loop-k-test.true
    (ap (λ (n : ℕ). has_live (page_in c.args.granules.now n)) (sym c.start_table.ensures.value) ∙ ap has_live (sym c.page.ensures.value) ∙ sym c.has_live.ensures ∙ c.if-has_live.false))
    ∙ c.loop-k.invariant

pub returns : goal.returns
returns g c = sym (has_live_table-end c.args.granules.now c.args.realm.now.first_table c.args.realm.now.table_count c.loop-k.k (omega arith)) ∙ c.loop-k.invariant
