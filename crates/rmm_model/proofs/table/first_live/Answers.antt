use Rattle.std.proofs.Common.{sym, ap, ◌∙◌, arith}
use Rattle.rmm_model.specs.Entry.{entry_of, is_live}
use Rattle.rmm_model.specs.Table.{entry_in_page}
use Rattle.rmm_model.proofs.LiveEntries.{first_live_here, first_live_on, first_live_end}
use Rattle.rmm_model.proofs.table.first_live.Goals as goal

pub returns-then-is_live-clause-value : goal.returns-then-is_live-clause-value
unfolding entry_in_page
returns-then-is_live-clause-value c =
    sym (first_live_here c.args.page.now c.loop-index.index (omega arith)
    (ap is_live (ap entry_of (sym c.word_in.ensures) ∙ sym c.entry_from_word.ensures.value) ∙ sym c.is_live.ensures ∙ c.if-is_live.true))
    ∙ c.loop-index.invariant

pub loop-index-preserved : goal.loop-index-preserved
unfolding entry_in_page
loop-index-preserved c =
    sym (first_live_on c.args.page.now c.loop-index.index (omega arith)
    (ap is_live (ap entry_of (sym c.word_in.ensures) ∙ sym c.entry_from_word.ensures.value) ∙ sym c.is_live.ensures ∙ c.if-is_live.false))
    ∙ c.loop-index.invariant

pub returns-clause-value : goal.returns-clause-value
returns-clause-value c = sym (first_live_end c.args.page.now c.loop-index.index (omega arith)) ∙ c.loop-index.invariant
