use Rattle.std.proofs.Common.{◌≡◌, sym, ap, ◌∙◌, arith}
use Rattle.rmm_model.specs.Entry.{entry_of, can_change}
use Rattle.rmm_model.specs.Table.{entry_in_page}
use Rattle.rmm_model.proofs.FixedEntries.{first_fixed_here, first_fixed_on, first_fixed_end}
use Rattle.rmm_model.proofs.table.first_fixed.Goals as goal

pub returns-then-not-can_change-clause-value : goal.returns-then-not-can_change-clause-value
unfolding entry_in_page
returns-then-not-can_change-clause-value c =
    sym (first_fixed_here c.args.changeable c.args.page.now c.loop-index.index c.args.end (omega arith)
    (ap (can_change c.args.changeable) (ap entry_of (sym c.word_in.ensures) ∙ sym c.entry_from_word.ensures.value) ∙ sym c.can_change.ensures ∙ c.if-not-can_change.true))
    ∙ c.loop-index.invariant

pub loop-index-preserved : goal.loop-index-preserved
unfolding entry_in_page
loop-index-preserved c =
    sym (first_fixed_on c.args.changeable c.args.page.now c.loop-index.index c.args.end (omega arith)
    (ap (can_change c.args.changeable) (ap entry_of (sym c.word_in.ensures) ∙ sym c.entry_from_word.ensures.value) ∙ sym c.can_change.ensures ∙ c.if-not-can_change.false))
    ∙ c.loop-index.invariant

pub returns-clause-value : goal.returns-clause-value
returns-clause-value c =
    let all = first_fixed_end c.args.changeable c.args.page.now c.loop-index.index c.args.end (omega arith) in
    let last : c.loop-index.index ≡ c.args.end = omega arith in
    sym last ∙ sym all ∙ c.loop-index.invariant
