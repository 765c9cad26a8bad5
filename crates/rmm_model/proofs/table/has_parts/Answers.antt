use Rattle.std.proofs.Common.{◌≢◌, sym, ◌∙◌, arith}
use Rattle.page_arena.specs.Word.{word_of_page}
use Rattle.rmm_model.specs.Entry.{entry_word, child_entry}
use Rattle.rmm_model.proofs.Parts.{has_parts-on, has_parts-not, has_parts-end}
use Rattle.rmm_model.proofs.table.has_parts.Goals as goal

pub returns-then-word_in-word : goal.returns-then-word_in-word
returns-then-word_in-word c =
    let other : word_of_page c.args.page.now c.loop-index.index ≢ entry_word (child_entry c.args.whole c.args.level c.loop-index.index) =
    λ same. c.if-word_in-word.true (c.word_in.ensures ∙ same ∙ sym (c.word.ensures ∙ c.new-words.ensures c.loop-index.index)) in
    sym (has_parts-not c.args.page.now c.args.whole c.args.level c.loop-index.index c.loop-index-test.true other) ∙ c.loop-index.invariant

pub loop-index-preserved : goal.loop-index-preserved
loop-index-preserved c =
    sym (has_parts-on c.args.page.now c.args.whole c.args.level c.loop-index.index c.loop-index-test.true
    (sym c.word_in.ensures ∙ c.if-word_in-word.false ∙ c.word.ensures ∙ c.new-words.ensures c.loop-index.index))
    ∙ c.loop-index.invariant

pub returns : goal.returns
returns c = sym (has_parts-end c.args.page.now c.args.whole c.args.level c.loop-index.index (omega arith)) ∙ c.loop-index.invariant
