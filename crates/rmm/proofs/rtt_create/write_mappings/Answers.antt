use Rattle.std.proofs.Common.{ℕ, List, Option, sym, ap, ◌∙◌}
use Rattle.granule_addr.specs.Page.{zero_page}
use Rattle.page_arena.specs.Pages.{length-page_of}
use Rattle.page_arena.specs.Word.{bytes_of_words, rising_word}
use Rattle.rmm_model.specs.Entry.{kind_word, descriptor_of, child_step, entry_word, child_entry}
use Rattle.rmm_model.specs.Machine.{Machine, with_page}
use Rattle.rmm_model.specs.Table.{children_page, children_page_at}
use Rattle.rmm_model.proofs.ChildEntries.{child_word_of}
use Rattle.rmm.proofs.Pages.{with_words-same}
use Rattle.rmm.proofs.SideBySide.{all_words}
use Rattle.rmm.proofs.rtt_create.write_mappings.Goals as goal

pub returns : goal.returns
unfolding children_page
returns g c =
    let parent = c.args.parent in
    let level : ℕ = c.args.level in
    let f : ℕ → ℕ = λ k. entry_word (child_entry parent level k) in
    let words : ℕ → ℕ = rising_word (kind_word parent) (descriptor_of parent) (child_step parent level) in
    let on : List ℕ → Machine = with_page c.args.granules.now c.args.table in
    c.write_rising.ensures
    ∙ ap (λ (n : ℕ). on (bytes_of_words 512 (rising_word n c.descriptor.result c.child_step-step.result))) c.kind_word-kind.ensures.value
    ∙ ap (λ (n : ℕ). on (bytes_of_words 512 (rising_word (kind_word parent) n c.child_step-step.result))) c.descriptor.ensures
    ∙ ap (λ (n : ℕ). on (bytes_of_words 512 (rising_word (kind_word parent) (descriptor_of parent) n))) c.child_step-step.ensures.value
    ∙ ap on (sym (all_words zero_page words (length-page_of 0)))
    ∙ ap on (with_words-same 512 words f zero_page (child_word_of parent level))
    ∙ ap (λ (o : Option ℕ). on (children_page_at o parent level)) (sym c.requires.mapping)
