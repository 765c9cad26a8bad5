use Rattle.std.proofs.Common.{◌≡◌, ◌+◌, ◌<◌, ℕ, List, length, refl, ap, ◌∙◌, inr, arith}
use Rattle.page_arena.specs.Word.{word_of_page}
use Rattle.rmm_model.specs.Entry.{entry_of, entry_word, entry_with_ripas}
use Rattle.rmm_model.specs.Machine.{granule_count, page_in}
use Rattle.rmm_model.specs.Table.{entry_in_page, with_words_from}
use Rattle.rmm_model.specs.Command.RipasRange.{with_ripas_from}
use Rattle.rmm.proofs.Pages.{with_page-same, page_now, whole, goes_on}
use Rattle.rmm.proofs.WordEdits.{word_of_page-with_words_from_other}
use Rattle.rmm.proofs.ripas_range.write_ripas.Goals as goal

pub loop-k-init : goal.loop-k-init
unfolding with_ripas_from with_words_from
loop-k-init g c = record {
  changed = with_page-same c.args.granules.now c.args.found.now.table;
  count = refl;
  known = λ some. let no : ⊥ = omega arith in absurd no;
}

pub loop-k-preserved : goal.loop-k-preserved
unfolding with_ripas_from entry_in_page
loop-k-preserved g c =
    let m = c.args.granules.now in
    let table : ℕ = c.args.found.now.table in
    let first : ℕ = c.args.first in
    let k : ℕ = c.loop-k.k in
    let ripas = c.args.ripas in
    let before : List ℕ = page_in m table in
    let f : ℕ → ℕ = λ i. entry_word (entry_with_ripas ripas (entry_in_page before i)) in
    let made = c.loop-k.invariant.changed in
    let page : table < length c.loop-k.granules.pages = c.set_word.ensures.page in
    let len : length before ≡ 4096 = whole m c.loop-k.granules table first k f made page c.loop-k.invariant.known c.set_word.ensures.whole in
    let read : word_of_page c.page.result.now (first + k) ≡ word_of_page before (first + k) =
    ap (λ (p : List ℕ). word_of_page p (first + k)) (c.page.ensures.value ∙ page_now m c.loop-k.granules table first k f made page)
    ∙ word_of_page-with_words_from_other first k f before (first + k) (omega arith) len (omega arith) (inr (omega arith)) in
    let word : c.word.result ≡ f (first + k) =
    c.word.ensures ∙ ap entry_word (c.with_ripas.ensures ∙ ap (entry_with_ripas ripas) (c.entry_from_word-entry.ensures.value ∙ ap entry_of (c.word_in.ensures ∙ read))) in
    record {
      changed = goes_on m c.loop-k.granules table first k f made page c.set_word.new.self c.word.result c.set_word.ensures.written word;
      count = ap granule_count c.set_word.ensures.written ∙ c.loop-k.invariant.count;
      known = λ _. len;
    }
