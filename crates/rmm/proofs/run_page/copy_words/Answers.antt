use Rattle.std.proofs.Common.{◌≡◌, ◌≢◌, ◌+◌, ◌-◌, ◌<◌, ◌≤◌, ℕ, List, length, refl, sym, ap, ◌∙◌, inl, inr, ⊎_elim, arith}
use Rattle.std.proofs.lemmas.Bool.{cases_eq}
use Rattle.page_arena.specs.Word.{word_of_page}
use Rattle.rmm_model.specs.Machine.{Machine, granule_count, page_in}
use Rattle.rmm_model.specs.Table.{with_words_from}
use Rattle.rmm_model.specs.Command.RecEnter.{with_copied}
use Rattle.rmm.proofs.Pages.{with_page-same, page_in-other, page_now, whole, goes_on}
use Rattle.rmm.proofs.WordEdits.{word_of_page-with_words_from_other}
use Rattle.rmm.proofs.run_page.copy_words.Goals as goal

pub loop-k-init : goal.loop-k-init
unfolding with_copied with_words_from
loop-k-init g c = record {
  made = with_page-same c.args.granules.now c.args.to;
  count = refl;
  known = λ some. let no : ⊥ = omega arith in absurd no;
}

pub loop-k-preserved : goal.loop-k-preserved
unfolding with_copied
loop-k-preserved g c =
    let m = c.args.granules.now in
    let from : ℕ = c.args.from in
    let to : ℕ = c.args.to in
    let first : ℕ = c.args.first in
    let place : ℕ = c.args.place in
    let k : ℕ = c.loop-k.k in
    let f : ℕ → ℕ = λ i. word_of_page (page_in m from) (first + (i - place)) in
    let made = c.loop-k.invariant.made in
    let page : to < length c.loop-k.granules.pages = c.set_word.ensures.page in
    let len : length (page_in m to) ≡ 4096 = whole m c.loop-k.granules to place k f made page c.loop-k.invariant.known c.set_word.ensures.whole in
    let source : word_of_page (page_in c.loop-k.granules from) (first + k) ≡ word_of_page (page_in m from) (first + k) =
    ⊎_elim
    (λ (same : from ≡ to).
    ap (λ (n : ℕ). word_of_page (page_in c.loop-k.granules n) (first + k)) same
    ∙ ap (λ (p : List ℕ). word_of_page p (first + k)) (page_now m c.loop-k.granules to place k f made page)
    ∙ word_of_page-with_words_from_other place k f (page_in m to) (first + k) (omega arith) len (omega arith)
    (⊎_elim (λ (below : first + c.args.count ≤ place). inl (omega arith)) (λ (above : place + c.args.count ≤ first). inr (omega arith)) c.requires.apart)
    ∙ ap (λ (n : ℕ). word_of_page (page_in m n) (first + k)) (sym same))
    (λ (other : from ≢ to).
    ap (λ (x : Machine). word_of_page (page_in x from) (first + k)) made
    ∙ ap (λ (p : List ℕ). word_of_page p (first + k)) (page_in-other m to from (with_words_from place k f (page_in m to)) other))
    (cases_eq from to) in
    let place_of : first + k ≡ first + (place + k - place) = omega arith in
    let word : c.word_in-word.result ≡ f (place + k) =
    c.word_in-word.ensures
    ∙ ap (λ (p : List ℕ). word_of_page p (first + k)) c.page.ensures.value
    ∙ source
    ∙ ap (word_of_page (page_in m from)) place_of in
    record {
      made = goes_on m c.loop-k.granules to place k f made page c.set_word.new.self c.word_in-word.result c.set_word.ensures.written word;
      count = ap granule_count c.set_word.ensures.written ∙ c.loop-k.invariant.count;
      known = λ _. len;
    }
