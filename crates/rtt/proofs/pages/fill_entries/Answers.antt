use Rattle.std.proofs.Common.{◌≡◌, ◌≢◌, ◌<◌, ◌^◌, ℕ, List, [], length, sym, ap, ◌∙◌, arith, inl, inr, ⊎_elim}
use Rattle.std.proofs.lemmas.Bool.{cases_eq}
use Rattle.std.proofs.lemmas.List.{get_or-set_same}
use Rattle.granule_addr.specs.Page.{zero_page}
use Rattle.page_arena.specs.Page.{page_at}
use Rattle.page_arena.specs.Pages.{length-page_at}
use Rattle.page_arena.specs.Word.{word_of_page, word_at, with_word}
use Rattle.page_arena.specs.Words.{word_of_page-zero_page, word_at-with_word_same, word_at-with_word_other, page_at-with_word_other, length-with_word}
use Rattle.rtt.proofs.pages.fill_entries.Goals as goal

pub loop-index-preserved : goal.loop-index-preserved
loop-index-preserved g c =
    let pages = g.S.PageStore.page_bytes c.loop-index.store in
    let after = g.S.PageStore.page_bytes c.set_word.new.self in
    let table = c.args.table in
    let index = c.loop-index.index in
    let w = c.to_word-word.result in
    let inside : table < length pages = let same = c.loop-index.invariant.pages in let was = c.requires.inside in omega arith in
    let whole : length (page_at pages table) ≡ 4096 = length-page_at pages (g.S.PageStore.free_flags c.loop-index.store) (g.met.S.PageStore.sized c.loop-index.store) table inside in
    let few : index < 512 = omega arith in
    let fits : w < 2 ^ 64 = omega (arith, c.to_word-word.type_inv) in
    let written : after ≡ with_word pages table index w = c.set_word.ensures.written in
    record {
      written = λ k low high. ap (λ (p : List (List ℕ)). word_at p table k) written
          ∙ ⊎_elim
          (λ (s : k ≡ index). ap (λ (j : ℕ). word_at (with_word pages table index w) table j) s ∙ word_at-with_word_same pages table index w inside whole few fits)
          (λ (n : k ≢ index). word_at-with_word_other pages table index w inside whole few table k (inr n) (omega arith) ∙ c.loop-index.invariant.written k low (omega arith))
          (cases_eq k index);
      kept = λ k lt out. ap (λ (p : List (List ℕ)). word_at p table k) written
          ∙ word_at-with_word_other pages table index w inside whole few table k (inr (⊎_elim (λ l. omega arith) (λ l. omega arith) out)) lt
          ∙ c.loop-index.invariant.kept k lt (⊎_elim (λ l. inl l) (λ l. inr (omega arith)) out);
      others = λ granule ne. ap (λ (p : List (List ℕ)). page_at p granule) written ∙ page_at-with_word_other pages table index w granule ne ∙ c.loop-index.invariant.others granule ne;
      pages = ap length written ∙ length-with_word pages table index w ∙ c.loop-index.invariant.pages;
      flags = c.set_word.ensures.flags ∙ c.loop-index.invariant.flags;
    }

pub returns-then-count-eq512-clause-written : goal.returns-then-count-eq512-clause-written
returns-then-count-eq512-clause-written g c =
    λ index low high.
    ap (λ (p : List (List ℕ)). word_at p c.args.table index) c.fill.ensures.filled
    ∙ ap (λ (page : List ℕ). word_of_page page index) (get_or-set_same (g.S.PageStore.page_bytes c.args.store.now) c.args.table zero_page [] c.requires.inside)
    ∙ word_of_page-zero_page index (omega (arith, high, c.requires.fits))
    ∙ sym c.if-word-eq0.true
    ∙ c.to_word-word.ensures
