use Rattle.std.proofs.Common.{◌≡◌, ℕ, List, ap, ◌∙◌, arith}
use Rattle.granule_addr.specs.Page.{zero_page}
use Rattle.rmm_model.specs.Command.RecCreate.{rec_word, rec_page}
use Rattle.rmm_model.specs.Machine.{Machine, page_in, with_page, with_word}
use Rattle.rmm_model.specs.Table.{with_words}
use Rattle.rmm.proofs.Pages.{with_words-more, page_in-other}
use Rattle.rmm.proofs.rec_create.write_rec_page.Goals as goal

pub loop-k-init : goal.loop-k-init
unfolding with_words
loop-k-init g c = c.fill.ensures.filled

pub loop-k-preserved : goal.loop-k-preserved
loop-k-preserved g c =
    let m = c.args.granules.now in
    let f : ℕ → ℕ = rec_word (page_in m c.args.source) in
    let k : ℕ = c.loop-k.k in
    let source : page_in c.loop-k.granules c.args.source ≡ page_in m c.args.source =
    ap (λ (now : Machine). page_in now c.args.source) c.loop-k.invariant
    ∙ page_in-other m c.args.rec c.args.source (with_words k f zero_page) c.requires.different in
    let word : c.rec_word-word.result ≡ f k = c.rec_word-word.ensures ∙ ap (λ (page : List ℕ). rec_word page k) (c.page.ensures.value ∙ source) in
    c.set_word.ensures.written
    ∙ ap (λ (now : Machine). with_word now c.args.rec k c.rec_word-word.result) c.loop-k.invariant
    ∙ ap (with_word (with_page m c.args.rec (with_words k f zero_page)) c.args.rec k) word
    ∙ with_words-more m c.args.rec k f zero_page c.fill.ensures.page

pub returns : goal.returns
unfolding rec_page
returns g c =
    let m = c.args.granules.now in
    let f : ℕ → ℕ = rec_word (page_in m c.args.source) in
    let all : c.loop-k.k ≡ 48 = omega arith in
    record { page = c.loop-k.invariant ∙ ap (λ (n : ℕ). with_page m c.args.rec (with_words n f zero_page)) all }
