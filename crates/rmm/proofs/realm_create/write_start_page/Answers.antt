use Rattle.std.proofs.Common.{◌≡◌, ◌+◌, ◌*◌, ℕ, ap, ◌∙◌, arith}
use Rattle.granule_addr.specs.Page.{zero_page}
use Rattle.rmm_model.specs.Command.RealmCreate.{start_entry, start_page}
use Rattle.rmm_model.specs.Entry.{entry_word}
use Rattle.rmm_model.specs.Machine.{Machine, with_page, with_word}
use Rattle.rmm_model.specs.Table.{with_words}
use Rattle.rmm.proofs.Pages.{with_words-more}
use Rattle.rmm.proofs.realm_create.write_start_page.Goals as goal

pub loop-index-init : goal.loop-index-init
unfolding with_words
loop-index-init g c = c.fill.ensures.filled

pub loop-index-preserved : goal.loop-index-preserved
loop-index-preserved g c =
    let f : ℕ → ℕ = λ n. entry_word (start_entry c.args.realm.now (c.args.k * 512 + n)) in
    let i : ℕ = c.loop-index.index in
    let word : c.word.result ≡ f i = c.word.ensures ∙ ap entry_word c.start_entry.ensures in
    c.set_word.ensures.written
    ∙ ap (λ (m : Machine). with_word m c.args.table i c.word.result) c.loop-index.invariant
    ∙ ap (with_word (with_page c.args.granules.now c.args.table (with_words i f zero_page)) c.args.table i) word
    ∙ with_words-more c.args.granules.now c.args.table i f zero_page c.fill.ensures.page

pub returns : goal.returns
unfolding start_page
returns g c =
    let f : ℕ → ℕ = λ n. entry_word (start_entry c.args.realm.now (c.args.k * 512 + n)) in
    let all : c.loop-index.index ≡ 512 = omega arith in
    c.loop-index.invariant ∙ ap (λ (n : ℕ). with_page c.args.granules.now c.args.table (with_words n f zero_page)) all
