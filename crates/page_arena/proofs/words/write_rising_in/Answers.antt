use Rattle.std.proofs.Common.{◌≡◌, ◌+◌, ◌%◌, ◌^◌, ℕ, List, sym, ap, ◌∙◌, arith}
use Rattle.page_arena.specs.SideBySide.{with_bytes-none, bytes_of_words-more, bytes_of_words-all}
use Rattle.page_arena.specs.Word.{with_bytes, page_with_word, bytes_of_words, rising_word}
use Rattle.page_arena.proofs.words.write_rising_in.Goals as goal

pub loop-index-init : goal.loop-index-init
unfolding bytes_of_words
loop-index-init c = record { written = sym (with_bytes-none c.args.page.now 0); low = omega arith }

pub loop-index-preserved : goal.loop-index-preserved
loop-index-preserved c =
    let f : ℕ → ℕ = rising_word c.args.kind c.args.first c.args.step in
    let i : ℕ = c.loop-index.index in
    let word : ℕ = c.args.kind + c.loop-index.low % 2 ^ 48 in
    let is : word ≡ f i = ap (λ (n : ℕ). c.args.kind + n % 2 ^ 48) c.loop-index.invariant.low in
    record {
      written =
          c.set_word_in.ensures
          ∙ ap (λ (p : List ℕ). page_with_word p i word) c.loop-index.invariant.written
          ∙ ap (page_with_word (with_bytes c.args.page.now 0 (bytes_of_words i f)) i) is
          ∙ bytes_of_words-more c.args.page.now i f (omega arith) (omega arith);
      low = omega arith;
    }

pub returns : goal.returns
returns c =
    let f : ℕ → ℕ = rising_word c.args.kind c.args.first c.args.step in
    let all : c.loop-index.index ≡ 512 = omega arith in
    c.loop-index.invariant.written
    ∙ ap (λ (n : ℕ). with_bytes c.args.page.now 0 (bytes_of_words n f)) all
    ∙ bytes_of_words-all c.args.page.now f (omega arith)
