-- Proofs that words written to a page are read back, and that the page's length and its other words stay the same.
use Rattle.std.proofs.Common.{◌≡◌, ◌≢◌, ℕ, zero, suc, ◌+◌, ◌*◌, ◌^◌, ◌<◌, ◌≤◌, ◌⊎◌, inl, inr, List, ◌++◌, length, take, drop, refl, subst, sym, ap, ◌∙◌, ⊎_elim, arith, length-append}
use Rattle.std.proofs.lemmas.Bool.{cases_eq}
use Rattle.std.proofs.lemmas.List.{length-drop, length-take-le}
use Rattle.std.specs.Int.{to_le_bytes, w64}
use Rattle.page_arena.specs.Word.{with_bytes, word_of_page, page_with_word}
use Rattle.page_arena.specs.Words.{word_of_page-page_with_word_same, word_of_page-page_with_word_other}
use Rattle.rmm_model.specs.Table.{with_words, with_words_from}

pub length-page_with_word : (page : List ℕ) (i word : ℕ) → length page ≡ 4096 → i < 512 → length (page_with_word page i word) ≡ 4096
unfolding page_with_word with_bytes
length-page_with_word page i word whole index =
    let bytes : List ℕ = to_le_bytes w64 word in
    let eight : length bytes ≡ 8 = refl in
    let front = length-take-le (8 * i) page (omega arith) in
    let rest = length-drop (8 * i + length bytes) page in
    length-append (take (8 * i) page ++ bytes) (drop (8 * i + length bytes) page) ∙ (let a = length-append (take (8 * i) page) bytes in omega arith)

-- ---- the first words

module _ (f : ℕ → ℕ) (page : List ℕ) (whole : length page ≡ 4096) where
  pub length-with_words : (count : ℕ) → count ≤ 512 → length (with_words count f page) ≡ 4096
  unfolding with_words
  length-with_words zero few = whole
  length-with_words (suc count) few = length-page_with_word (with_words count f page) count (f count) (length-with_words count (omega arith)) (omega arith)

  pub word_of_page-with_words : (count k : ℕ) → count ≤ 512 → k < count → f k < 2 ^ 64 → word_of_page (with_words count f page) k ≡ f k
  unfolding with_words
  word_of_page-with_words zero k few lt fits = absurd (omega arith)
  word_of_page-with_words (suc count) k few lt fits =
      let written : List ℕ = with_words count f page in
      let long = length-with_words count (omega arith) in
      let before : k < count → word_of_page (page_with_word written count (f count)) k ≡ f k =
      λ below. word_of_page-page_with_word_other written count (f count) long (omega arith) k (omega arith) (omega arith) ∙ word_of_page-with_words count k (omega arith) below fits in
      ⊎_elim
      (λ (same : k ≡ count). ap (word_of_page (page_with_word written count (f count))) same
      ∙ word_of_page-page_with_word_same written count (f count) long (omega arith) (subst (λ (n : ℕ). f n < 2 ^ 64) same fits)
      ∙ ap f (sym same))
      (λ (other : k ≢ count). before (omega arith))
      (cases_eq k count)

-- ---- words from one on

module _ (first : ℕ) (f : ℕ → ℕ) (page : List ℕ) (whole : length page ≡ 4096) where
  pub length-with_words_from : (count : ℕ) → first + count ≤ 512 → length (with_words_from first count f page) ≡ 4096
  unfolding with_words_from
  length-with_words_from zero within = whole
  length-with_words_from (suc count) within =
      length-page_with_word (with_words_from first count f page) (first + count) (f (first + count)) (length-with_words_from count (omega arith)) (omega arith)

  -- a word of the page before or after those that are written is unchanged
  pub word_of_page-with_words_from_other : (count i : ℕ) → first + count ≤ 512 → i < 512 → (i < first) ⊎ (first + count ≤ i) → word_of_page (with_words_from first count f page) i ≡ word_of_page page i
  unfolding with_words_from
  word_of_page-with_words_from_other zero i within index beside = refl
  word_of_page-with_words_from_other (suc count) i within index beside =
      word_of_page-page_with_word_other (with_words_from first count f page) (first + count) (f (first + count)) (length-with_words_from count (omega arith)) (omega arith) i (omega arith) index
      ∙ word_of_page-with_words_from_other count i (omega arith) index (⊎_elim (λ (below : i < first). inl below) (λ (above : first + suc count ≤ i). inr (omega arith)) beside)

  -- each of the words that are written is read back
  pub word_of_page-with_words_from_same : (count i : ℕ) → first + count ≤ 512 → first ≤ i → i < first + count → f i < 2 ^ 64 → word_of_page (with_words_from first count f page) i ≡ f i
  unfolding with_words_from
  word_of_page-with_words_from_same zero i within low high fits = absurd (omega arith)
  word_of_page-with_words_from_same (suc count) i within low high fits =
      let written : List ℕ = with_words_from first count f page in
      let long = length-with_words_from count (omega arith) in
      ⊎_elim
      (λ (same : i ≡ first + count). ap (word_of_page (page_with_word written (first + count) (f (first + count)))) same
      ∙ word_of_page-page_with_word_same written (first + count) (f (first + count)) long (omega arith) (subst (λ (n : ℕ). f n < 2 ^ 64) same fits)
      ∙ ap f (sym same))
      (λ (other : i ≢ first + count). word_of_page-page_with_word_other written (first + count) (f (first + count)) long (omega arith) i other (omega arith)
      ∙ word_of_page-with_words_from_same count i (omega arith) low (omega arith) fits)
      (cases_eq i (first + count))
