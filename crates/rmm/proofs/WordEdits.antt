-- Proofs that writing words to a page keeps its length and its other words, and that a later write of the same word
-- replaces an earlier one.
use Rattle.std.proofs.Common.{◌≡◌, ◌≢◌, ℕ, zero, suc, ◌+◌, ◌-◌, ◌*◌, ◌<◌, ◌≤◌, ◌==◌, ◌⊎◌, List, ◌++◌, length, take, get_or, if◌then◌else◌, refl, sym, ap, ◌∙◌, inl, inr, ⊎_elim, arith, length-append}
use Rattle.std.specs.Int.{to_le_bytes, w64}
use Rattle.std.proofs.lemmas.Bool.{cases_eq, cases_lt, eq-eqb, ne_eqb, cond-true, cond-false}
use Rattle.std.proofs.lemmas.List.{length-drop, length-take-le, get_or_append_left, get_or-append_right, get_or-take, get_or-drop, ext_get_or}
use Rattle.page_arena.specs.Word.{with_bytes, word_of_page, page_with_word}
use Rattle.page_arena.specs.Words.{word_of_page-page_with_word_other}
use Rattle.rmm_model.specs.Table.{with_words_from}

-- byte `k` of a page is one of the eight bytes of word `i`
abbrev IsIn : ℕ → ℕ → Type 0
IsIn k i = (8 * i ≤ k) × (k < 8 * i + 8)

abbrev IsOut : ℕ → ℕ → Type 0
IsOut k i = (k < 8 * i) ⊎ (8 * i + 8 ≤ k)

in_or_out : (k i : ℕ) → IsIn k i ⊎ IsOut k i
in_or_out k i =
    ⊎_elim (λ (below : k < 8 * i). inr (inl below))
    (λ (from : 8 * i ≤ k). ⊎_elim (λ (high : k < 8 * i + 8). inl (from, high)) (λ (above : 8 * i + 8 ≤ k). inr (inr above)) (cases_lt k (8 * i + 8)))
    (cases_lt k (8 * i))

-- a byte of one word is not among the bytes of another word
out_of_other : (k i j : ℕ) → i ≢ j → IsIn k i → IsOut k j
out_of_other k i j apart (low, high) =
    ⊎_elim (λ (below : i < j). inl (omega arith)) (λ (above : j ≤ i). inr (omega arith)) (cases_lt i j)

-- ---- one word

module _ (page : List ℕ) (i word : ℕ) (whole : length page ≡ 4096) (index : i < 512) where
  front : length (take (8 * i) page) ≡ 8 * i
  front = length-take-le (8 * i) page (omega arith)

  fronts : length (take (8 * i) page ++ to_le_bytes w64 word) ≡ 8 * i + 8
  fronts = length-append (take (8 * i) page) (to_le_bytes w64 word) ∙ (let f = front in let e : length (to_le_bytes w64 word) ≡ 8 = refl in omega arith)

  pub length-page_with_word : length (page_with_word page i word) ≡ 4096
  unfolding page_with_word with_bytes
  length-page_with_word =
      length-append (take (8 * i) page ++ to_le_bytes w64 word) _
      ∙ (let f = fronts in let r = length-drop (8 * i + length (to_le_bytes w64 word)) page in let e : length (to_le_bytes w64 word) ≡ 8 = refl in omega arith)

  byte_in : (k : ℕ) → IsIn k i → get_or (page_with_word page i word) k 0 ≡ get_or (to_le_bytes w64 word) (k - 8 * i) 0
  unfolding page_with_word with_bytes
  byte_in k (low, high) =
      get_or_append_left (take (8 * i) page ++ to_le_bytes w64 word) _ 0 k (let f = fronts in omega arith)
      ∙ get_or-append_right (take (8 * i) page) (to_le_bytes w64 word) (8 * i) k 0 front low

  byte_out : (k : ℕ) → IsOut k i → get_or (page_with_word page i word) k 0 ≡ get_or page k 0
  unfolding page_with_word with_bytes
  byte_out k (inl below) =
      get_or_append_left (take (8 * i) page ++ to_le_bytes w64 word) _ 0 k (let f = fronts in omega arith)
      ∙ get_or_append_left (take (8 * i) page) (to_le_bytes w64 word) 0 k (let f = front in omega arith)
      ∙ get_or-take (8 * i) page k 0 below
  byte_out k (inr above) =
      let same : 8 * i + length (to_le_bytes w64 word) + (k - (8 * i + 8)) ≡ k = omega arith in
      get_or-append_right (take (8 * i) page ++ to_le_bytes w64 word) _ (8 * i + 8) k 0 fronts above
      ∙ get_or-drop (8 * i + length (to_le_bytes w64 word)) page (k - (8 * i + 8)) 0
      ∙ ap (λ (n : ℕ). get_or page n 0) same

-- ---- two words

module _ (page : List ℕ) (i v j w : ℕ) (whole : length page ≡ 4096) (first : i < 512) (second : j < 512) where
  len : length (page_with_word page i v) ≡ 4096
  len = length-page_with_word page i v whole first

  -- words at two different indexes can be written in either order
  pub page_with_word-swap : i ≢ j → page_with_word (page_with_word page i v) j w ≡ page_with_word (page_with_word page j w) i v
  page_with_word-swap apart =
      let other : length (page_with_word page j w) ≡ 4096 = length-page_with_word page j w whole second in
      ext_get_or 0 _ _ (length-page_with_word (page_with_word page i v) j w len second ∙ sym (length-page_with_word (page_with_word page j w) i v other first))
      (λ k lt.
      ⊎_elim
      (λ (in_i : IsIn k i).
      byte_out (page_with_word page i v) j w len second k (out_of_other k i j apart in_i)
      ∙ byte_in page i v whole first k in_i
      ∙ sym (byte_in (page_with_word page j w) i v other first k in_i))
      (λ (out_i : IsOut k i).
      ⊎_elim
      (λ (in_j : IsIn k j).
      byte_in (page_with_word page i v) j w len second k in_j
      ∙ sym (byte_in page j w whole second k in_j)
      ∙ sym (byte_out (page_with_word page j w) i v other first k out_i))
      (λ (out_j : IsOut k j).
      byte_out (page_with_word page i v) j w len second k out_j
      ∙ byte_out page i v whole first k out_i
      ∙ sym (byte_out page j w whole second k out_j)
      ∙ sym (byte_out (page_with_word page j w) i v other first k out_i))
      (in_or_out k j))
      (in_or_out k i))

-- of two writes of the same word, only the later one remains
pub page_with_word-over : (page : List ℕ) (i v w : ℕ) → length page ≡ 4096 → i < 512 → page_with_word (page_with_word page i v) i w ≡ page_with_word page i w
page_with_word-over page i v w whole index =
    let len : length (page_with_word page i v) ≡ 4096 = length-page_with_word page i v whole index in
    ext_get_or 0 _ _ (length-page_with_word (page_with_word page i v) i w len index ∙ sym (length-page_with_word page i w whole index))
    (λ k lt.
    ⊎_elim
    (λ (within : IsIn k i). byte_in (page_with_word page i v) i w len index k within ∙ sym (byte_in page i w whole index k within))
    (λ (outside : IsOut k i).
    byte_out (page_with_word page i v) i w len index k outside ∙ byte_out page i v whole index k outside ∙ sym (byte_out page i w whole index k outside))
    (in_or_out k i))

-- ---- several words

pub length-with_words_from : (first count : ℕ) (f : ℕ → ℕ) (page : List ℕ) → first + count ≤ 512 → length page ≡ 4096 → length (with_words_from first count f page) ≡ 4096
unfolding with_words_from
length-with_words_from first zero f page within whole = whole
length-with_words_from first (suc count) f page within whole =
    length-page_with_word (with_words_from first count f page) (first + count) (f (first + count)) (length-with_words_from first count f page (omega arith) whole) (omega arith)

-- writing a range of words leaves every other word of the page unchanged
pub word_of_page-with_words_from_other : (first count : ℕ) (f : ℕ → ℕ) (page : List ℕ) (i : ℕ) → first + count ≤ 512 → length page ≡ 4096 → i < 512 → (i < first) ⊎ (first + count ≤ i)
    → word_of_page (with_words_from first count f page) i ≡ word_of_page page i
unfolding with_words_from
word_of_page-with_words_from_other first zero f page i within whole index beside = refl
word_of_page-with_words_from_other first (suc count) f page i within whole index beside =
    word_of_page-page_with_word_other (with_words_from first count f page) (first + count) (f (first + count)) (length-with_words_from first count f page (omega arith) whole) (omega arith) i (omega arith) index
    ∙ word_of_page-with_words_from_other first count f page i (omega arith) whole index (⊎_elim (λ (below : i < first). inl below) (λ (above : first + suc count ≤ i). inr (omega arith)) beside)

-- writing a range of words of two functions has the same result, if the functions have the same values below the end of
-- the range
pub with_words_from-same : (first count : ℕ) (f g : ℕ → ℕ) (page : List ℕ) → ((i : ℕ) → i < first + count → f i ≡ g i) → with_words_from first count f page ≡ with_words_from first count g page
unfolding with_words_from
with_words_from-same first zero f g page same = refl
with_words_from-same first (suc count) f g page same =
    ap (λ (p : List ℕ). page_with_word p (first + count) (f (first + count))) (with_words_from-same first count f g page (λ i lt. same i (omega arith)))
    ∙ ap (page_with_word (with_words_from first count g page) (first + count)) (same (first + count) (omega arith))

-- the function `f`, but with the value `w` at index `j`
abbrev pub but : ℕ → ℕ → (ℕ → ℕ) → ℕ → ℕ
but j w f i = if i == j then w else f i

but_there : (j w i : ℕ) (f : ℕ → ℕ) → i ≡ j → w ≡ but j w f i
but_there j w i f same = sym (cond-true (i == j) w (f i) (eq-eqb i j same))

but_elsewhere : (j w i : ℕ) (f : ℕ → ℕ) → i ≢ j → f i ≡ but j w f i
but_elsewhere j w i f other = sym (cond-false (i == j) w (f i) (ne_eqb i j other))

-- writing one of the written words, `j`, again is writing the words of `but j w f` instead of those of `f`
pub page_with_word-with_words_from : (first count : ℕ) (f : ℕ → ℕ) (page : List ℕ) (j w : ℕ) → first + count ≤ 512 → length page ≡ 4096 → first ≤ j → j < first + count
    → page_with_word (with_words_from first count f page) j w ≡ with_words_from first count (but j w f) page
unfolding with_words_from
page_with_word-with_words_from first zero f page j w within whole low high = let no : ⊥ = omega arith in absurd no
page_with_word-with_words_from first (suc count) f page j w within whole low high =
    let before : List ℕ = with_words_from first count f page in
    let len : length before ≡ 4096 = length-with_words_from first count f page (omega arith) whole in
    ⊎_elim
    (λ (last : j ≡ first + count).
    ap (λ (n : ℕ). page_with_word (page_with_word before (first + count) (f (first + count))) n w) last
    ∙ page_with_word-over before (first + count) (f (first + count)) w len (omega arith)
    ∙ ap (λ (p : List ℕ). page_with_word p (first + count) w) (with_words_from-same first count f (but j w f) page (λ i lt. but_elsewhere j w i f (omega arith)))
    ∙ ap (page_with_word (with_words_from first count (but j w f) page) (first + count)) (but_there j w (first + count) f (sym last)))
    (λ (other : j ≢ first + count).
    page_with_word-swap before (first + count) (f (first + count)) j w len (omega arith) (omega arith) (λ same. other (sym same))
    ∙ ap (λ (p : List ℕ). page_with_word p (first + count) (f (first + count))) (page_with_word-with_words_from first count f page j w (omega arith) whole low (omega arith))
    ∙ ap (page_with_word (with_words_from first count (but j w f) page) (first + count)) (but_elsewhere j w (first + count) f (λ same. other (sym same))))
    (cases_eq j (first + count))
