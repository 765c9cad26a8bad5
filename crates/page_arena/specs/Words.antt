-- Theorems about the 64-bit words of a page after one of them is written, and of a page of zeros. With these theorems,
-- a proof about words need not speak of their bytes.
use Rattle.std.specs.Prelude.{◌≡◌, ◌≢◌, ℕ, ◌+◌, ◌-◌, ◌*◌, ◌^◌, ◌<◌, ◌≤◌, ◌⊎◌, List, [], ◌++◌, length, take, drop, replicate, get_or, slice_range}
use Rattle.std.specs.Int.{from_le_bytes, to_le_bytes, w64}
use Rattle.std.proofs.Common.{refl, sym, ap, ◌∙◌, inl, inr, ⊎_elim, arith, length-append, append_assoc}
use Rattle.std.proofs.lemmas.List.{length-drop, length-set, length-take-le, drop_at, take_at, take-replicate, drop-replicate, get_or_append_left}
use Rattle.std.proofs.lemmas.List.{get_or-append_right, get_or-take, get_or-drop, get_or-set_same, get_or-set_other, ext_get_or}
use Rattle.std.proofs.lemmas.List.Edits.{length-between, get_or-between}
use Rattle.std.proofs.lemmas.Nat.{from_le_bytes-to_le_bytes_8}
use Rattle.std.proofs.lemmas.Bool.{cases_eq, cases_lt}
use Rattle.granule_addr.specs.Page.{page_of, zero_page}
use Rattle.page_arena.specs.Page.{page_at}
use Rattle.page_arena.specs.Word.{with_bytes, word_of_page, page_with_word, word_at, with_word}

-- ---- eight bytes written into a page

module _ (page bytes : List ℕ) (at : ℕ) (eight : length bytes ≡ 8) (fits : at + 8 ≤ length page) where
  front : length (take at page) ≡ at
  front = length-take-le at page (omega arith)

  fronts : length (take at page ++ bytes) ≡ at + 8
  fronts = length-append (take at page) bytes ∙ (let f = front in omega arith)

  length-with_bytes : length (with_bytes page at bytes) ≡ length page
  unfolding with_bytes
  length-with_bytes =
      length-append (take at page ++ bytes) _ ∙ (let f = fronts in let r = length-drop (at + length bytes) page in omega arith)

  range_written : slice_range (with_bytes page at bytes) at (at + 8) ≡ bytes
  unfolding with_bytes
  range_written =
      let eight_more : at + 8 - at ≡ 8 = omega arith in
      ap (λ (xs : List ℕ). take (at + 8 - at) (drop at xs)) (append_assoc (take at page) bytes _)
      ∙ ap (λ (xs : List ℕ). take (at + 8 - at) xs) (drop_at (take at page) _ at front)
      ∙ take_at bytes _ (at + 8 - at) (eight ∙ sym eight_more)

  kept : (k : ℕ) → (k < at) ⊎ (at + 8 ≤ k) → get_or (with_bytes page at bytes) k 0 ≡ get_or page k 0
  unfolding with_bytes
  kept k (inl below) =
      get_or_append_left (take at page ++ bytes) _ 0 k (let f = fronts in omega arith)
      ∙ get_or_append_left (take at page) bytes 0 k (let f = front in omega arith)
      ∙ get_or-take at page k 0 below
  kept k (inr above) =
      let same : at + length bytes + (k - (at + 8)) ≡ k = omega arith in
      get_or-append_right (take at page ++ bytes) _ (at + 8) k 0 fronts above
      ∙ get_or-drop (at + length bytes) page (k - (at + 8)) 0
      ∙ ap (λ (n : ℕ). get_or page n 0) same

  range_beside : (other : ℕ) → other + 8 ≤ length page → (other + 8 ≤ at) ⊎ (at + 8 ≤ other) → slice_range (with_bytes page at bytes) other (other + 8) ≡ slice_range page other (other + 8)
  range_beside other within beside =
      let len = length-with_bytes in
      let a : length (slice_range (with_bytes page at bytes) other (other + 8)) ≡ other + 8 - other = length-between (with_bytes page at bytes) other (other + 8) (omega arith) in
      let b : length (slice_range page other (other + 8)) ≡ other + 8 - other = length-between page other (other + 8) within in
      ext_get_or 0 _ _ (a ∙ sym b) (λ k lt.
      let c : k < 8 = omega (arith, a, lt) in
      get_or-between (with_bytes page at bytes) other (other + 8) k 0 (omega arith)
      ∙ kept (other + k) (⊎_elim (λ l. inl (omega arith)) (λ l. inr (omega arith)) beside)
      ∙ sym (get_or-between page other (other + 8) k 0 (omega arith)))

apart : (i j : ℕ) → j ≢ i → (j + 1 ≤ i) ⊎ (i + 1 ≤ j)
apart i j other = ⊎_elim (λ l. inl (omega arith)) (λ l. inr (omega arith)) (cases_lt j i)

-- ---- a word written into a page

module _ (page : List ℕ) (i word : ℕ) (whole : length page ≡ 4096) (index : i < 512) where
  -- after a word is written into a page, the word at its index is the one that was written
  pub word_of_page-page_with_word_same : word < 2 ^ 64 → word_of_page (page_with_word page i word) i ≡ word
  unfolding word_of_page page_with_word
  word_of_page-page_with_word_same fits =
      ap (from_le_bytes w64) (range_written page (to_le_bytes w64 word) (8 * i) refl (omega arith)) ∙ from_le_bytes-to_le_bytes_8 word fits

  -- after a word is written into a page, every other word of the page is unchanged
  pub word_of_page-page_with_word_other : (j : ℕ) → j ≢ i → j < 512 → word_of_page (page_with_word page i word) j ≡ word_of_page page j
  unfolding word_of_page page_with_word
  word_of_page-page_with_word_other j other lt =
      ap (from_le_bytes w64) (range_beside page (to_le_bytes w64 word) (8 * i) refl (omega arith) (8 * j) (omega arith)
      (⊎_elim (λ l. inl (omega arith)) (λ l. inr (omega arith)) (apart i j other)))

-- each word of a page of zeros is 0
pub word_of_page-zero_page : (i : ℕ) → i < 512 → word_of_page zero_page i ≡ 0
unfolding word_of_page page_of
word_of_page-zero_page i index =
    let eight : 8 * i + 8 - 8 * i ≡ 8 = omega arith in
    ap (from_le_bytes w64)
    (ap (take (8 * i + 8 - 8 * i)) (drop-replicate (8 * i) 4096 0)
    ∙ take-replicate (8 * i + 8 - 8 * i) (4096 - 8 * i) 0 (omega arith)
    ∙ ap (λ (k : ℕ). replicate k 0) eight)

-- ---- a word written into the page of a granule

module _ (pages : List (List ℕ)) (granule i word : ℕ) (inside : granule < length pages) (whole : length (page_at pages granule) ≡ 4096) (index : i < 512) where
  new_page : page_at (with_word pages granule i word) granule ≡ page_with_word (page_at pages granule) i word
  new_page = get_or-set_same pages granule _ [] inside

  -- after a word is written into a granule, the word at its index is the one that was written
  pub word_at-with_word_same : word < 2 ^ 64 → word_at (with_word pages granule i word) granule i ≡ word
  word_at-with_word_same fits =
      ap (λ page. word_of_page page i) new_page ∙ word_of_page-page_with_word_same (page_at pages granule) i word whole index fits

  -- after a word is written into a granule, every other word of that granule, and every word of any other granule, is
  -- unchanged
  pub word_at-with_word_other : (other j : ℕ) → (other ≢ granule) ⊎ (j ≢ i) → j < 512 → word_at (with_word pages granule i word) other j ≡ word_at pages other j
  word_at-with_word_other other j (inl ne) lt = ap (λ page. word_of_page page j) (get_or-set_other pages granule other _ [] ne)
  word_at-with_word_other other j (inr ne) lt =
      ⊎_elim
      (λ same.
      ap (λ (k : ℕ). word_at (with_word pages granule i word) k j) same
      ∙ ap (λ page. word_of_page page j) new_page
      ∙ word_of_page-page_with_word_other (page_at pages granule) i word whole index j ne lt
      ∙ ap (λ (k : ℕ). word_at pages k j) (sym same))
      (λ beside. ap (λ page. word_of_page page j) (get_or-set_other pages granule other _ [] beside))
      (cases_eq other granule)

-- writing a word into a granule leaves the bytes of every other granule as they are
pub page_at-with_word_other : (pages : List (List ℕ)) (granule i word other : ℕ) → other ≢ granule → page_at (with_word pages granule i word) other ≡ page_at pages other
page_at-with_word_other pages granule i word other ne = get_or-set_other pages granule other _ [] ne

-- writing a word does not change the number of pages
pub length-with_word : (pages : List (List ℕ)) (granule i word : ℕ) → length (with_word pages granule i word) ≡ length pages
length-with_word pages granule i word = length-set pages granule _
