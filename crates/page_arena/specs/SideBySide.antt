-- Theorems about bytes and words that are written into a page side by side.
use Rattle.std.specs.Prelude.{◌≡◌, ℕ, zero, suc, ◌+◌, ◌*◌, ◌<◌, ◌≤◌, List, [], ◌++◌, length, take, drop}
use Rattle.std.specs.Int.{to_le_bytes, w64}
use Rattle.std.proofs.Common.{refl, sym, ap, ◌∙◌, add-one, arith, append_assoc, length-append}
use Rattle.std.proofs.lemmas.List.{append-nil, take_at, take-append-drop, drop_all, length-take-le}
use Rattle.std.proofs.lemmas.Slice.{drop-append-drop}
use Rattle.page_arena.specs.Word.{with_bytes, page_with_word, bytes_of_words}

-- ---- bytes

-- writing bytes, and then more bytes right after them, equals writing both as one list
pub with_bytes-append : (page xs ys : List ℕ) (at : ℕ) → at + length xs ≤ length page → with_bytes (with_bytes page at xs) (at + length xs) ys ≡ with_bytes page at (xs ++ ys)
unfolding with_bytes
with_bytes-append page xs ys at fits =
    let front : List ℕ = take at page ++ xs in
    let end : ℕ = at + length xs in
    let count : length front ≡ end = length-append (take at page) xs ∙ ap (λ (n : ℕ). n + length xs) (length-take-le at page (omega arith)) in
    let more : end + length ys ≡ at + length (xs ++ ys) = let both = length-append xs ys in omega arith in
    ap (λ (p : List ℕ). p ++ ys ++ drop (end + length ys) (front ++ drop end page)) (take_at front (drop end page) end count)
    ∙ ap (λ (p : List ℕ). front ++ ys ++ p) (drop-append-drop end page front (end + length ys) (omega arith) count)
    ∙ ap (λ (p : List ℕ). p ++ drop (end + length ys) page) (append_assoc (take at page) xs ys)
    ∙ ap (λ (n : ℕ). take at page ++ (xs ++ ys) ++ drop n page) more

-- writing no bytes leaves the page as it is
pub with_bytes-none : (page : List ℕ) (at : ℕ) → with_bytes page at [] ≡ page
unfolding with_bytes
with_bytes-none page at =
    ap (λ (p : List ℕ). p ++ drop (at + 0) page) (append-nil (take at page))
    ∙ ap (λ (n : ℕ). take at page ++ drop n page) (omega arith)
    ∙ take-append-drop at page

-- writing 4,096 bytes at the start of a page replaces the whole page
pub with_bytes-whole : (page bytes : List ℕ) → length page ≡ 4096 → length bytes ≡ 4096 → with_bytes page 0 bytes ≡ bytes
unfolding with_bytes
with_bytes-whole page bytes whole all =
    ap (λ (p : List ℕ). bytes ++ p) (drop_all (0 + length bytes) page (omega arith)) ∙ append-nil bytes

-- ---- words

-- `count` words of 64 bits take 8 * `count` bytes
pub length-bytes_of_words : (count : ℕ) (f : ℕ → ℕ) → length (bytes_of_words count f) ≡ 8 * count
unfolding bytes_of_words
length-bytes_of_words zero f = refl
length-bytes_of_words (suc count) f =
    length-append (bytes_of_words count f) (to_le_bytes w64 (f count))
    ∙ (let before = length-bytes_of_words count f in let eight : length (to_le_bytes w64 (f count)) ≡ 8 = refl in omega arith)

-- writing one more word after the first `count` words equals writing the first `count + 1` words
pub bytes_of_words-more : (page : List ℕ) (count : ℕ) (f : ℕ → ℕ) → length page ≡ 4096 → count < 512
    → page_with_word (with_bytes page 0 (bytes_of_words count f)) count (f count) ≡ with_bytes page 0 (bytes_of_words (count + 1) f)
unfolding page_with_word bytes_of_words
bytes_of_words-more page count f whole few =
    let before : List ℕ = bytes_of_words count f in
    let len : length before ≡ 8 * count = length-bytes_of_words count f in
    let place : 8 * count ≡ 0 + length before = omega arith in
    ap (λ (n : ℕ). with_bytes (with_bytes page 0 before) n (to_le_bytes w64 (f count))) place
    ∙ with_bytes-append page before (to_le_bytes w64 (f count)) 0 (omega arith)
    ∙ ap (λ (n : ℕ). with_bytes page 0 (bytes_of_words n f)) (sym (add-one count))

-- writing 512 words at the start of a page replaces the whole page
pub bytes_of_words-all : (page : List ℕ) (f : ℕ → ℕ) → length page ≡ 4096 → with_bytes page 0 (bytes_of_words 512 f) ≡ bytes_of_words 512 f
bytes_of_words-all page f whole =
    with_bytes-whole page (bytes_of_words 512 f) whole (length-bytes_of_words 512 f)
