-- Proofs that writing adjacent words of a granule one by one leaves the same bytes as writing all of their bytes at
-- once.
use Rattle.std.proofs.Common.{◌≡◌, ℕ, zero, suc, ◌+◌, ◌*◌, ◌≤◌, List, length, replicate, sym, ap, ◌∙◌, add-one, arith}
use Rattle.std.specs.Int.{to_le_bytes, w64}
use Rattle.std.proofs.lemmas.List.{length-replicate, replicate-append-replicate}
use Rattle.page_arena.specs.Word.{with_bytes, page_with_word, bytes_of_words}
use Rattle.page_arena.specs.SideBySide.{with_bytes-append, with_bytes-none, bytes_of_words-more, bytes_of_words-all}
use Rattle.rmm_model.specs.Table.{with_words, with_words_from}

-- writing zero words from word 256 on is writing zero bytes from byte 2,048 on
zero_words : (page : List ℕ) (k : ℕ) → length page ≡ 4096 → k ≤ 256 → with_words_from 256 k (λ i. 0) page ≡ with_bytes page 2048 (replicate (8 * k) 0)
unfolding with_words_from page_with_word
zero_words page zero whole few = sym (with_bytes-none page 2048)
zero_words page (suc k) whole few =
    let zeros : List ℕ = replicate (8 * k) 0 in
    let count : length zeros ≡ 8 * k = length-replicate (8 * k) 0 in
    let place : 8 * (256 + k) ≡ 2048 + length zeros = omega arith in
    let next : 8 * k + 8 ≡ 8 * suc k = omega arith in
    ap (λ (p : List ℕ). with_bytes p (8 * (256 + k)) (to_le_bytes w64 0)) (zero_words page k whole (omega arith))
    ∙ ap (λ (n : ℕ). with_bytes (with_bytes page 2048 zeros) n (to_le_bytes w64 0)) place
    ∙ with_bytes-append page zeros (replicate 8 0) 2048 (omega arith)
    ∙ ap (with_bytes page 2048) (replicate-append-replicate (8 * k) 8 0)
    ∙ ap (λ (n : ℕ). with_bytes page 2048 (replicate n 0)) next

-- writing 2,048 zero bytes to the upper half of a page is writing 256 zero words
pub upper_half : (page : List ℕ) → length page ≡ 4096 → with_bytes page 2048 (replicate 2048 0) ≡ with_words_from 256 256 (λ i. 0) page
upper_half page whole = sym (zero_words page 256 whole (omega arith))

-- writing the first words of a page is writing their bytes at its start
first_words : (page : List ℕ) (count : ℕ) (f : ℕ → ℕ) → length page ≡ 4096 → count ≤ 512 → with_words count f page ≡ with_bytes page 0 (bytes_of_words count f)
unfolding with_words bytes_of_words
first_words page zero f whole few = sym (with_bytes-none page 0)
first_words page (suc count) f whole few =
    ap (λ (p : List ℕ). page_with_word p count (f count)) (first_words page count f whole (omega arith))
    ∙ bytes_of_words-more page count f whole (omega arith)
    ∙ ap (λ (n : ℕ). with_bytes page 0 (bytes_of_words n f)) (add-one count)

-- a page whose 512 words are all written consists of the bytes of these words
pub all_words : (page : List ℕ) (f : ℕ → ℕ) → length page ≡ 4096 → with_words 512 f page ≡ bytes_of_words 512 f
all_words page f whole = first_words page 512 f whole (omega arith) ∙ bytes_of_words-all page f whole
