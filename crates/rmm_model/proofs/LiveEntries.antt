-- Lemmas about the search for a table's first live entry: the search passes over entries that are not live, and ends at
-- a live one.
use Rattle.std.proofs.Common.{◌≡◌, ℕ, zero, suc, ◌+◌, ◌-◌, ◌*◌, ◌/◌, ◌%◌, ◌^◌, ◌<◌, List, true, false, refl, ap, sym, ◌∙◌, arith}
use Rattle.std.proofs.lemmas.Bool.{cond-true, cond-false}
use Rattle.page_arena.specs.Word.{word_of_page}
use Rattle.rmm_model.specs.Entry.{is_live, entry_of, entry_at_kind}
use Rattle.rmm_model.specs.Table.{entry_in_page, first_live}

-- the search from a live entry finds that entry
pub first_live_here : (page : List ℕ) (i : ℕ) → i < 512 → is_live (entry_in_page page i) ≡ true → first_live page (512 - i) i ≡ i
unfolding first_live
first_live_here page i lt live =
    let more : 512 - i ≡ suc (511 - i) = omega arith in
    ap (λ (n : ℕ). first_live page n i) more ∙ cond-true _ _ _ live

-- the search from an entry that is not live goes on with the next entry
pub first_live_on : (page : List ℕ) (i : ℕ) → i < 512 → is_live (entry_in_page page i) ≡ false → first_live page (512 - i) i ≡ first_live page (512 - (i + 1)) (i + 1)
unfolding first_live
first_live_on page i lt dead =
    let more : 512 - i ≡ suc (512 - (i + 1)) = omega arith in
    ap (λ (n : ℕ). first_live page n i) more ∙ cond-false _ _ _ dead

-- the search from the end of the table finds no entry, and gives 512
pub first_live_end : (page : List ℕ) (i : ℕ) → i ≡ 512 → first_live page (512 - i) i ≡ 512
unfolding first_live
first_live_end page i end =
    let none : 512 - i ≡ 0 = omega arith in
    ap (λ (n : ℕ). first_live page n i) none ∙ end

-- ---- words

low_kind_is_dead : (kind descriptor : ℕ) → kind < 4 → is_live (entry_at_kind kind descriptor) ≡ false
low_kind_is_dead zero descriptor low = refl
low_kind_is_dead (suc zero) descriptor low = refl
low_kind_is_dead (suc (suc zero)) descriptor low = refl
low_kind_is_dead (suc (suc (suc zero))) descriptor low = refl
low_kind_is_dead (suc (suc (suc (suc kind)))) descriptor low = absurd (omega arith)

low_is_dead : (word : ℕ) → word < 4 * 2 ^ 56 → is_live (entry_of word) ≡ false
unfolding entry_of
low_is_dead word low =
    let few : word / 2 ^ 56 < 4 = omega arith in
    low_kind_is_dead (word / 2 ^ 56) (word % 2 ^ 48) few

-- if the word of entry `i` is below 4 * 2^56, the least word of a live entry, the search from entry `i` goes on with
-- the next entry
pub first_live_past : (page : List ℕ) (i j word : ℕ) → i + 1 ≡ j → i < 512 → word ≡ word_of_page page i → word < 4 * 2 ^ 56 → first_live page (512 - i) i ≡ first_live page (512 - j) j
unfolding entry_in_page
first_live_past page i j word next lt is low =
    first_live_on page i lt (ap (λ (w : ℕ). is_live (entry_of w)) (sym is) ∙ low_is_dead word low)
    ∙ ap (λ (n : ℕ). first_live page (512 - n) n) next
