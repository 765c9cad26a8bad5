-- Proofs that writing words to a granule one by one gives the same machine as writing all of them at once, and changes
-- no other granule.
use Rattle.std.proofs.Common.{◌≡◌, ◌≢◌, ℕ, zero, suc, ◌+◌, ◌<◌, ◌≤◌, List, [], length, set, refl, ap, sym, ◌∙◌, add-one, arith}
use Rattle.std.proofs.lemmas.List.{get_or-set_same, get_or-set_other, set-set, set-get_or, length-set}
use Rattle.page_arena.specs.Word.{page_with_word}
use Rattle.rmm_model.specs.Machine.{Machine, page_in, with_page, with_word}
use Rattle.rmm_model.specs.Table.{with_words, with_words_from}
use Rattle.rmm.proofs.WordEdits.{but, page_with_word-with_words_from}

-- writing the first `count` words of `f`, and then word `count`, is writing the first `count + 1` words
pub with_words-more : (m : Machine) (granule count : ℕ) (f : ℕ → ℕ) (page : List ℕ) → granule < length m.pages
    → with_word (with_page m granule (with_words count f page)) granule count (f count) ≡ with_page m granule (with_words (count + 1) f page)
unfolding with_words
with_words-more m granule count f page inside =
    let written : List ℕ = with_words count f page in
    ap (λ (pages : List (List ℕ)). record m { pages = pages })
    (ap (λ (old : List ℕ). set (set m.pages granule written) granule (page_with_word old count (f count))) (get_or-set_same m.pages granule written [] inside)
    ∙ set-set m.pages granule written (page_with_word written count (f count))
    ∙ ap (λ (n : ℕ). set m.pages granule (with_words n f page)) (sym (add-one count)))

-- writing the words of two functions has the same result, if the functions have the same values
pub with_words-same : (count : ℕ) (f g : ℕ → ℕ) (page : List ℕ) → ((k : ℕ) → f k ≡ g k) → with_words count f page ≡ with_words count g page
unfolding with_words
with_words-same zero f g page same = refl
with_words-same (suc count) f g page same =
    ap (λ (p : List ℕ). page_with_word p count (f count)) (with_words-same count f g page same)
    ∙ ap (page_with_word (with_words count g page) count) (same count)

-- writing a page leaves every other page unchanged
pub page_in-other : (m : Machine) (granule other : ℕ) (page : List ℕ) → other ≢ granule → page_in (with_page m granule page) other ≡ page_in m other
page_in-other m granule other page apart = get_or-set_other m.pages granule other page [] apart

-- ---- a page of which some words are written one after another

-- writing a page as it was leaves the machine unchanged
pub with_page-same : (m : Machine) (granule : ℕ) → m ≡ with_page m granule (page_in m granule)
with_page-same m granule = sym (ap (λ (pages : List (List ℕ)). record m { pages = pages }) (set-get_or m.pages granule []))

-- writing a page, and then one of its words, is writing the page with that word
pub with_word-with_page : (m : Machine) (granule i word : ℕ) (page : List ℕ) → granule < length m.pages
    → with_word (with_page m granule page) granule i word ≡ with_page m granule (page_with_word page i word)
with_word-with_page m granule i word page inside =
    ap (λ (pages : List (List ℕ)). record m { pages = pages })
    (ap (λ (old : List ℕ). set (set m.pages granule page) granule (page_with_word old i word)) (get_or-set_same m.pages granule page [] inside)
    ∙ set-set m.pages granule page (page_with_word page i word))

-- a page has 4,096 bytes if it has them after `k` words are written, and is known to have them before if `k` is above 0
whole_before : (first k : ℕ) (f : ℕ → ℕ) (page : List ℕ) → (0 < k → length page ≡ 4096) → length (with_words_from first k f page) ≡ 4096 → length page ≡ 4096
unfolding with_words_from
whole_before first zero f page known whole = whole
whole_before first (suc k) f page known whole = known (omega arith)

module _ (m now : Machine) (granule first k : ℕ) (f : ℕ → ℕ) (made : now ≡ with_page m granule (with_words_from first k f (page_in m granule))) (page : granule < length now.pages) where
  abbrev written : List ℕ
  written = with_words_from first k f (page_in m granule)

  pub inside : granule < length m.pages
  inside = let len : length now.pages ≡ length m.pages = ap (λ (x : Machine). length x.pages) made ∙ length-set m.pages granule written in omega arith

  pub page_now : page_in now granule ≡ with_words_from first k f (page_in m granule)
  page_now = ap (λ (x : Machine). page_in x granule) made ∙ get_or-set_same m.pages granule written [] inside

  pub whole : (0 < k → length (page_in m granule) ≡ 4096) → length (page_in now granule) ≡ 4096 → length (page_in m granule) ≡ 4096
  whole known len = whole_before first k f (page_in m granule) known (ap (λ (p : List ℕ). length p) (sym page_now) ∙ len)

  -- after `k` words of `f` from `first` on, writing the next word gives the page with `k + 1` words of `f`
  pub goes_on : (new : Machine) (word : ℕ) → new ≡ with_word now granule (first + k) word → word ≡ f (first + k) → new ≡ with_page m granule (with_words_from first (k + 1) f (page_in m granule))
  unfolding with_words_from
  goes_on new word wrote is =
      wrote
      ∙ ap (λ (x : Machine). with_word x granule (first + k) word) made
      ∙ with_word-with_page m granule (first + k) word written inside
      ∙ ap (λ (w : ℕ). with_page m granule (page_with_word written (first + k) w)) is
      ∙ ap (λ (n : ℕ). with_page m granule (with_words_from first n f (page_in m granule))) (sym (add-one k))

-- writing one of the written words, `j`, again is writing the words of `but j word f` instead of those of `f`
pub one_again : (m now new : Machine) (granule first count j word : ℕ) (f : ℕ → ℕ) → granule < length m.pages → length (page_in m granule) ≡ 4096 → first + count ≤ 512 → first ≤ j → j < first + count
    → now ≡ with_page m granule (with_words_from first count f (page_in m granule)) → new ≡ with_word now granule j word → new ≡ with_page m granule (with_words_from first count (but j word f) (page_in m granule))
one_again m now new granule first count j word f inside whole within low high made wrote =
    wrote
    ∙ ap (λ (x : Machine). with_word x granule j word) made
    ∙ with_word-with_page m granule j word (with_words_from first count f (page_in m granule)) inside
    ∙ ap (with_page m granule) (page_with_word-with_words_from first count f (page_in m granule) j word within whole low high)
