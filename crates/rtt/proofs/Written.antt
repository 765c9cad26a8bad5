-- Proofs that an entry written to a table's page is read back, and that all other words stay the same.
use Rattle.std.proofs.Common.{◌≡◌, ◌≢◌, ℕ, ◌+◌, ◌<◌, ◌≤◌, Bool, List, length, ◌⊎◌, ⊎_elim, inl, inr, sym, ap, subst, ◌∙◌, arith}
use Rattle.std.proofs.lemmas.Bool.{cases_eq, cases_lt}
use Rattle.page_arena.specs.Page.{page_at, IsSized}
use Rattle.page_arena.specs.Pages.{length-page_at}
use Rattle.page_arena.specs.Word.{word_of_page, word_at, with_word}
use Rattle.page_arena.specs.Words.{word_at-with_word_same, word_at-with_word_other}
use Rattle.realm_model.specs.Rows.{Row}
use Rattle.rtt.specs.Word.{entry_word, entry_of, IsEntry}
use Rattle.rtt.proofs.WordLaws.{entry_of-entry_word, entry_word_fits, IsEntry-entry_of}
use Rattle.rtt.specs.Tables.{entries_of}

-- a word is the one that encodes the entry decoded from it
abbrev pub IsExact : List (List ℕ) → ℕ → ℕ → Type 0
IsExact pages granule index = word_at pages granule index ≡ entry_word (entries_of pages granule index)

-- what is decoded from a word is an entry
pub IsEntry-entries_of : (pages : List (List ℕ)) (granule index : ℕ) → IsEntry (entries_of pages granule index)
unfolding entries_of
IsEntry-entries_of pages granule index = IsEntry-entry_of (word_at pages granule index)

pub IsEntry-read : {entry : Row} (pages : List (List ℕ)) (granule index : ℕ) → entry ≡ entries_of pages granule index → IsEntry entry
IsEntry-read pages granule index is = subst IsEntry (sym is) (IsEntry-entries_of pages granule index)

-- if a word encodes an entry, the word is decoded to that entry
pub entry_read : (pages : List (List ℕ)) (granule index : ℕ) (row : Row) → IsEntry row → word_at pages granule index ≡ entry_word row → entries_of pages granule index ≡ row
unfolding entries_of
entry_read pages granule index row is word = ap entry_of word ∙ entry_of-entry_word row is

-- if a word encodes an entry, the word is exact
pub exact_read : (pages : List (List ℕ)) (granule index : ℕ) (row : Row) → IsEntry row → word_at pages granule index ≡ entry_word row → IsExact pages granule index
exact_read pages granule index row is word = word ∙ sym (ap entry_word (entry_read pages granule index row is word))

-- equal words are decoded to equal entries
pub same_entry : (pages new_pages : List (List ℕ)) (granule index : ℕ) → word_at new_pages granule index ≡ word_at pages granule index
    → entries_of new_pages granule index ≡ entries_of pages granule index
unfolding entries_of
same_entry pages new_pages granule index same = ap entry_of same

pub same_exact : (pages new_pages : List (List ℕ)) (granule index : ℕ) → word_at new_pages granule index ≡ word_at pages granule index → IsExact pages granule index → IsExact new_pages granule index
same_exact pages new_pages granule index same exact = same ∙ exact ∙ sym (ap entry_word (same_entry pages new_pages granule index same))

-- ---- an entry is written

module _ (pages : List (List ℕ)) (flags : List Bool) (sized : IsSized pages flags) (table index : ℕ) (row : Row) (within : table < length pages) (few : index < 512) (is : IsEntry row) where
  abbrev pub new_pages : List (List ℕ)
  new_pages = with_word pages table index (entry_word row)

  whole : length (page_at pages table) ≡ 4096
  whole = length-page_at pages flags sized table within

  word_written : word_at new_pages table index ≡ entry_word row
  word_written = word_at-with_word_same pages table index (entry_word row) within whole few (entry_word_fits row is)

  pub entry_written : entries_of new_pages table index ≡ row
  entry_written = entry_read new_pages table index row is word_written

  pub exact_written : IsExact new_pages table index
  exact_written = exact_read new_pages table index row is word_written

  -- each word other than the written one stays the same
  pub word_kept : (granule other : ℕ) → other < 512 → ((granule ≡ table) × (other ≡ index) → ⊥) → word_at new_pages granule other ≡ word_at pages granule other
  word_kept granule other lt apart =
      word_at-with_word_other pages table index (entry_word row) within whole few granule other
      (⊎_elim (λ same. inr (λ at. apart (same, at))) (λ ne. inl ne) (cases_eq granule table)) lt

  -- if a granule had the same bytes as in `before`, each of its words after the write is the word in `before`, except
  -- the written word
  pub word_as : (before : List (List ℕ)) (granule other : ℕ) → page_at pages granule ≡ page_at before granule → other < 512 → ((granule ≡ table) × (other ≡ index) → ⊥)
      → word_at new_pages granule other ≡ word_at before granule other
  word_as before granule other same lt apart = word_kept granule other lt apart ∙ ap (λ (page : List ℕ). word_of_page page other) same

-- ---- one entry is written at several places of a table

module _ (pages new_pages : List (List ℕ)) (table first count : ℕ) (row : Row) (is : IsEntry row)
    (written : (index : ℕ) → first ≤ index → index < first + count → word_at new_pages table index ≡ entry_word row)
    (kept : (index : ℕ) → index < 512 → (index < first) ⊎ (first + count ≤ index) → word_at new_pages table index ≡ word_at pages table index)
    (others : (granule : ℕ) → granule ≢ table → page_at new_pages granule ≡ page_at pages granule) where
  pub entry_filled : (index : ℕ) → first ≤ index → index < first + count → entries_of new_pages table index ≡ row
  entry_filled index low high = entry_read new_pages table index row is (written index low high)

  -- each word other than the written ones stays the same
  pub word_unfilled : (granule index : ℕ) → index < 512 → ((granule ≡ table) × (first ≤ index) × (index < first + count) → ⊥) → word_at new_pages granule index ≡ word_at pages granule index
  word_unfilled granule index few apart =
      ⊎_elim
      (λ (same : granule ≡ table).
      ap (λ (g : ℕ). word_at new_pages g index) same
      ∙ kept index few (⊎_elim (λ before. inl before) (λ from. ⊎_elim (λ high. absurd (apart (same, from, high))) (λ past. inr past) (cases_lt index (first + count))) (cases_lt index first))
      ∙ sym (ap (λ (g : ℕ). word_at pages g index) same))
      (λ (ne : granule ≢ table). ap (λ (page : List ℕ). word_of_page page index) (others granule ne))
      (cases_eq granule table)

  -- a word that was exact stays exact
  pub exact_after : (granule index : ℕ) → index < 512 → IsExact pages granule index → IsExact new_pages granule index
  exact_after granule index few exact =
      let beside : ((granule ≡ table) × (first ≤ index) × (index < first + count) → ⊥) → IsExact new_pages granule index =
      λ apart. same_exact pages new_pages granule index (word_unfilled granule index few apart) exact in
      ⊎_elim
      (λ (same : granule ≡ table). ⊎_elim
      (λ (before : index < first). beside (λ o. let low = o.1 in omega arith))
      (λ (from : first ≤ index). ⊎_elim
      (λ (high : index < first + count). exact_read new_pages granule index row is (ap (λ (g : ℕ). word_at new_pages g index) same ∙ written index from high))
      (λ (past : first + count ≤ index). beside (λ o. let lt = o.2 in omega arith))
      (cases_lt index (first + count)))
      (cases_lt index first))
      (λ (ne : granule ≢ table). beside (λ o. ne o.0))
      (cases_eq granule table)
