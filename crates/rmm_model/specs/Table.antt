-- Definitions about the 512 entries of a translation table: live entries, entries whose RIPAS a command changes, and
-- children of an entry.
use Rattle.std.specs.Prelude.{ℕ, zero, suc, ◌+◌, ◌-◌, ◌==◌, ◌&&◌, Bool, true, cond, not, List, Option, Some, None}
use Rattle.granule_addr.specs.Page.{page_of, zero_page}
use Rattle.page_arena.specs.Word.{word_of_page, page_with_word}
use Rattle.rmm_model.specs.declared.entry.Changeable.{Changeable}
use Rattle.rmm_model.specs.declared.entry.RmmRttEntry.{RmmRttEntry}
use Rattle.rmm_model.specs.Entry.{entry_of, entry_word, is_live, can_change, child_entry, repeated_byte}

-- entry i of a table
unfoldable pub entry_in_page : List ℕ → ℕ → RmmRttEntry
entry_in_page page i = entry_of (word_of_page page i)

-- ---- live entries

-- the index of the first live entry among `count` entries from entry `i` on, or `i + count` if none is live
unfoldable pub first_live : List ℕ → ℕ → ℕ → ℕ
first_live page zero i = i
first_live page (suc count) i = cond (is_live (entry_in_page page i)) i (first_live page count (i + 1))

-- the index of a table's first live entry, from a given index on, or 512 if there is none
abbrev pub first_live_from : List ℕ → ℕ → ℕ
first_live_from page i = first_live page (512 - i) i

-- some entry of a table is live
unfoldable pub has_live : List ℕ → Bool
has_live page = not (first_live_from page 0 == 512)

-- ---- entries whose RIPAS is changed

-- the index of the first unchangeable entry among `count` entries from entry `i` on, or `i + count` if there is none
unfoldable pub first_fixed : Changeable → List ℕ → ℕ → ℕ → ℕ
first_fixed changeable page zero i = i
first_fixed changeable page (suc count) i = cond (can_change changeable (entry_in_page page i)) (first_fixed changeable page count (i + 1)) i

-- ---- children

-- `count` entries of a table, from entry `i` on, are the children of the entry `whole` with the same indices
unfoldable pub has_parts : List ℕ → RmmRttEntry → ℕ → ℕ → ℕ → Bool
has_parts page whole level zero i = true
has_parts page whole level (suc count) i = word_of_page page i == entry_word (child_entry whole level i) && has_parts page whole level count (i + 1)

-- A page in which `count` words, from word `first` on, are replaced by the values of a function at their indices.
unfoldable pub with_words_from : ℕ → ℕ → (ℕ → ℕ) → List ℕ → List ℕ
with_words_from first zero f page = page
with_words_from first (suc count) f page = page_with_word (with_words_from first count f page) (first + count) (f (first + count))

-- a page in which the first `count` words are replaced by the values of a function at their indices
unfoldable pub with_words : ℕ → (ℕ → ℕ) → List ℕ → List ℕ
with_words zero f page = page
with_words (suc count) f page = page_with_word (with_words count f page) count (f count)

abbrev pub children_page_at : Option ℕ → RmmRttEntry → ℕ → List ℕ
children_page_at (Some byte) whole level = page_of byte
children_page_at None whole level = with_words 512 (λ k. entry_word (child_entry whole level k)) zero_page

-- The contents of a table at the given level, with the children of the given entry as its entries.
unfoldable pub children_page : RmmRttEntry → ℕ → List ℕ
children_page whole level = children_page_at (repeated_byte whole) whole level
