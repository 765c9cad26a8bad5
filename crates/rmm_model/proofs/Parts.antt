-- Lemmas about the test that a table's entries are the children of one entry: the test goes on after entry i if it is
-- child i, and fails otherwise.
use Rattle.std.proofs.Common.{◌≡◌, ◌≢◌, ℕ, suc, ◌+◌, ◌-◌, ◌<◌, ◌&&◌, List, Bool, true, false, nat_eq, ap, ◌∙◌, arith}
use Rattle.std.proofs.lemmas.Bool.{eq-eqb, ne_eqb}
use Rattle.page_arena.specs.Word.{word_of_page}
use Rattle.rmm_model.specs.declared.entry.RmmRttEntry.{RmmRttEntry}
use Rattle.rmm_model.specs.Entry.{entry_word, child_entry}
use Rattle.rmm_model.specs.Table.{has_parts}

module _ (page : List ℕ) (whole : RmmRttEntry) (level i : ℕ) where
  -- the test from entry i on succeeds if entry i is child i and the test from the next entry on succeeds, and fails
  -- otherwise
  by_test : (is : Bool) → i < 512 → nat_eq (word_of_page page i) (entry_word (child_entry whole level i)) ≡ is
      → has_parts page whole level (512 - i) i ≡ (is && has_parts page whole level (512 - (i + 1)) (i + 1))
  unfolding has_parts
  by_test is lt tested =
      let more : 512 - i ≡ suc (512 - (i + 1)) = omega arith in
      ap (λ (n : ℕ). has_parts page whole level n i) more ∙ ap (λ (b : Bool). b && has_parts page whole level (512 - (i + 1)) (i + 1)) tested

  pub has_parts-on : i < 512 → word_of_page page i ≡ entry_word (child_entry whole level i) → has_parts page whole level (512 - i) i ≡ has_parts page whole level (512 - (i + 1)) (i + 1)
  has_parts-on lt same = by_test true lt (eq-eqb _ _ same)

  pub has_parts-not : i < 512 → word_of_page page i ≢ entry_word (child_entry whole level i) → has_parts page whole level (512 - i) i ≡ false
  has_parts-not lt other = by_test false lt (ne_eqb _ _ other)

  pub has_parts-end : i ≡ 512 → has_parts page whole level (512 - i) i ≡ true
  unfolding has_parts
  has_parts-end end =
      let none : 512 - i ≡ 0 = omega arith in
      ap (λ (n : ℕ). has_parts page whole level n i) none
