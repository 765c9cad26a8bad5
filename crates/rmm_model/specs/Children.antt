-- The words that encode the children of a table entry.
use Rattle.std.specs.Prelude.{ℕ}
use Rattle.page_arena.specs.Word.{rising_word}
use Rattle.rmm_model.specs.declared.children.ChildWords.{ChildWords}

-- the word that encodes child k of an entry
abbrev pub child_word : ChildWords → ℕ → ℕ
child_word words k = rising_word words.kind words.first words.step k
