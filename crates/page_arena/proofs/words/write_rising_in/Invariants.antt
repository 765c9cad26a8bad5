use Rattle.std.proofs.Common.{◌≡◌, ◌+◌, ◌*◌}
use Rattle.page_arena.specs.Word.{with_bytes, bytes_of_words, rising_word}
use Rattle.page_arena.proofs.words.write_rising_in.Given as goal

abbrev pub invariant-loop-index : goal.invariant-loop-index
invariant-loop-index l = record {
  written : l.page ≡ with_bytes l.fn.page 0 (bytes_of_words l.index (rising_word l.kind l.first l.step));
  low : l.low ≡ l.first + l.index * l.step;
}
