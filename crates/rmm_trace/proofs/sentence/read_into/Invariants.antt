use Rattle.std.proofs.Common.{◌≡◌, ◌-◌, ◌≤◌, ◌==◌, ◌++◌, length, option_map, option_copied}
use Rattle.std.specs.List.{slice_split}
use Rattle.rmm_trace.specs.Sentences.{words_in}
use Rattle.rmm_trace.proofs.Parts.{parts_of, size_of}
use Rattle.rmm_trace.proofs.sentence.read_into.Given as goal

abbrev pub invariant-words : goal.invariant-words
invariant-words l = record {
  few : length l.words.items ≤ 64;
  same : words_in 64 (slice_split (λ b. b == 32) l.text) ≡ option_map (λ ws. l.words.items ++ ws) (words_in (64 - length l.words.items) (parts_of (option_copied l.rest)));
}

abbrev pub decreases-words : goal.decreases-words
decreases-words l = size_of (option_copied l.rest)
