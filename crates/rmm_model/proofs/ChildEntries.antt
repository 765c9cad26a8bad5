-- A proof that the words that encode an entry's children have the entry's kind, and descriptors that differ by the same
-- amount from child to child, modulo 2^48.
use Rattle.std.proofs.Common.{◌≡◌, ℕ, ◌+◌, ◌*◌, ◌%◌, ◌^◌, refl, arith}
use Rattle.rmm_model.specs.declared.entry.RmmRttEntry.{RmmRttEntry}
use Rattle.rmm_model.specs.declared.entry.RmmRttEntry.TheVariants.{Unassigned, Assigned, Table, UnassignedNs, AssignedNs}
use Rattle.rmm_model.specs.Entry.{kind_word, descriptor_of, entry_word, child_entry, child_step}

-- the word of child k is its parent's kind word, plus the sum modulo 2^48 of the parent's descriptor and k times
-- `child_step`
pub child_word_of : (parent : RmmRttEntry) (level k : ℕ) → kind_word parent + (descriptor_of parent + k * child_step parent level) % 2 ^ 48 ≡ entry_word (child_entry parent level k)
unfolding entry_word
child_word_of (Assigned ripas address) level k = refl
child_word_of (AssignedNs descriptor) level k = refl
child_word_of (Table address) level k = omega arith
child_word_of (Unassigned ripas) level k = omega arith
child_word_of UnassignedNs level k = omega arith
