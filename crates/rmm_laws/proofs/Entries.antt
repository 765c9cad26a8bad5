-- Proofs that writing a table entry changes that entry alone, and that an address inside the machine names a granule
-- and is below 2^48.
use Rattle.std.proofs.Common.{◌≡◌, ◌≢◌, ℕ, ◌-◌, ◌/◌, ◌%◌, ◌^◌, ◌<◌, ◌≤◌, true, List, length, Some, ap, ◌∙◌, arith}
use Rattle.std.specs.Prelude.{nat_le, nat_lt}
use Rattle.std.proofs.lemmas.Bool.{and_parts, cond-true, leb-true, ltb-true}
use Rattle.page_arena.specs.Word.{word_of_page, page_with_word}
use Rattle.page_arena.specs.Words.{word_of_page-page_with_word_same, word_of_page-page_with_word_other}
use Rattle.rmm_model.specs.declared.entry.RmmRttEntry.{RmmRttEntry}
use Rattle.rmm_model.specs.Entry.{entry_of, entry_word, descriptor_of}
use Rattle.rmm_model.specs.Machine.{Machine, page_in, is_inside, number_of, with_word}
use Rattle.rmm_model.specs.Table.{entry_in_page}
use Rattle.rmm_model.specs.Walk.{granule_named}
use Rattle.rmm_laws.specs.Role.{IsSound, IsBegin}
use Rattle.rmm_laws.proofs.EntryWords.{entry_of-entry_word, entry_word-fits}
use Rattle.rmm_laws.proofs.PageWords.{length-page_with_word}
use Rattle.rmm_laws.proofs.Writes.{page_in-same, sound-with_page}

-- ---- addresses

-- the granule number of an address inside the machine is below the number of granules
pub number_inside : (m : Machine) (address : ℕ) → is_inside m address ≡ true → number_of m address < length m.granules
unfolding is_inside number_of
number_inside m address inside = ltb-true _ _ (and_parts (nat_le m.settings.base address) (nat_lt ((address - m.settings.base) / 4096) (length m.granules)) inside).1

pub address_few : (m : Machine) (address : ℕ) → IsSound m → is_inside m address ≡ true → address < 2 ^ 48
unfolding is_inside
address_few m address sound inside =
    let parts = and_parts (nat_le m.settings.base address) (nat_lt ((address - m.settings.base) / 4096) (length m.granules)) inside in
    let above : m.settings.base ≤ address = leb-true _ _ parts.0 in
    let below : (address - m.settings.base) / 4096 < length m.granules = ltb-true _ _ parts.1 in
    let base = sound.platform.base in
    let few = sound.few in
    omega arith

pub named_inside : (m : Machine) (address : ℕ) → is_inside m address ≡ true → granule_named m address ≡ Some (number_of m address)
unfolding granule_named
named_inside m address inside = cond-true _ _ _ inside

-- an address inside the machine that is a multiple of 4,096 is the beginning of a granule
pub begins : (m : Machine) (address : ℕ) → IsSound m → is_inside m address ≡ true → address % 4096 ≡ 0 → IsBegin m address
unfolding is_inside number_of
begins m address sound inside aligned =
    let above : m.settings.base ≤ address = leb-true _ _ (and_parts (nat_le m.settings.base address) (nat_lt ((address - m.settings.base) / 4096) (length m.granules)) inside).0 in
    let base = sound.platform.base_aligned in
    (inside, omega arith)

-- ---- an entry that is written

module _ (m : Machine) (t i : ℕ) (entry : RmmRttEntry) (sound : IsSound m) (inside : t < length m.granules) (index : i < 512) where
  abbrev written : Machine
  written = with_word m t i (entry_word entry)

  now : page_in written t ≡ page_with_word (page_in m t) i (entry_word entry)
  now = let pages = sound.pages in page_in-same m t (page_with_word (page_in m t) i (entry_word entry)) (omega arith)

  pub entry-same : descriptor_of entry < 2 ^ 48 → entry_in_page (page_in written t) i ≡ entry
  unfolding entry_in_page
  entry-same fits =
      ap (λ (p : List ℕ). entry_of (word_of_page p i)) now
      ∙ ap entry_of (word_of_page-page_with_word_same (page_in m t) i (entry_word entry) (sound.whole t inside) index (entry_word-fits entry))
      ∙ entry_of-entry_word entry fits

  pub entry-other : (j : ℕ) → j < 512 → j ≢ i → entry_in_page (page_in written t) j ≡ entry_in_page (page_in m t) j
  unfolding entry_in_page
  entry-other j lt other =
      ap (λ (p : List ℕ). entry_of (word_of_page p j)) now
      ∙ ap entry_of (word_of_page-page_with_word_other (page_in m t) i (entry_word entry) (sound.whole t inside) index j other lt)

  pub sound-with_entry : IsSound written
  sound-with_entry = sound-with_page m t (page_with_word (page_in m t) i (entry_word entry)) (length-page_with_word (page_in m t) i (entry_word entry) (sound.whole t inside) index) sound
