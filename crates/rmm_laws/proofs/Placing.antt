-- Proofs that a page mapped at level 3 is at a valid level and aligned, and that mappings stay so when their RIPAS
-- changes or they are unfolded.
use Rattle.std.proofs.Common.{◌≡◌, ℕ, zero, suc, ◌+◌, ◌*◌, ◌/◌, ◌%◌, ◌^◌, ◌<◌, ◌≤◌, false, refl, sym, ap, subst, ◌∙◌, arith}
use Rattle.std.proofs.lemmas.Bool.{both_ways}
use Rattle.rmi_abi.specs.declared.settings.RmmSettings.{RmmSettings}
use Rattle.rmm_model.specs.declared.entry.RmmRipas.{RmmRipas}
use Rattle.rmm_model.specs.declared.entry.RmmRttEntry.{RmmRttEntry}
use Rattle.rmm_model.specs.declared.entry.RmmRttEntry.TheVariants.{Unassigned, Assigned, Table, UnassignedNs, AssignedNs}
use Rattle.rmm_model.specs.Entry.{entry_of, entry_word, child_entry, descriptor_of, entry_with_ripas, is_mapping}
use Rattle.rmm_model.specs.Level.{entry_size}
use Rattle.rmm_laws.specs.Half.{IsPlaced}
use Rattle.rmm_laws.proofs.EntryWords.{entry_of-entry_word, table_mapping, word_descriptor}

pub placed_none : (s : RmmSettings) (level : ℕ) (e : RmmRttEntry) → is_mapping e ≡ false → IsPlaced s level e
placed_none s level e none = λ mapped. absurd (both_ways (is_mapping e) none mapped)

pub placed_word : (s : RmmSettings) (level : ℕ) (e : RmmRttEntry) → descriptor_of e < 2 ^ 48 → IsPlaced s level e → IsPlaced s level (entry_of (entry_word e))
placed_word s level e fits placed = subst (IsPlaced s level) (sym (entry_of-entry_word e fits)) placed

pub placed_ripas : (s : RmmSettings) (level : ℕ) (ripas : RmmRipas) (e : RmmRttEntry) → IsPlaced s level e → IsPlaced s level (entry_with_ripas ripas e)
placed_ripas s level ripas (Unassigned old) placed = placed
placed_ripas s level ripas (Assigned old address) placed = placed
placed_ripas s level ripas UnassignedNs placed = placed
placed_ripas s level ripas (AssignedNs desc) placed = placed
placed_ripas s level ripas (Table address) placed = placed

-- a page that is mapped at level 3 is at an allowed level, and its memory is aligned
pub placed_page : (s : RmmSettings) (level : ℕ) (ripas : RmmRipas) (a : ℕ) → s.block_level ≤ 2 → level ≡ 3 → IsPlaced s level (Assigned ripas a)
unfolding entry_size
placed_page s level ripas a block three = λ mapped. (omega arith, subst (λ (l : ℕ). a / 4096 * 4096 % entry_size l ≡ 0) (sym three) (omega arith))

-- the memory of a mapping's child is aligned to the child's size, if the mapping's memory is aligned to its own size
begins_below : (l : ℕ) → l ≤ 2 → (a k : ℕ) → a / 4096 * 4096 % entry_size l ≡ 0 → (a + k * entry_size (l + 1)) % 2 ^ 48 / 4096 * 4096 % entry_size (l + 1) ≡ 0
unfolding entry_size
begins_below zero few a k begins = omega arith
begins_below (suc zero) few a k begins = omega arith
begins_below (suc (suc zero)) few a k begins = omega arith
begins_below (suc (suc (suc l))) few a k begins = absurd (omega arith)

pub placed_child : (s : RmmSettings) (l k : ℕ) (e : RmmRttEntry) → l ≤ 2 → IsPlaced s l e → IsPlaced s (l + 1) (entry_of (entry_word (child_entry e (l + 1) k)))
placed_child s l k (Assigned ripas a) few placed = λ mapped.
    let it = placed refl in
    let low = it.0 in
    (omega arith, ap (λ (d : ℕ). d / 4096 * 4096 % entry_size (l + 1)) (word_descriptor (Assigned ripas (a + k * entry_size (l + 1)))) ∙ begins_below l few a k it.1)
placed_child s l k (AssignedNs a) few placed = λ mapped.
    let it = placed refl in
    let low = it.0 in
    (omega arith, ap (λ (d : ℕ). d / 4096 * 4096 % entry_size (l + 1)) (word_descriptor (AssignedNs (a + k * entry_size (l + 1)))) ∙ begins_below l few a k it.1)
placed_child s l k (Unassigned ripas) few placed = placed_word s (l + 1) (Unassigned ripas) (omega arith) (placed_none s (l + 1) (Unassigned ripas) refl)
placed_child s l k UnassignedNs few placed = placed_word s (l + 1) UnassignedNs (omega arith) (placed_none s (l + 1) UnassignedNs refl)
placed_child s l k (Table a) few placed = λ mapped. absurd (both_ways (is_mapping (entry_of (entry_word (Table a)))) (table_mapping a) mapped)
