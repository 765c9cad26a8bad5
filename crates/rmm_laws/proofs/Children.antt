-- Proofs that a table uses no granule if none of its entries leads to a table or to memory of the realm.
use Rattle.std.proofs.Common.{◌≡◌, ◌≢◌, ℕ, zero, suc, ◌+◌, ◌-◌, ◌*◌, ◌/◌, ◌%◌, ◌^◌, ◌<◌, ◌≤◌, ◌==◌, Bool, true, false, List, length, take, replicate, Option, None, refl, sym, ap, subst, ◌∙◌, ⊎_elim, lit≤, arith}
use Rattle.std.specs.Int.{from_le_bytes, w64}
use Rattle.std.proofs.lemmas.Bool.{cases_Bool, cases_eq, cases_lt, lt-ltb, le-ltb, cond-true, cond-false, and_parts, eqb-true, not-false}
use Rattle.std.proofs.lemmas.List.{take-replicate, drop-replicate}
use Rattle.granule_addr.specs.Page.{page_of, zero_page}
use Rattle.page_arena.specs.Pages.{length-page_of}
use Rattle.page_arena.specs.Word.{word_of_page}
use Rattle.rmm_model.specs.declared.entry.RmmRipas.TheVariants.{Empty, Ram, Destroyed}
use Rattle.rmm_model.specs.declared.entry.RmmRttEntry.{RmmRttEntry}
use Rattle.rmm_model.specs.declared.entry.RmmRttEntry.TheVariants.{Unassigned, Assigned, Table, UnassignedNs, AssignedNs}
use Rattle.rmm_model.specs.declared.granule.RmmGranuleState.TheVariants.{Rtt}
use Rattle.rmm_model.specs.Entry.{entry_of, entry_at_kind, entry_word, child_entry, is_live, ripas_code}
use Rattle.rmm_model.specs.Machine.{Machine}
use Rattle.rmm_model.specs.Table.{entry_in_page, first_live, has_live, has_parts, children_page}
use Rattle.rmm_laws.specs.Role.{entry_uses, state_uses, LeadsInside}
use Rattle.rmm_laws.proofs.EntryWords.{entry_word-fits}
use Rattle.rmm_laws.proofs.PageWords.{length-with_words, word_of_page-with_words}

-- an entry leads to no table and to no memory of the realm
abbrev pub is_free : RmmRttEntry → Bool
is_free (Table address) = false
is_free (Assigned ripas address) = false
is_free _ = true

pub free_uses : (m : Machine) (owner : Option ℕ) (level k : ℕ) (entry : RmmRttEntry) → is_free entry ≡ true → entry_uses m owner level entry k ≡ None
free_uses m owner level k (Unassigned ripas) free = refl
free_uses m owner level k UnassignedNs free = refl
free_uses m owner level k (AssignedNs desc) free = refl
free_uses m owner level k (Table address) free = absurd (cc)
free_uses m owner level k (Assigned ripas address) free = absurd (cc)

pub free_leads : (m : Machine) (entry : RmmRttEntry) → is_free entry ≡ true → LeadsInside m entry
free_leads m (Unassigned ripas) free = tt
free_leads m UnassignedNs free = tt
free_leads m (AssignedNs desc) free = tt
free_leads m (Table address) free = absurd (cc)
free_leads m (Assigned ripas address) free = absurd (cc)

-- a table whose entries all lead to no table and to no memory of the realm uses nothing
pub empty_table : (m : Machine) (page : List ℕ) → ((j : ℕ) → j < 512 → is_free (entry_in_page page j) ≡ true) → (owner : Option ℕ) (level g j k : ℕ) → state_uses m Rtt owner level page g j k ≡ None
empty_table m page free owner level g j k =
    ⊎_elim
    (λ (lt : j < 512). cond-true _ _ _ (lt-ltb j 512 lt) ∙ free_uses m owner level k (entry_in_page page j) (free j lt))
    (λ (past : 512 ≤ j). cond-false _ _ _ (le-ltb j 512 past))
    (cases_lt j 512)

-- ---- children

pub word_of_page-page_of : (byte i : ℕ) → i < 512 → word_of_page (page_of byte) i ≡ from_le_bytes w64 (replicate 8 byte)
unfolding word_of_page page_of
word_of_page-page_of byte i index =
    let eight : 8 * i + 8 - 8 * i ≡ 8 = omega arith in
    ap (from_le_bytes w64)
    (ap (take (8 * i + 8 - 8 * i)) (drop-replicate (8 * i) 4096 byte)
    ∙ take-replicate (8 * i + 8 - 8 * i) (4096 - 8 * i) byte (omega arith)
    ∙ ap (λ (k : ℕ). replicate k byte) eight)

free_byte : (byte j : ℕ) → j < 512 → is_free (entry_of (from_le_bytes w64 (replicate 8 byte))) ≡ true → is_free (entry_in_page (page_of byte) j) ≡ true
unfolding entry_in_page
free_byte byte j lt free = ap (λ (w : ℕ). is_free (entry_of w)) (word_of_page-page_of byte j lt) ∙ free

-- if an entry leads to no table and no memory of the realm, neither does the entry that is read back from its word
pub free_word : (entry : RmmRttEntry) → is_free entry ≡ true → is_free (entry_of (entry_word entry)) ≡ true
unfolding entry_of entry_word
free_word (Unassigned Empty) free = refl
free_word (Unassigned Ram) free = refl
free_word (Unassigned Destroyed) free = refl
free_word UnassignedNs free = refl
free_word (AssignedNs desc) free =
    let kind : (5 * 2 ^ 56 + desc % 2 ^ 48) / 2 ^ 56 ≡ 5 = omega arith in
    ap (λ (k : ℕ). is_free (entry_at_kind k ((5 * 2 ^ 56 + desc % 2 ^ 48) % 2 ^ 48))) kind
free_word (Table address) free = absurd (cc)
free_word (Assigned ripas address) free = absurd (cc)

pub free_child : (entry : RmmRttEntry) (level k : ℕ) → is_free entry ≡ true → is_free (child_entry entry level k) ≡ true
free_child (Unassigned ripas) level k free = refl
free_child UnassignedNs level k free = refl
free_child (AssignedNs desc) level k free = refl
free_child (Table address) level k free = absurd (cc)
free_child (Assigned ripas address) level k free = absurd (cc)

free_children : (entry : RmmRttEntry) (level j : ℕ) → is_free entry ≡ true → j < 512 → is_free (entry_in_page (children_page entry level) j) ≡ true
unfolding children_page entry_in_page entry_of
free_children (Unassigned Empty) level j free lt = free_byte 0 j lt refl
free_children (Unassigned Ram) level j free lt = free_byte 1 j lt refl
free_children (Unassigned Destroyed) level j free lt = free_byte 2 j lt refl
free_children UnassignedNs level j free lt = free_byte 3 j lt refl
free_children (AssignedNs desc) level j free lt =
    ap (λ (w : ℕ). is_free (entry_of w))
    (word_of_page-with_words (λ (k : ℕ). entry_word (child_entry (AssignedNs desc) level k)) zero_page (length-page_of 0) 512 j (lit≤ tt) lt (entry_word-fits (child_entry (AssignedNs desc) level j)))
    ∙ free_word (child_entry (AssignedNs desc) level j) refl
free_children (Table address) level j free lt = absurd (cc)
free_children (Assigned ripas address) level j free lt = absurd (cc)

pub children_free : (entry : RmmRttEntry) (level : ℕ) → is_free entry ≡ true → (j : ℕ) → j < 512 → is_free (entry_in_page (children_page entry level) j) ≡ true
children_free entry level free j lt = free_children entry level j free lt

pub length-children : (entry : RmmRttEntry) (level : ℕ) → length (children_page entry level) ≡ 4096
unfolding children_page
length-children (Unassigned ripas) level = length-page_of (ripas_code ripas)
length-children UnassignedNs level = length-page_of 3
length-children (AssignedNs desc) level = length-with_words (λ (k : ℕ). entry_word (child_entry (AssignedNs desc) level k)) zero_page (length-page_of 0) 512 (lit≤ tt)
length-children (Table address) level = length-with_words (λ (k : ℕ). entry_word (child_entry (Table address) level k)) zero_page (length-page_of 0) 512 (lit≤ tt)
length-children (Assigned ripas address) level = length-with_words (λ (k : ℕ). entry_word (child_entry (Assigned ripas address) level k)) zero_page (length-page_of 0) 512 (lit≤ tt)

-- in the table into which an entry is unfolded, word `j` is the word of child `j`
pub children_word : (whole : RmmRttEntry) (level j : ℕ) → j < 512 → word_of_page (children_page whole level) j ≡ entry_word (child_entry whole level j)
unfolding children_page entry_word
children_word (Unassigned Empty) level j lt = word_of_page-page_of 0 j lt
children_word (Unassigned Ram) level j lt = word_of_page-page_of 1 j lt
children_word (Unassigned Destroyed) level j lt = word_of_page-page_of 2 j lt
children_word UnassignedNs level j lt = word_of_page-page_of 3 j lt
children_word (Assigned ripas a) level j lt =
    word_of_page-with_words (λ (k : ℕ). entry_word (child_entry (Assigned ripas a) level k)) zero_page (length-page_of 0) 512 j (lit≤ tt) lt (entry_word-fits (child_entry (Assigned ripas a) level j))
children_word (AssignedNs d) level j lt =
    word_of_page-with_words (λ (k : ℕ). entry_word (child_entry (AssignedNs d) level k)) zero_page (length-page_of 0) 512 j (lit≤ tt) lt (entry_word-fits (child_entry (AssignedNs d) level j))
children_word (Table a) level j lt =
    word_of_page-with_words (λ (k : ℕ). entry_word (child_entry (Table a) level k)) zero_page (length-page_of 0) 512 j (lit≤ tt) lt (entry_word-fits (child_entry (Table a) level j))

-- ---- tables without live entries

dead_from : (page : List ℕ) (count i j : ℕ) → first_live page count i ≡ i + count → i ≤ j → j < i + count → is_live (entry_in_page page j) ≡ false
unfolding first_live
dead_from page zero i j end low high = absurd (omega arith)
dead_from page (suc count) i j end low high =
    ⊎_elim
    (λ (live : is_live (entry_in_page page i) ≡ true).
    let here : i ≡ i + suc count = sym (cond-true (is_live (entry_in_page page i)) i (first_live page count (i + 1)) live) ∙ end in
    absurd (omega arith))
    (λ (dead : is_live (entry_in_page page i) ≡ false).
    let rest : first_live page count (i + 1) ≡ i + suc count = sym (cond-false (is_live (entry_in_page page i)) i (first_live page count (i + 1)) dead) ∙ end in
    ⊎_elim
    (λ (same : j ≡ i). ap (λ (k : ℕ). is_live (entry_in_page page k)) same ∙ dead)
    (λ (other : j ≢ i). dead_from page count (i + 1) j (rest ∙ omega arith) (omega arith) (omega arith))
    (cases_eq j i))
    (cases_Bool (is_live (entry_in_page page i)))

dead_free : (entry : RmmRttEntry) → is_live entry ≡ false → is_free entry ≡ true
dead_free (Unassigned ripas) dead = refl
dead_free UnassignedNs dead = refl
dead_free (AssignedNs desc) dead = refl
dead_free (Table address) dead = absurd (cc)
dead_free (Assigned ripas address) dead = absurd (cc)

pub unused_dead : (page : List ℕ) → has_live page ≡ false → (j : ℕ) → j < 512 → is_live (entry_in_page page j) ≡ false
unfolding has_live
unused_dead page unused j lt =
    let end : first_live page 512 0 ≡ 512 = eqb-true (first_live page 512 0) 512 (not-false (first_live page 512 0 == 512) unused) in
    dead_from page 512 0 j end (omega arith) lt

pub unused_free : (page : List ℕ) → has_live page ≡ false → (j : ℕ) → j < 512 → is_free (entry_in_page page j) ≡ true
unused_free page unused j lt = dead_free (entry_in_page page j) (unused_dead page unused j lt)

-- ---- tables that mean the same as one entry

pub part_word : (page : List ℕ) (whole : RmmRttEntry) (level count i j : ℕ) → has_parts page whole level count i ≡ true → i ≤ j → j < i + count → word_of_page page j ≡ entry_word (child_entry whole level j)
unfolding has_parts
part_word page whole level zero i j parts low high = absurd (omega arith)
part_word page whole level (suc count) i j parts low high =
    let both = and_parts (word_of_page page i == entry_word (child_entry whole level i)) (has_parts page whole level count (i + 1)) parts in
    ⊎_elim
    (λ (same : j ≡ i).
    subst (λ (k : ℕ). word_of_page page k ≡ entry_word (child_entry whole level k)) (sym same) (eqb-true _ _ both.0))
    (λ (other : j ≢ i). part_word page whole level count (i + 1) j both.1 (omega arith) (omega arith))
    (cases_eq j i)

pub parts_free : (page : List ℕ) (whole : RmmRttEntry) (level : ℕ) → has_parts page whole level 512 0 ≡ true → is_free whole ≡ true → (j : ℕ) → j < 512 → is_free (entry_in_page page j) ≡ true
unfolding entry_in_page
parts_free page whole level parts free j lt =
    ap (λ (w : ℕ). is_free (entry_of w)) (part_word page whole level 512 0 j parts (omega arith) (omega arith))
    ∙ free_word (child_entry whole level j) (free_child whole level j free)
