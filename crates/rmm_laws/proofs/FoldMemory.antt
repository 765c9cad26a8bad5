-- Proofs that each address of a realm leads to the same memory before and after a successful RMI_RTT_CREATE or
-- RMI_RTT_FOLD.
use Rattle.std.proofs.Common.{◌≡◌, ℕ, zero, suc, ◌+◌, ◌-◌, ◌*◌, ◌/◌, ◌%◌, ◌^◌, ◌<◌, ◌≤◌, ◌&&◌, true, not, List, Option, unwrap_or, refl, sym, ap, subst, ◌∙◌, arith}
use Rattle.std.specs.Prelude.{nat_le}
use Rattle.std.proofs.lemmas.Bool.{and_parts, eqb-true, leb-true, ltb-true}
use Rattle.page_arena.specs.Word.{word_of_page}
use Rattle.rmi_abi.specs.declared.call.Call.TheVariants.{RttCreate, RttFold}
use Rattle.rmi_abi.specs.declared.registers.SmcResult.{SmcResult}
use Rattle.rmi_abi.specs.declared.word.Word.TheVariants.{Success}
use Rattle.rmm_model.specs.declared.entry.RmmRttEntry.{RmmRttEntry}
use Rattle.rmm_model.specs.declared.entry.RmmRttEntry.TheVariants.{Unassigned, Assigned, Table, UnassignedNs, AssignedNs}
use Rattle.rmm_model.specs.declared.realm.RmmRealm.{RmmRealm}
use Rattle.rmm_model.specs.declared.realm.RttWalk.{RttWalk}
use Rattle.rmm_model.specs.Call.{performed}
use Rattle.rmm_model.specs.Entry.{entry_of, entry_word, child_entry, descriptor_of, is_mapping, is_table}
use Rattle.rmm_model.specs.Level.{entry_size, entry_index}
use Rattle.rmm_model.specs.Machine.{Machine, page_in, number_of, state_at}
use Rattle.rmm_model.specs.Realm.{is_in_space}
use Rattle.rmm_model.specs.Table.{entry_in_page, has_parts}
use Rattle.rmm_model.specs.Walk.{entry_at, table_below, walk}
use Rattle.rmm_model.specs.Command.Operand.{realm_at}
use Rattle.rmm_model.specs.Command.RttCreate.{rtt_create}
use Rattle.rmm_model.specs.Command.RttFold.{rtt_fold, is_homogeneous, is_aligned_above}
use Rattle.rmm_laws.specs.Location.{Location, location, location_of, location_at}
use Rattle.rmm_laws.specs.Proper.{IsProper}
use Rattle.rmm_laws.proofs.EntryWords.{descriptor-few, entry_of-entry_word}
use Rattle.rmm_laws.proofs.Freed.{succeeded}
use Rattle.rmm_laws.proofs.LeftAlone.{touches_of}
use Rattle.rmm_laws.proofs.Mappings.{second_holds}
use Rattle.rmm_laws.proofs.Passed.{Passed, yes_from, realm_of-some}
use Rattle.rmm_laws.proofs.Seats.{walk_placed}
use Rattle.rmm_laws.proofs.TableReads.{create_read, fold_read}
use Rattle.rmm_laws.proofs.Walks.{entry_index-few}

-- ---- children

-- if a descriptor is below 2^48 and its memory is aligned to an entry one level up, the descriptor of each child is
-- below 2^48
fits_below : (l : ℕ) → 1 ≤ l → l ≤ 3 → (d j : ℕ) → d < 2 ^ 48 → d / 4096 * 4096 % entry_size (l - 1) ≡ 0 → j < 512 → d + j * entry_size l < 2 ^ 48
unfolding entry_size
fits_below zero least few d j fits begins lt = absurd (omega arith)
fits_below (suc zero) least few d j fits begins lt = omega arith
fits_below (suc (suc zero)) least few d j fits begins lt = omega arith
fits_below (suc (suc (suc zero))) least few d j fits begins lt = omega arith
fits_below (suc (suc (suc (suc l)))) least few d j fits begins lt = absurd (omega arith)

-- the child that covers an address maps the address to the same memory as the unfolded entry does
same_place : (l : ℕ) → 1 ≤ l → l ≤ 3 → (d x : ℕ)
    → ((d + entry_index l x * entry_size l) / 4096 * 4096 + x % entry_size l ≡ d / 4096 * 4096 + x % entry_size (l - 1)) × ((d + entry_index l x * entry_size l) % 4096 ≡ d % 4096)
unfolding entry_size entry_index
same_place zero least few d x = absurd (omega arith)
same_place (suc zero) least few d x = (omega arith, omega arith)
same_place (suc (suc zero)) least few d x = (omega arith, omega arith)
same_place (suc (suc (suc zero))) least few d x = (omega arith, omega arith)
same_place (suc (suc (suc (suc l)))) least few d x = absurd (omega arith)

-- an entry's descriptor is below 2^48 and, if the entry is a mapping, its memory begins at a multiple of the entry size
-- one level up
abbrev IsWhole : RmmRttEntry → ℕ → Type 0
IsWhole e l = (descriptor_of e < 2 ^ 48) × (is_mapping e ≡ true → descriptor_of e / 4096 * 4096 % entry_size (l - 1) ≡ 0)

moved : (l : ℕ) → 1 ≤ l → l ≤ 3 → (d x : ℕ)
    → location ((d + entry_index l x * entry_size l) / 4096 * 4096 + x % entry_size l) ((d + entry_index l x * entry_size l) % 4096) ≡ location (d / 4096 * 4096 + x % entry_size (l - 1)) (d % 4096)
moved l least few d x =
    let same = same_place l least few d x in
    ap (λ (a : ℕ). location a ((d + entry_index l x * entry_size l) % 4096)) same.0 ∙ ap (λ (a : ℕ). location (d / 4096 * 4096 + x % entry_size (l - 1)) a) same.1

child_memory : (e : RmmRttEntry) (l x : ℕ) → 1 ≤ l → l ≤ 3 → IsWhole e l → location_of (entry_of (entry_word (child_entry e l (entry_index l x)))) (x % entry_size l) ≡ location_of e (x % entry_size (l - 1))
child_memory (Assigned ripas d) l x least few whole =
    let j : ℕ = entry_index l x in
    ap (λ (e : RmmRttEntry). location_of e (x % entry_size l)) (entry_of-entry_word (Assigned ripas (d + j * entry_size l)) (fits_below l least few d j whole.0 (whole.1 refl) (entry_index-few l x)))
    ∙ moved l least few d x
child_memory (AssignedNs d) l x least few whole =
    let j : ℕ = entry_index l x in
    ap (λ (e : RmmRttEntry). location_of e (x % entry_size l)) (entry_of-entry_word (AssignedNs (d + j * entry_size l)) (fits_below l least few d j whole.0 (whole.1 refl) (entry_index-few l x)))
    ∙ moved l least few d x
child_memory (Unassigned ripas) l x least few whole = ap (λ (e : RmmRttEntry). location_of e (x % entry_size l)) (entry_of-entry_word (Unassigned ripas) whole.0)
child_memory UnassignedNs l x least few whole = ap (λ (e : RmmRttEntry). location_of e (x % entry_size l)) (entry_of-entry_word UnassignedNs whole.0)
child_memory (Table address) l x least few whole = ap (λ (e : RmmRttEntry). location_of e (x % entry_size l)) (entry_of-entry_word (Table address) whole.0)

entry_few : (page : List ℕ) (i : ℕ) → descriptor_of (entry_in_page page i) < 2 ^ 48
unfolding entry_in_page
entry_few page i = descriptor-few (word_of_page page i)

-- ---- the commands

pub made_memory : (rd rtt ipa level x : ℕ) (m : Machine) → IsProper m → Passed (rtt_create rd rtt ipa level m).checks → x < 2 ^ (realm_at m rd).s2sz
    → (after : RmmRealm) → after.start_level ≡ (realm_at m rd).start_level → after.first_table ≡ (realm_at m rd).first_table
    → location_at (rtt_create rd rtt ipa level m).machine after x ≡ location_at m (realm_at m rd) x
unfolding rtt_create entry_at
made_memory rd rtt ipa level x m proper ok inside after start first =
    let realm : RmmRealm = realm_at m rd in
    let is = realm_of-some (state_at m rd) ok.1.1.1.1.1.0 in
    let levels = and_parts (nat_le (realm.start_level + 1) level) (nat_le level 3) (yes_from _ ok.1.1.1.1.1.1.0) in
    let least : realm.start_level + 1 ≤ level = leb-true _ _ levels.0 in
    let most : level ≤ 3 = leb-true _ _ levels.1 in
    let within : ipa < 2 ^ realm.s2sz = ltb-true _ _ (yes_from (is_in_space realm ipa) ok.1.1.1.1.1.1.1.1.0) in
    let found : RttWalk = walk m realm ipa (level - 1) in
    let there : found.level ≡ level - 1 = eqb-true _ _ (yes_from _ ok.1.1.1.1.1.1.1.1.1.0) in
    let parent : RmmRttEntry = entry_at m found ipa in
    let placed = walk_placed m proper.linked proper.ordered.halves (number_of m rd) ipa realm is within (level - 1) in
    let whole : IsWhole parent level = (
      entry_few (page_in m found.table) (entry_index found.level ipa),
      λ mapped. subst (λ (l : ℕ). descriptor_of parent / 4096 * 4096 % entry_size l ≡ 0) there (placed mapped).1,
    ) in
    create_read rd rtt ipa level m proper ok (touches_of (RttCreate rd rtt ipa level) m proper ok).count x (Option Location) (λ e l. location_of e (x % entry_size l)) (child_memory parent level x (omega arith) most whole) after start first inside

pub folded_memory : (rd ipa level x : ℕ) (m : Machine) → IsProper m → Passed (rtt_fold rd ipa level m).checks → x < 2 ^ (realm_at m rd).s2sz
    → (after : RmmRealm) → after.start_level ≡ (realm_at m rd).start_level → after.first_table ≡ (realm_at m rd).first_table
    → location_at (rtt_fold rd ipa level m).machine after x ≡ location_at m (realm_at m rd) x
unfolding rtt_fold is_homogeneous
folded_memory rd ipa level x m proper ok inside after start first_table =
    let realm : RmmRealm = realm_at m rd in
    let levels = and_parts (nat_le (realm.start_level + 1) level) (nat_le level 3) (yes_from _ ok.1.1.1.0) in
    let least : realm.start_level + 1 ≤ level = leb-true _ _ levels.0 in
    let most : level ≤ 3 = leb-true _ _ levels.1 in
    let g : ℕ = unwrap_or (table_below m (entry_at m (walk m realm ipa (level - 1)) ipa)) 0 in
    let first : RmmRttEntry = entry_in_page (page_in m g) 0 in
    let both = and_parts (not (is_table first) && is_aligned_above first level) (has_parts (page_in m g) first level 512 0) (yes_from _ ok.1.1.1.1.1.1.1.1.0) in
    let aligned = (and_parts (not (is_table first)) (is_aligned_above first level) both.0).1 in
    let whole : IsWhole first level = (entry_few (page_in m g) 0, λ mapped. eqb-true _ _ (second_holds (not (is_mapping first)) _ (ap not mapped) aligned)) in
    fold_read rd ipa level m proper ok (touches_of (RttFold rd ipa level) m proper ok).count x (Option Location) (λ e l. location_of e (x % entry_size l)) (child_memory first level x (omega arith) most whole) after start first_table inside

-- each address leads to the memory that it led to before RMI_RTT_CREATE
pub memory_created : (m : Machine) (rd rtt ipa level x : ℕ) → IsProper m → (performed (RttCreate rd rtt ipa level) m).0.word ≡ Success → x < 2 ^ (realm_at m rd).s2sz
    → location_at (performed (RttCreate rd rtt ipa level) m).1 (realm_at m rd) x ≡ location_at m (realm_at m rd) x
unfolding rtt_create
memory_created m rd rtt ipa level x proper success inside =
    succeeded (location_at (performed (RttCreate rd rtt ipa level) m).1 (realm_at m rd) x ≡ location_at m (realm_at m rd) x) (RttCreate rd rtt ipa level) m refl success
    (λ ok now. subst (λ (p : SmcResult × Machine). location_at p.1 (realm_at m rd) x ≡ location_at m (realm_at m rd) x) (sym now) (made_memory rd rtt ipa level x m proper ok inside (realm_at m rd) refl refl))

-- each address leads to the memory that it led to before RMI_RTT_FOLD
pub memory_folded : (m : Machine) (rd ipa level x : ℕ) → IsProper m → (performed (RttFold rd ipa level) m).0.word ≡ Success → x < 2 ^ (realm_at m rd).s2sz
    → location_at (performed (RttFold rd ipa level) m).1 (realm_at m rd) x ≡ location_at m (realm_at m rd) x
unfolding rtt_fold
memory_folded m rd ipa level x proper success inside =
    succeeded (location_at (performed (RttFold rd ipa level) m).1 (realm_at m rd) x ≡ location_at m (realm_at m rd) x) (RttFold rd ipa level) m refl success
    (λ ok now. subst (λ (p : SmcResult × Machine). location_at p.1 (realm_at m rd) x ≡ location_at m (realm_at m rd) x) (sym now) (folded_memory rd ipa level x m proper ok inside (realm_at m rd) refl refl))
