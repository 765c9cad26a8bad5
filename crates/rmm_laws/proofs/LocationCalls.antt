-- Proofs that each call on a realm changes the memory locations of protected addresses only as `KeepsLocations` allows.
use Rattle.std.proofs.Common.{◌≡◌, ℕ, ◌+◌, ◌-◌, ◌*◌, ◌/◌, ◌%◌, ◌^◌, ◌<◌, ◌≤◌, ◌⊎◌, inl, inr, true, false, length, Option, Some, None, unwrap_or, refl, sym, ap, ◌∙◌, arith}
use Rattle.std.specs.Prelude.{nat_le}
use Rattle.std.proofs.lemmas.Bool.{cond_both, and_parts, eqb-true, leb-true, ltb-true}
use Rattle.granule_addr.specs.Page.{zero_page}
use Rattle.rmi_abi.specs.declared.call.Call.{Call}
use Rattle.rmi_abi.specs.declared.call.Call.TheVariants.{DataCreate, DataCreateUnknown, DataDestroy, RttCreate, RttDestroy, RttFold, RttInitRipas, RttMapUnprotected, RttSetRipas, RttUnmapUnprotected}
use Rattle.rmm_model.specs.declared.entry.RmmRipas.{RmmRipas}
use Rattle.rmm_model.specs.declared.entry.RmmRipas.TheVariants.{Ram, Destroyed}
use Rattle.rmm_model.specs.declared.entry.RmmRttEntry.{RmmRttEntry}
use Rattle.rmm_model.specs.declared.entry.RmmRttEntry.TheVariants.{Unassigned, Assigned, Table, UnassignedNs, AssignedNs}
use Rattle.rmm_model.specs.declared.granule.RmmGranuleState.TheVariants.{Data, Rd}
use Rattle.rmm_model.specs.declared.realm.RmmRealm.{RmmRealm}
use Rattle.rmm_model.specs.declared.realm.RttWalk.{RttWalk}
use Rattle.rmm_model.specs.declared.rec.RipasRequest.{RipasRequest}
use Rattle.rmm_model.specs.Entry.{entry_of, entry_word, entry_with_ripas, is_live, is_unassigned, ripas_in}
use Rattle.rmm_model.specs.Granule.{is_delegated, of_realm}
use Rattle.rmm_model.specs.Level.{entry_size, entry_index}
use Rattle.rmm_model.specs.Machine.{Machine, granule_at, page_in, is_aligned, is_inside, number_of, state_at}
use Rattle.rmm_model.specs.Realm.{is_in_space, is_new, is_protected}
use Rattle.rmm_model.specs.Table.{entry_in_page, has_live}
use Rattle.rmm_model.specs.Walk.{entry_at, memory_below, table_below, walk}
use Rattle.rmm_model.specs.Command.DataCreate.{data_create, source_checks, target_checks}
use Rattle.rmm_model.specs.Command.DataCreateUnknown.{data_create_unknown}
use Rattle.rmm_model.specs.Command.DataDestroy.{data_destroy, left_ripas}
use Rattle.rmm_model.specs.Command.Operand.{realm_at, rec_at}
use Rattle.rmm_model.specs.Command.RipasRange.{with_ripas_from}
use Rattle.rmm_model.specs.Command.RttCreate.{rtt_create}
use Rattle.rmm_model.specs.Command.RttDestroy.{rtt_destroy, left_entry}
use Rattle.rmm_model.specs.Command.RttFold.{rtt_fold}
use Rattle.rmm_model.specs.Command.RttInitRipas.{rtt_init_ripas, range_checks, init_changeable}
use Rattle.rmm_model.specs.Command.RttMapUnprotected.{rtt_map_unprotected}
use Rattle.rmm_model.specs.Command.RttSetRipas.{rtt_set_ripas, ripas_request_checks, set_changeable, is_rec_of}
use Rattle.rmm_model.specs.Command.RttUnmapUnprotected.{rtt_unmap_unprotected}
use Rattle.rmm_laws.specs.Location.{Location, location, location_of, location_at, IsLocationGiven}
use Rattle.rmm_laws.specs.Proper.{IsProper}
use Rattle.rmm_laws.proofs.Children.{unused_dead, unused_free}
use Rattle.rmm_laws.proofs.Entries.{address_few}
use Rattle.rmm_laws.proofs.EntryWords.{entry_of-entry_word}
use Rattle.rmm_laws.proofs.FoldMemory.{made_memory, folded_memory}
use Rattle.rmm_laws.proofs.Mappings.{served, protected_within, owned_protected, some_of}
use Rattle.rmm_laws.proofs.Passed.{Passed, yes_from, is_delegated-true, realm_of-some}
use Rattle.rmm_laws.proofs.ReadCalls.{leaf_read, range_read, map_read, unmap_read, page_read}
use Rattle.rmm_laws.proofs.RipasCalls.{is, within, least, reaches, named, others, page, memory_leaf, page_between}
use Rattle.rmm_laws.proofs.RipasTables.{free_below, left_is}
use Rattle.rmm_laws.proofs.StateCalls.{new_if}
use Rattle.rmm_laws.proofs.TableReads.{removed_read}
use Rattle.rmm_laws.proofs.Walks.{entry_index-few}
use Rattle.rmm_laws.proofs.Writes.{page_in-other}

-- a protected address of a realm has the same location in both machines, or the call may change the old location to the
-- new one
abbrev pub Leads : Call → Machine → Machine → ℕ → ℕ → RmmRealm → RmmRealm → Type 0
Leads call m n rd x before after =
    (granule_at n rd).state ≡ Rd after → after.start_level ≡ before.start_level → after.first_table ≡ before.first_table → is_protected before x ≡ true
    → (location_at n after x ≡ location_at m before x) ⊎ IsLocationGiven m (Some call) rd x (location_at m before x) (location_at n after x)

-- the location of address `x`, if its walk ends at the given entry of the given level
abbrev pub leading : ℕ → RmmRttEntry → ℕ → Option Location
leading x e l = location_of e (x % entry_size l)

-- a call may change the location of an address from one given value to another
abbrev pub giving : Machine → Call → ℕ → ℕ → Option Location → Option Location → Type 0
giving m call x rd old new = IsLocationGiven m (Some call) rd x old new

-- ---- entries

-- an entry with another RIPAS leads to the same location
same_location : (ripas : RmmRipas) (e : RmmRttEntry) (offset : ℕ) → location_of (entry_with_ripas ripas e) offset ≡ location_of e offset
same_location ripas (Unassigned old) offset = refl
same_location ripas (Assigned old address) offset = refl
same_location ripas (Table address) offset = refl
same_location ripas UnassignedNs offset = refl
same_location ripas (AssignedNs desc) offset = refl

unassigned_none : (e : RmmRttEntry) (offset : ℕ) → is_unassigned e ≡ true → location_of e offset ≡ None
unassigned_none (Unassigned ripas) offset is = refl
unassigned_none _ offset is = absurd (cc)

dead_none : (e : RmmRttEntry) (offset : ℕ) → is_live e ≡ false → location_of e offset ≡ None
dead_none (Unassigned ripas) offset dead = refl
dead_none UnassignedNs offset dead = refl
dead_none (Table address) offset dead = refl
dead_none (Assigned ripas address) offset dead = absurd (cc)
dead_none (AssignedNs desc) offset dead = absurd (cc)

left_none : (realm : RmmRealm) (ipa offset : ℕ) → location_of (left_entry realm ipa) offset ≡ None
left_none realm ipa offset = cond_both (is_protected realm ipa) (Unassigned Destroyed) UnassignedNs (λ (e : RmmRttEntry). location_of e offset ≡ None) (λ sure. refl) (λ never. refl)

-- an ASSIGNED entry of level 3 that is encoded and decoded leads each address to the address's offset in the entry's
-- page
pub page_location : (ripas : RmmRipas) (address l x : ℕ) → l ≡ 3 → address % 4096 ≡ 0 → address < 2 ^ 48 → location_of (entry_of (entry_word (Assigned ripas address))) (x % entry_size l) ≡ location (address + x % 4096) 0
unfolding entry_size
page_location ripas address l x three begins fits =
    let place : address / 4096 * 4096 + x % 4096 ≡ address + x % 4096 = omega arith in
    ap (λ (e : RmmRttEntry). location_of e (x % entry_size l)) (entry_of-entry_word (Assigned ripas address) fits)
    ∙ ap (λ (k : ℕ). location_of (Assigned ripas address) (x % entry_size k)) three
    ∙ ap (λ (a : ℕ). location a (address % 4096)) place
    ∙ ap (λ (a : ℕ). location (address + x % 4096) a) begins

-- ---- calls

pub lead_map : (rd ipa level desc : ℕ) (m : Machine) → IsProper m → Passed (rtt_map_unprotected rd ipa level desc m).checks → (x : ℕ) (after : RmmRealm)
    → Leads (RttMapUnprotected rd ipa level desc) m (rtt_map_unprotected rd ipa level desc m).machine (number_of m rd) x (realm_at m rd) after
lead_map rd ipa level desc m proper ok x after = map_read x (Option Location) (leading x) (giving m (RttMapUnprotected rd ipa level desc) x) rd ipa level desc m proper ok after

pub lead_unmap : (rd ipa level : ℕ) (m : Machine) → IsProper m → Passed (rtt_unmap_unprotected rd ipa level m).checks → (x : ℕ) (after : RmmRealm)
    → Leads (RttUnmapUnprotected rd ipa level) m (rtt_unmap_unprotected rd ipa level m).machine (number_of m rd) x (realm_at m rd) after
lead_unmap rd ipa level m proper ok x after = unmap_read x (Option Location) (leading x) (giving m (RttUnmapUnprotected rd ipa level) x) rd ipa level m proper ok after

pub lead_data : (rd page ipa source flags : ℕ) (m : Machine) → IsProper m → Passed (data_create rd page ipa source flags m).checks → length (data_create rd page ipa source flags m).machine.granules ≡ length m.granules
    → (x : ℕ) (after : RmmRealm) → Leads (DataCreate rd page ipa source flags) m (data_create rd page ipa source flags m).machine (number_of m rd) x (realm_at m rd) after
unfolding data_create source_checks target_checks
lead_data rd page ipa source flags m proper ok count x after =
    let realm : RmmRealm = realm_at m rd in
    let there = realm_of-some (state_at m rd) ok.1.1.1.1.1.1.1.1.1.0 in
    let free = is_delegated-true (state_at m page) (yes_from (is_delegated (state_at m page)) ok.1.1.1.1.1.1.0) in
    let aligned : page % 4096 ≡ 0 = eqb-true _ _ (yes_from (is_aligned page) ok.1.1.1.1.0) in
    let inside = yes_from (is_inside m page) ok.1.1.1.1.1.0 in
    let begins : ipa % 4096 ≡ 0 = eqb-true _ _ (yes_from _ ok.1.1.1.1.1.1.1.1.1.1.0) in
    let lower = yes_from _ ok.1.1.1.1.1.1.1.1.1.1.1.0 in
    let fresh = new_if realm.state (yes_from (is_new realm.state) ok.1.1.1.1.1.1.1.1.1.1.1.1.0) in
    let found : RttWalk = walk m realm ipa 3 in
    let three : found.level ≡ 3 = eqb-true _ _ (yes_from _ ok.1.1.1.1.1.1.1.1.1.1.1.1.1.0) in
    let vacant = yes_from _ ok.1.1.1.1.1.1.1.1.1.1.1.1.1.1.0 in
    page_read x (Option Location) (leading x) (giving m (DataCreate rd page ipa source flags) x) m (data_create rd page ipa source flags m).machine proper refl count rd page ipa there lower free vacant
    (of_realm (number_of m rd) Data) (page_in m (number_of m source)) Ram refl
    (λ covers. inr (
      refl,
      (realm, there, fresh),
      page_between found.level ipa x three begins covers,
      unassigned_none (entry_at m found ipa) (x % entry_size found.level) vacant,
      page_location Ram page found.level x three aligned (address_few m page proper.linked.sound inside),
    )) after

pub lead_unknown : (rd page ipa : ℕ) (m : Machine) → IsProper m → Passed (data_create_unknown rd page ipa m).checks → length (data_create_unknown rd page ipa m).machine.granules ≡ length m.granules
    → (x : ℕ) (after : RmmRealm) → Leads (DataCreateUnknown rd page ipa) m (data_create_unknown rd page ipa m).machine (number_of m rd) x (realm_at m rd) after
unfolding data_create_unknown
lead_unknown rd page ipa m proper ok count x after =
    let realm : RmmRealm = realm_at m rd in
    let there = realm_of-some (state_at m rd) ok.1.1.1.1.1.0 in
    let free = is_delegated-true (state_at m page) (yes_from (is_delegated (state_at m page)) ok.1.1.0) in
    let aligned : page % 4096 ≡ 0 = eqb-true _ _ (yes_from (is_aligned page) ok.0) in
    let inside = yes_from (is_inside m page) ok.1.0 in
    let begins : ipa % 4096 ≡ 0 = eqb-true _ _ (yes_from _ ok.1.1.1.1.1.1.0) in
    let lower = yes_from _ ok.1.1.1.1.1.1.1.0 in
    let found : RttWalk = walk m realm ipa 3 in
    let three : found.level ≡ 3 = eqb-true _ _ (yes_from _ ok.1.1.1.1.1.1.1.1.0) in
    let vacant = yes_from _ ok.1.1.1.1.1.1.1.1.1.0 in
    let ripas : RmmRipas = ripas_in (entry_at m found ipa) in
    page_read x (Option Location) (leading x) (giving m (DataCreateUnknown rd page ipa) x) m (data_create_unknown rd page ipa m).machine proper refl count rd page ipa there lower free vacant
    (of_realm (number_of m rd) Data) zero_page ripas refl
    (λ covers. inr (
      refl,
      page_between found.level ipa x three begins covers,
      unassigned_none (entry_at m found ipa) (x % entry_size found.level) vacant,
      page_location ripas page found.level x three aligned (address_few m page proper.linked.sound inside),
    )) after

pub lead_destroy : (rd ipa : ℕ) (m : Machine) (proper : IsProper m) (ok : Passed (data_destroy rd ipa m).checks) (count : length (data_destroy rd ipa m).machine.granules ≡ length m.granules)
    (x : ℕ) (after : RmmRealm) → Leads (DataDestroy rd ipa) m (data_destroy rd ipa m).machine (number_of m rd) x (realm_at m rd) after
unfolding data_destroy
lead_destroy rd ipa m proper ok count x after =
    let found : RttWalk = walk m (realm_at m rd) ipa 3 in
    let old : RmmRttEntry = entry_at m found ipa in
    let left : RmmRttEntry = Unassigned (left_ripas (ripas_in old)) in
    let begins : ipa % 4096 ≡ 0 = eqb-true _ _ (yes_from _ ok.1.1.1.0) in
    let three = reaches rd ipa m proper ok count in
    leaf_read x (Option Location) (leading x) (giving m (DataDestroy rd ipa) x) m (data_destroy rd ipa m).machine proper refl count (number_of m rd) ipa 3 (realm_at m rd) (is rd ipa m proper ok count)
    (within rd ipa m proper ok count) (least rd ipa m proper ok count) (others rd ipa m proper ok count) left (page rd ipa m proper ok count)
    (memory_leaf m old (unwrap_or (memory_below m old) 0) (named rd ipa m proper ok count)) refl
    (λ lower covers. inr (
      refl,
      page_between found.level ipa x three begins covers,
      ap (λ (e : RmmRttEntry). location_of e (x % entry_size found.level)) (entry_of-entry_word left (omega arith)),
    )) after

pub lead_init : (rd base top : ℕ) (m : Machine) → IsProper m → Passed (rtt_init_ripas rd base top m).checks → length (rtt_init_ripas rd base top m).machine.granules ≡ length m.granules
    → (x : ℕ) (after : RmmRealm) → Leads (RttInitRipas rd base top) m (rtt_init_ripas rd base top m).machine (number_of m rd) x (realm_at m rd) after
unfolding rtt_init_ripas range_checks with_ripas_from
lead_init rd base top m proper ok count x after =
    let realm : RmmRealm = realm_at m rd in
    let r : ℕ = number_of m rd in
    let there = realm_of-some (state_at m rd) ok.1.1.1.0 in
    let s = served m r realm proper.linked there in
    let inside = protected_within realm base (yes_from _ ok.1.1.1.1.1.1.0) in
    let found : RttWalk = walk m realm base 3 in
    let begins : base % entry_size found.level ≡ 0 = eqb-true _ _ (yes_from _ ok.1.1.1.1.1.1.1.1.1.0) in
    range_read x (Option Location) (leading x) (giving m (RttInitRipas rd base top) x) m (rtt_init_ripas rd base top m).machine proper refl count r base 3 realm there inside s.level
    (λ g here other. page_in-other m found.table g _ other) (init_changeable m.settings) Ram top begins refl
    (λ e between can. inl (same_location Ram e (x % entry_size found.level))) after

pub lead_set : (rd rec base top : ℕ) (m : Machine) → IsProper m → Passed (rtt_set_ripas rd rec base top m).checks → length (rtt_set_ripas rd rec base top m).machine.granules ≡ length m.granules
    → (x : ℕ) (after : RmmRealm) → Leads (RttSetRipas rd rec base top) m (rtt_set_ripas rd rec base top m).machine (number_of m rd) x (realm_at m rd) after
unfolding rtt_set_ripas ripas_request_checks with_ripas_from
lead_set rd rec base top m proper ok count x after =
    let realm : RmmRealm = realm_at m rd in
    let r : ℕ = number_of m rd in
    let asked : RipasRequest = (rec_at m rec).ripas in
    let there = realm_of-some (state_at m rd) ok.1.1.1.0 in
    let s = served m r realm proper.linked there in
    let inside = protected_within realm base (owned_protected realm (is_rec_of m rd rec) _ (nat_le top base) base ok.1.1.1.1.1.1.1.1.1.0 ok.0 (yes_from _ ok.1.1.1.1.1.1.1.1.1.1.1.0)) in
    let found : RttWalk = walk m realm base 3 in
    let begins : base % entry_size found.level ≡ 0 = eqb-true _ _ (yes_from _ ok.1.1.1.1.1.1.1.1.1.1.1.1.0) in
    range_read x (Option Location) (leading x) (giving m (RttSetRipas rd rec base top) x) m (rtt_set_ripas rd rec base top m).machine proper refl count r base 3 realm there inside s.level
    (λ g here other. page_in-other m found.table g _ other) (set_changeable asked) asked.ripas top begins refl
    (λ e between can. inl (same_location asked.ripas e (x % entry_size found.level))) after

-- ---- tables that are made or removed

pub lead_create : (rd rtt ipa level : ℕ) (m : Machine) → IsProper m → Passed (rtt_create rd rtt ipa level m).checks
    → (x : ℕ) (after : RmmRealm) → Leads (RttCreate rd rtt ipa level) m (rtt_create rd rtt ipa level m).machine (number_of m rd) x (realm_at m rd) after
lead_create rd rtt ipa level m proper ok x after = λ then start first lower. inl (made_memory rd rtt ipa level x m proper ok (protected_within (realm_at m rd) x lower) after start first)

pub lead_fold : (rd ipa level : ℕ) (m : Machine) → IsProper m → Passed (rtt_fold rd ipa level m).checks
    → (x : ℕ) (after : RmmRealm) → Leads (RttFold rd ipa level) m (rtt_fold rd ipa level m).machine (number_of m rd) x (realm_at m rd) after
lead_fold rd ipa level m proper ok x after = λ then start first lower. inl (folded_memory rd ipa level x m proper ok (protected_within (realm_at m rd) x lower) after start first)

pub lead_table_destroy : (rd ipa level : ℕ) (m : Machine) → IsProper m → Passed (rtt_destroy rd ipa level m).checks → length (rtt_destroy rd ipa level m).machine.granules ≡ length m.granules
    → (x : ℕ) (after : RmmRealm) → Leads (RttDestroy rd ipa level) m (rtt_destroy rd ipa level m).machine (number_of m rd) x (realm_at m rd) after
unfolding rtt_destroy
lead_table_destroy rd ipa level m proper ok count x after = λ then start first lower.
    let realm : RmmRealm = realm_at m rd in
    let there = realm_of-some (state_at m rd) ok.1.1.0 in
    let levels = and_parts (nat_le (realm.start_level + 1) level) (nat_le level 3) (yes_from _ ok.1.1.1.0) in
    let lowest : realm.start_level + 1 ≤ level = leb-true _ _ levels.0 in
    let inside : ipa < 2 ^ realm.s2sz = ltb-true _ _ (yes_from (is_in_space realm ipa) ok.1.1.1.1.1.0) in
    let found : RttWalk = walk m realm ipa (level - 1) in
    let below : Option ℕ = table_below m (entry_at m found ipa) in
    let g : ℕ = unwrap_or below 0 in
    let unused : has_live (page_in m g) ≡ false = ok.1.1.1.1.1.1.1.1.0 in
    let left = left_is realm ipa in
    removed_read m (rtt_destroy rd ipa level m).machine proper refl count rd ipa (level - 1) g there inside (omega arith) (some_of below (yes_from _ ok.1.1.1.1.1.1.1.0)) (left_entry realm ipa)
    left.0 left.1 refl
    (λ j lt. free_below m (entry_in_page (page_in m g) j) (unused_free (page_in m g) unused j lt))
    x (Option Location) (leading x) (λ old new. giving m (RttDestroy rd ipa level) x (number_of m rd) old new)
    (λ covers.
    let j : ℕ = entry_index (found.level + 1) x in
    inl (left_none realm ipa (x % entry_size found.level)
    ∙ sym (dead_none (entry_in_page (page_in m g) j) (x % entry_size (found.level + 1)) (unused_dead (page_in m g) unused j (entry_index-few (found.level + 1) x)))))
    after start first (protected_within realm x lower)
