-- Proofs that commands, stores and fills leave each granule with the owner that its state requires, and keep the counts
-- of RECs correct.
use Rattle.std.proofs.Common.{◌≡◌, ◌≢◌, ℕ, ◌+◌, ◌*◌, ◌-◌, ◌/◌, ◌%◌, ◌^◌, ◌<◌, ◌≤◌, ◌==◌, true, false, not, ◌&&◌, List, length, Option, Some, unwrap_or, refl, sym, ap, subst, ◌∙◌, ⊎_elim, arith}
use Rattle.std.specs.Prelude.{nat_le, is_some}
use Rattle.std.proofs.lemmas.Bool.{and_parts, and_from, both_ways, cases_lt, le-leb, cond_both, eqb-true, leb-true, ltb-true, ltb-false, not-true}
use Rattle.std.proofs.lemmas.List.{length-set}
use Rattle.granule_addr.specs.Page.{page_of, zero_page}
use Rattle.rmm_model.specs.declared.entry.RmmRipas.TheVariants.{Ram, Destroyed}
use Rattle.rmm_model.specs.declared.entry.RmmRttEntry.{RmmRttEntry}
use Rattle.rmm_model.specs.declared.entry.RmmRttEntry.TheVariants.{Unassigned, Assigned, UnassignedNs, AssignedNs}
use Rattle.rmm_model.specs.declared.granule.RmmGranule.{RmmGranule}
use Rattle.rmm_model.specs.declared.granule.RmmGranuleState.{RmmGranuleState}
use Rattle.rmm_model.specs.declared.granule.RmmGranuleState.TheVariants.{Undelegated, Delegated, Rd, Data, Rtt}
use Rattle.rmm_model.specs.declared.realm.RmmRealm.{RmmRealm}
use Rattle.rmm_model.specs.declared.realm.RttWalk.{RttWalk}
use Rattle.rmm_model.specs.Entry.{descriptor_of, is_table, is_unassigned, is_assigned_ns, is_mapping, ripas_in}
use Rattle.rmm_model.specs.Granule.{of_no_realm, of_realm, is_undelegated, is_delegated}
use Rattle.rmm_model.specs.Host.{is_host_page, can_access, can_fill, after_store, after_fill}
use Rattle.rmm_model.specs.Level.{entry_index, entry_size}
use Rattle.rmm_model.specs.Machine.{Machine, granule_at, page_in, is_aligned, is_inside, number_of, state_at, with_granule, with_page, with_word, with_blank}
use Rattle.rmm_model.specs.Realm.{is_in_space, is_protected}
use Rattle.rmm_model.specs.Table.{entry_in_page, has_parts}
use Rattle.rmm_model.specs.Walk.{entry_at, with_entry, table_below, memory_below, walk}
use Rattle.rmm_model.specs.Command.DataCreate.{data_create, source_checks, target_checks}
use Rattle.rmm_model.specs.Command.DataCreateUnknown.{data_create_unknown}
use Rattle.rmm_model.specs.Command.DataDestroy.{data_destroy, left_ripas}
use Rattle.rmm_model.specs.Command.GranuleDelegate.{granule_delegate}
use Rattle.rmm_model.specs.Command.GranuleUndelegate.{granule_undelegate}
use Rattle.rmm_model.specs.Command.Operand.{realm_at, rec_at, is_level, is_multiple}
use Rattle.rmm_model.specs.Command.RealmActivate.{realm_activate}
use Rattle.rmm_model.specs.Command.RipasRange.{with_ripas_from, change_count}
use Rattle.rmm_model.specs.Command.RttCreate.{rtt_create}
use Rattle.rmm_model.specs.Command.RttDestroy.{rtt_destroy, left_entry}
use Rattle.rmm_model.specs.Command.RttFold.{rtt_fold, is_homogeneous, is_aligned_above}
use Rattle.rmm_model.specs.Command.RttInitRipas.{rtt_init_ripas, init_changeable, range_checks}
use Rattle.rmm_model.specs.Command.RttMapUnprotected.{rtt_map_unprotected, is_descriptor, has_attributes}
use Rattle.rmm_model.specs.Command.RttSetRipas.{rtt_set_ripas, set_changeable, ripas_request_checks, is_rec_of}
use Rattle.rmm_model.specs.Command.RttUnmapUnprotected.{rtt_unmap_unprotected}
use Rattle.rmm_laws.specs.Half.{IsOfHalf, IsPlaced, HasHalves}
use Rattle.rmm_laws.specs.Owner.{is_rd, IsOrderly, IsOrdered}
use Rattle.rmm_laws.specs.Proper.{IsProper}
use Rattle.rmm_laws.specs.Role.{Used, used, entry_uses, IsSound, IsLinked}
use Rattle.rmm_laws.proofs.Entries.{number_inside, address_few}
use Rattle.rmm_laws.proofs.Halves.{plain_both}
use Rattle.rmm_laws.proofs.Halving.{ripas_halves, entry_at_end, entry_alike, mid_halves, entry_beside, entry_folded, made_halves, table_halves}
use Rattle.rmm_laws.proofs.Mappings.{served, place_is, place_table, protected_within, unprotected_within, owned_protected, second_holds, by_memory, some_of, change_count-few}
use Rattle.rmm_laws.proofs.Orders.{is_counter, is_memory_state, no_rd, plain_alike, ordered_both, ordered_realm, ordered_rec, ordered_table, ordered_memory}
use Rattle.rmm_laws.proofs.Placing.{placed_none, placed_page}
use Rattle.rmm_laws.proofs.Passed.{Passed, yes_from, is_delegated-true, is_undelegated-true, realm_of-some, rec_of-some}
use Rattle.rmm_laws.proofs.Plain.{host_plain}
use Rattle.rmm_laws.proofs.Seats.{in_half, in_upper, in_space}
use Rattle.rmm_laws.proofs.Tables.{below_is}
use Rattle.rmm_laws.proofs.Walks.{IsPlace, right, uses-entry, entry_index-few}
use Rattle.rmm_laws.proofs.Writes.{granule_at-other, taken_inside}

-- ---- writes of commands

-- changing a granule that is no RD and no REC to another such granule keeps `IsOrdered`, if the new one satisfies
-- `IsOrderly` and `HasHalves` still holds
changed : (m : Machine) (g : ℕ) (kept : RmmGranule) (page : List ℕ) → IsSound m → IsOrdered m → g < length m.granules → is_counter (granule_at m g).state ≡ false → is_counter kept.state ≡ false
    → IsOrderly m kept.state kept.owner page → HasHalves (with_page (with_granule m g kept) g page) → IsOrdered (with_page (with_granule m g kept) g page)
changed m g kept page sound ordered inside before after fine halves =
    let pages = sound.pages in
    ordered_both m g kept page inside (omega arith) ordered (λ sure. absurd (no_rd (granule_at m g).state before sure)) (plain_alike (granule_at m g) kept before after) fine halves

-- Giving a DELEGATED granule to a realm, and then writing a table's page, keeps `IsOrdered`, if `HasHalves` holds after
-- each write. The granule is then orderly, and is neither an RD nor a REC.
made : (m : Machine) (g rd t : ℕ) (state : RmmGranuleState) (content page : List ℕ) → IsSound m → IsOrdered m → g < length m.granules → (granule_at m g).state ≡ Delegated → is_counter state ≡ false
    → IsOrderly m state (Some rd) content → (granule_at m t).state ≡ Rtt → HasHalves (with_page (with_granule m g (of_realm rd state)) g content)
    → HasHalves (with_page (with_page (with_granule m g (of_realm rd state)) g content) t page) → IsOrdered (with_page (with_page (with_granule m g (of_realm rd state)) g content) t page)
made m g rd t state content page sound ordered inside free plain fine is halves then =
    let other : t ≢ g = λ same. (let s : (granule_at m t).state ≡ (granule_at m g).state = ap (λ (h : ℕ). (granule_at m h).state) same in cc) in
    ordered_table (with_page (with_granule m g (of_realm rd state)) g content) t page (ap (λ (r : RmmGranule). r.state) (granule_at-other m g t (of_realm rd state) other) ∙ is)
    (changed m g (of_realm rd state) content sound ordered inside (ap is_counter free) plain fine halves) then

-- writing a table's page, then making a granule that is no RD and no REC DELEGATED, keeps `IsOrdered`, if `HasHalves`
-- holds after the page is written
freed : (m : Machine) (g t : ℕ) (page : List ℕ) → IsSound m → IsOrdered m → g < length m.granules → is_counter (granule_at m g).state ≡ false → (granule_at m t).state ≡ Rtt → HasHalves (with_page m t page)
    → IsOrdered (with_blank (with_page m t page) g Delegated)
freed m g t page sound ordered inside plain is halves =
    let k : Machine = with_page m t page in
    let pages = sound.pages in
    let count = length-set m.pages t page in
    ordered_both k g (of_no_realm Delegated) zero_page inside (omega arith) (ordered_table m t page is ordered halves) (λ sure. absurd (no_rd (granule_at m g).state plain sure))
    (plain_alike (granule_at m g) (of_no_realm Delegated) plain refl) (refl, refl) (plain_both k g (of_no_realm Delegated) zero_page inside refl halves)

-- ---- granules

pub delegate_ordered : (address : ℕ) (m : Machine) → IsProper m → Passed (granule_delegate address m).checks → IsOrdered (granule_delegate address m).machine
unfolding granule_delegate
delegate_ordered address m proper ok =
    let was = is_undelegated-true (state_at m address) (yes_from (is_undelegated (state_at m address)) ok.1.1.0) in
    changed m (number_of m address) (of_no_realm Delegated) zero_page proper.linked.sound proper.ordered (number_inside m address (yes_from (is_inside m address) ok.1.0)) (ap is_counter was) refl (refl, refl)
    (plain_both m (number_of m address) (of_no_realm Delegated) zero_page (number_inside m address (yes_from (is_inside m address) ok.1.0)) refl proper.ordered.halves)

pub undelegate_ordered : (address : ℕ) (m : Machine) → IsProper m → Passed (granule_undelegate address m).checks → IsOrdered (granule_undelegate address m).machine
unfolding granule_undelegate
undelegate_ordered address m proper ok =
    let was = is_delegated-true (state_at m address) (yes_from (is_delegated (state_at m address)) ok.1.1.0) in
    changed m (number_of m address) (of_no_realm Undelegated) zero_page proper.linked.sound proper.ordered (number_inside m address (yes_from (is_inside m address) ok.1.0)) (ap is_counter was) refl refl
    (plain_both m (number_of m address) (of_no_realm Undelegated) zero_page (number_inside m address (yes_from (is_inside m address) ok.1.0)) refl proper.ordered.halves)

pub activate_ordered : (rd : ℕ) (m : Machine) → IsProper m → Passed (realm_activate rd m).checks → IsOrdered (realm_activate rd m).machine
unfolding realm_activate
activate_ordered rd m proper ok =
    ordered_realm m (number_of m rd) (realm_at m rd) _ (number_inside m rd (yes_from (is_inside m rd) ok.1.0)) (realm_of-some (state_at m rd) ok.1.1.0) refl (refl, refl, refl, refl) proper.ordered

-- ---- tables

pub rtt_create_ordered : (rd rtt ipa level : ℕ) (m : Machine) → IsProper m → Passed (rtt_create rd rtt ipa level m).checks → IsOrdered (rtt_create rd rtt ipa level m).machine
unfolding rtt_create
rtt_create_ordered rd rtt ipa level m proper ok =
    let realm : RmmRealm = realm_at m rd in
    let free = is_delegated-true (state_at m rtt) (yes_from (is_delegated (state_at m rtt)) ok.1.1.0) in
    let is = realm_of-some (state_at m rd) ok.1.1.1.1.1.0 in
    let least : realm.start_level + 1 ≤ level = leb-true _ _ (and_parts (nat_le (realm.start_level + 1) level) (nat_le level 3) (yes_from _ ok.1.1.1.1.1.1.0)).0 in
    let within : ipa < 2 ^ realm.s2sz = ltb-true _ _ (yes_from (is_in_space realm ipa) ok.1.1.1.1.1.1.1.1.0) in
    let most : level ≤ 3 = leb-true _ _ (and_parts (nat_le (realm.start_level + 1) level) (nat_le level 3) (yes_from _ ok.1.1.1.1.1.1.0)).1 in
    let there : (walk m realm ipa (level - 1)).level ≡ level - 1 = eqb-true _ _ (yes_from _ ok.1.1.1.1.1.1.1.1.1.0) in
    let leaf : is_table (entry_at m (walk m realm ipa (level - 1)) ipa) ≡ false = not-true _ (yes_from _ ok.1.1.1.1.1.1.1.1.1.1.0) in
    let inside : is_inside m rtt ≡ true = yes_from (is_inside m rtt) ok.1.0 in
    let low = address_few m rtt proper.linked.sound inside in
    made m (number_of m rtt) (number_of m rd) (walk m realm ipa (level - 1)).table Rtt _ _ proper.linked.sound proper.ordered (number_inside m rtt inside) free refl (ap is_rd is)
    (place_table m proper.linked (number_of m rd) ipa (level - 1) realm is within (omega arith))
    (made_halves m proper.linked proper.ordered.halves (number_of m rd) ipa (level - 1) realm is within (omega arith) rtt level inside (number_inside m rtt inside) free low leaf (omega arith) (omega arith))
    (table_halves m proper.linked proper.ordered.halves (number_of m rd) ipa (level - 1) realm is within (omega arith) rtt level inside (number_inside m rtt inside) free low leaf (omega arith) (omega arith))

-- The table at which a walk ends is written, and the table to which its entry leads becomes DELEGATED.
module _ (m : Machine) (proper : IsProper m) (rd ipa level : ℕ) (is : (granule_at m (number_of m rd)).state ≡ Rd (realm_at m rd)) (within : ipa < 2 ^ (realm_at m rd).s2sz) (least : (realm_at m rd).start_level ≤ level)
    (below : is_some (table_below m (entry_at m (walk m (realm_at m rd) ipa level) ipa)) ≡ true) (page : List ℕ) where
  abbrev found : RttWalk
  found = walk m (realm_at m rd) ipa level

  abbrev g : ℕ
  g = unwrap_or (table_below m (entry_at m (walk m (realm_at m rd) ipa level) ipa)) 0

  table_is : (granule_at m g).state ≡ Rtt
  table_is =
      below_is m proper.linked (number_of m rd) ipa found (place_is m proper.linked (number_of m rd) ipa level (realm_at m rd) is within least) g
      (some_of (table_below m (entry_at m found ipa)) below)

  table_freed : HasHalves (with_page m (walk m (realm_at m rd) ipa level).table page)
      → IsOrdered (with_blank (with_page m (walk m (realm_at m rd) ipa level).table page) (unwrap_or (table_below m (entry_at m (walk m (realm_at m rd) ipa level) ipa)) 0) Delegated)
  table_freed halves =
      freed m g found.table page proper.linked.sound proper.ordered (let t = table_is in taken_inside m g (λ free. cc)) (ap is_counter table_is)
      (place_table m proper.linked (number_of m rd) ipa level (realm_at m rd) is within least) halves

-- writing the entry that RMI_RTT_DESTROY leaves at the end of a walk keeps `HasHalves`
left_halves : (m : Machine) (linked : IsLinked m) → HasHalves m → (rd ipa level : ℕ) (realm : RmmRealm) → (granule_at m rd).state ≡ Rd realm → ipa < 2 ^ realm.s2sz → realm.start_level ≤ level
    → HasHalves (with_entry m (walk m realm ipa level) ipa (left_entry realm ipa))
left_halves m linked halves rd ipa level realm is within least =
    entry_at_end m linked halves rd ipa level realm is within least (left_entry realm ipa)
    (cond_both (is_protected realm ipa) _ _ (λ (e : RmmRttEntry). is_table e ≡ false) (λ sure. refl) (λ never. refl))
    (cond_both (is_protected realm ipa) (Unassigned Destroyed) UnassignedNs (λ (e : RmmRttEntry). descriptor_of e < 2 ^ 48) (λ sure. omega arith) (λ never. omega arith))
    (placed_none m.settings (walk m realm ipa level).level (left_entry realm ipa) (cond_both (is_protected realm ipa) _ _ (λ (e : RmmRttEntry). is_mapping e ≡ false) (λ sure. refl) (λ never. refl)))
    (λ x same. cond_both (is_protected realm ipa) (Unassigned Destroyed) UnassignedNs (IsOfHalf realm x)
    (λ sure. in_half m linked halves rd ipa realm is within level x same (ltb-true _ _ sure))
    (λ never. in_upper m linked halves rd ipa realm is within level x same (ltb-false _ _ never)))

pub rtt_destroy_ordered : (rd ipa level : ℕ) (m : Machine) → IsProper m → Passed (rtt_destroy rd ipa level m).checks → IsOrdered (rtt_destroy rd ipa level m).machine
unfolding rtt_destroy
rtt_destroy_ordered rd ipa level m proper ok =
    let realm : RmmRealm = realm_at m rd in
    let is = realm_of-some (state_at m rd) ok.1.1.0 in
    let least : realm.start_level + 1 ≤ level = leb-true _ _ (and_parts (nat_le (realm.start_level + 1) level) (nat_le level 3) (yes_from _ ok.1.1.1.0)).0 in
    let within : ipa < 2 ^ realm.s2sz = ltb-true _ _ (yes_from (is_in_space realm ipa) ok.1.1.1.1.1.0) in
    table_freed m proper rd ipa (level - 1) is within (omega arith) (yes_from _ ok.1.1.1.1.1.1.1.0) _
    (left_halves m proper.linked proper.ordered.halves (number_of m rd) ipa (level - 1) realm is within (omega arith))

-- a mapping that is folded is at a level at which there are blocks, and its memory is aligned to the size of a block
-- there
folded_placed : (m : Machine) (first : RmmRttEntry) (level above least : ℕ) → above ≡ level - 1 → least + 1 ≤ level → is_aligned_above first level ≡ true → (is_mapping first && nat_le level m.settings.block_level) ≡ false
    → IsPlaced m.settings above first
folded_placed m first level above least is more aligned passed = λ mapped.
    let begins = second_holds (not (is_mapping first)) (is_multiple (descriptor_of first / 4096 * 4096) (entry_size (level - 1))) (ap not mapped) aligned in (
      ⊎_elim
          (λ (low : m.settings.block_level < level). omega arith)
          (λ (high : level ≤ m.settings.block_level).
          absurd (both_ways (is_mapping first && nat_le level m.settings.block_level) passed
          (and_from (is_mapping first) (nat_le level m.settings.block_level) mapped (le-leb level m.settings.block_level high))))
          (cases_lt m.settings.block_level level),
      subst (λ (l : ℕ). descriptor_of first / 4096 * 4096 % entry_size l ≡ 0) (sym is) (eqb-true _ _ begins),
    )

pub rtt_fold_ordered : (rd ipa level : ℕ) (m : Machine) → IsProper m → Passed (rtt_fold rd ipa level m).checks → IsOrdered (rtt_fold rd ipa level m).machine
unfolding rtt_fold is_homogeneous
rtt_fold_ordered rd ipa level m proper ok =
    let realm : RmmRealm = realm_at m rd in
    let is = realm_of-some (state_at m rd) ok.1.1.0 in
    let least : realm.start_level + 1 ≤ level = leb-true _ _ (and_parts (nat_le (realm.start_level + 1) level) (nat_le level 3) (yes_from _ ok.1.1.1.0)).0 in
    let within : ipa < 2 ^ realm.s2sz = ltb-true _ _ (yes_from (is_in_space realm ipa) ok.1.1.1.1.1.0) in
    let most : level ≤ 3 = leb-true _ _ (and_parts (nat_le (realm.start_level + 1) level) (nat_le level 3) (yes_from _ ok.1.1.1.0)).1 in
    let place : RttWalk = walk m realm ipa (level - 1) in
    let there : place.level ≡ level - 1 = eqb-true _ _ (yes_from _ ok.1.1.1.1.1.1.0) in
    let g : ℕ = unwrap_or (table_below m (entry_at m place ipa)) 0 in
    let named : table_below m (entry_at m place ipa) ≡ Some g = some_of (table_below m (entry_at m place ipa)) (yes_from _ ok.1.1.1.1.1.1.1.0) in
    let first : RmmRttEntry = entry_in_page (page_in m g) 0 in
    let tests = and_parts (not (is_table first) && is_aligned_above first level) (has_parts (page_in m g) first level 512 0) (yes_from _ ok.1.1.1.1.1.1.1.1.0) in
    let leaf = not-true _ (and_parts (not (is_table first)) (is_aligned_above first level) tests.0).0 in
    table_freed m proper rd ipa (level - 1) is within (omega arith) (yes_from _ ok.1.1.1.1.1.1.1.0) _
    (entry_folded m proper.linked proper.ordered.halves (number_of m rd) ipa (level - 1) realm is within (omega arith) g level named (omega arith) leaf tests.1
    (folded_placed m first level place.level realm.start_level there least (and_parts (not (is_table first)) (is_aligned_above first level) tests.0).1 ok.1.1.1.1.1.1.1.1.1.0))

-- an address for which an ASSIGNED_NS entry is allowed is in the upper half
mapped_half : (realm : RmmRealm) (ipa : ℕ) (e : RmmRttEntry) → is_assigned_ns e ≡ true → IsOfHalf realm ipa e → 2 ^ (realm.s2sz - 1) ≤ ipa
mapped_half realm ipa (AssignedNs desc) is half = half.0
mapped_half realm ipa _ is half = absurd (cc)

free_half : (realm : RmmRealm) (ipa : ℕ) (e : RmmRttEntry) → is_unassigned e ≡ true → IsOfHalf realm ipa e → ipa < 2 ^ (realm.s2sz - 1)
free_half realm ipa (Unassigned ripas) is half = half
free_half realm ipa _ is half = absurd (cc)

memory_half : (m : Machine) (realm : RmmRealm) (ipa : ℕ) (e : RmmRttEntry) → is_some (memory_below m e) ≡ true → IsOfHalf realm ipa e → ipa < 2 ^ (realm.s2sz - 1)
memory_half m realm ipa (Assigned ripas address) is half = half
memory_half m realm ipa _ is half = absurd (cc)

pub map_ordered : (rd ipa level desc : ℕ) (m : Machine) → IsProper m → Passed (rtt_map_unprotected rd ipa level desc m).checks → IsOrdered (rtt_map_unprotected rd ipa level desc m).machine
unfolding rtt_map_unprotected is_descriptor
map_ordered rd ipa level desc m proper ok =
    let realm : RmmRealm = realm_at m rd in
    let is = realm_of-some (state_at m rd) ok.1.1.0 in
    let levels = and_parts (nat_le m.settings.block_level level) (is_level realm.start_level level) (yes_from _ ok.1.1.1.0) in
    let least = leb-true _ _ (and_parts (nat_le realm.start_level level) (nat_le level 3) levels.1).0 in
    let unprotected = yes_from _ ok.1.1.1.1.1.0 in
    let within = unprotected_within realm ipa unprotected in
    let there : (walk m realm ipa level).level ≡ level = eqb-true _ _ (yes_from _ ok.1.1.1.1.1.1.1.0) in
    let is_desc = and_parts (has_attributes m.settings desc) (is_multiple (desc / 4096 * 4096) (entry_size level)) (yes_from _ ok.1.1.1.1.1.1.0) in
    let fits : desc < 2 ^ 48 = ltb-true _ _ (and_parts _ _ (and_parts _ _ (and_parts _ _ (and_parts _ _ (and_parts _ _ is_desc.0).0).0).0).0).0 in
    let high : 2 ^ (realm.s2sz - 1) ≤ ipa = ltb-false _ _ (not-true _ (and_parts _ _ unprotected).0) in
    ordered_table m (walk m realm ipa level).table _ (place_table m proper.linked (number_of m rd) ipa level realm is within least) proper.ordered
    (entry_at_end m proper.linked proper.ordered.halves (number_of m rd) ipa level realm is within least (AssignedNs desc) refl fits
    (λ mapped. subst (λ (l : ℕ). (m.settings.block_level ≤ l) × (desc / 4096 * 4096 % entry_size l ≡ 0)) (sym there) (leb-true _ _ levels.0, eqb-true _ _ is_desc.1))
    (λ x same. (in_upper m proper.linked proper.ordered.halves (number_of m rd) ipa realm is within level x same high, in_space m proper.linked proper.ordered.halves (number_of m rd) ipa realm is within level x same)))

pub unmap_ordered : (rd ipa level : ℕ) (m : Machine) → IsProper m → Passed (rtt_unmap_unprotected rd ipa level m).checks → IsOrdered (rtt_unmap_unprotected rd ipa level m).machine
unfolding rtt_unmap_unprotected
unmap_ordered rd ipa level m proper ok =
    let realm : RmmRealm = realm_at m rd in
    let is = realm_of-some (state_at m rd) ok.1.1.0 in
    let levels = and_parts (nat_le m.settings.block_level level) (is_level realm.start_level level) (yes_from _ ok.1.1.1.0) in
    let least = leb-true _ _ (and_parts (nat_le realm.start_level level) (nat_le level 3) levels.1).0 in
    let within = unprotected_within realm ipa (yes_from _ ok.1.1.1.1.1.0) in
    ordered_table m (walk m realm ipa level).table _ (place_table m proper.linked (number_of m rd) ipa level realm is within least) proper.ordered
    (entry_alike m proper.linked proper.ordered.halves (number_of m rd) ipa level realm is within least UnassignedNs refl (omega arith) refl (λ x some. mapped_half some x (entry_at m (walk m realm ipa level) ipa) (yes_from _ ok.1.1.1.1.1.1.1.0)))

-- ---- RIPAS

pub init_ripas_ordered : (rd base top : ℕ) (m : Machine) → IsProper m → Passed (rtt_init_ripas rd base top m).checks → IsOrdered (rtt_init_ripas rd base top m).machine
unfolding rtt_init_ripas with_ripas_from range_checks
init_ripas_ordered rd base top m proper ok =
    let realm : RmmRealm = realm_at m rd in
    let found : RttWalk = walk m realm base 3 in
    let is = realm_of-some (state_at m rd) ok.1.1.1.0 in
    let within = protected_within realm base (yes_from _ ok.1.1.1.1.1.1.0) in
    let level = (served m (number_of m rd) realm proper.linked is).level in
    ordered_realm _ (number_of m rd) realm _ (number_inside m rd (yes_from (is_inside m rd) ok.1.1.0)) is refl (refl, refl, refl, refl)
    (ordered_table m (walk m realm base 3).table _ (place_table m proper.linked (number_of m rd) base 3 realm is within level) proper.ordered
    (ripas_halves m proper.linked proper.ordered.halves found.table (entry_index found.level base) (change_count m (init_changeable m.settings) found base top) Ram
    (place_table m proper.linked (number_of m rd) base 3 realm is within level) (change_count-few m (init_changeable m.settings) found base top)))

pub set_ripas_ordered : (rd rec base top : ℕ) (m : Machine) → IsProper m → Passed (rtt_set_ripas rd rec base top m).checks → IsOrdered (rtt_set_ripas rd rec base top m).machine
unfolding rtt_set_ripas with_ripas_from ripas_request_checks
set_ripas_ordered rd rec base top m proper ok =
    let realm : RmmRealm = realm_at m rd in
    let found : RttWalk = walk m realm base 3 in
    let is = realm_of-some (state_at m rd) ok.1.1.1.0 in
    let rec_is = rec_of-some (state_at m rec) ok.1.1.1.1.1.1.0 in
    let within = protected_within realm base (owned_protected realm (is_rec_of m rd rec) _ (nat_le top base) base ok.1.1.1.1.1.1.1.1.1.0 ok.0 (yes_from _ ok.1.1.1.1.1.1.1.1.1.1.1.0)) in
    let level = (served m (number_of m rd) realm proper.linked is).level in
    ordered_rec _ (number_of m rec) (rec_at m rec) _ (number_inside m rec (yes_from (is_inside m rec) ok.1.1.1.1.1.0)) rec_is
    (ordered_table m (walk m realm base 3).table _ (place_table m proper.linked (number_of m rd) base 3 realm is within level) proper.ordered
    (ripas_halves m proper.linked proper.ordered.halves found.table (entry_index found.level base) (change_count m (set_changeable (rec_at m rec).ripas) found base top) (rec_at m rec).ripas.ripas
    (place_table m proper.linked (number_of m rd) base 3 realm is within level) (change_count-few m (set_changeable (rec_at m rec).ripas) found base top)))

-- ---- memory

pub data_create_ordered : (rd target ipa source flags : ℕ) (m : Machine) → IsProper m → Passed (data_create rd target ipa source flags m).checks → IsOrdered (data_create rd target ipa source flags m).machine
unfolding data_create source_checks target_checks
data_create_ordered rd target ipa source flags m proper ok =
    let realm : RmmRealm = realm_at m rd in
    let is = realm_of-some (state_at m rd) ok.1.1.1.1.1.1.1.1.1.0 in
    let free = is_delegated-true (state_at m target) (yes_from (is_delegated (state_at m target)) ok.1.1.1.1.1.1.0) in
    let within = protected_within realm ipa (yes_from _ ok.1.1.1.1.1.1.1.1.1.1.1.0) in
    let level = (served m (number_of m rd) realm proper.linked is).level in
    let apart : number_of m rd ≢ number_of m target = λ same. (let t : state_at m rd ≡ state_at m target = ap (λ (g : ℕ). (granule_at m g).state) same in cc) in
    let still : (granule_at (with_granule m (number_of m target) (of_realm (number_of m rd) Data)) (number_of m rd)).state ≡ Rd realm =
    ap (λ (r : RmmGranule). r.state) (granule_at-other m (number_of m target) (number_of m rd) (of_realm (number_of m rd) Data) apart) ∙ is in
    let count = length-set m.granules (number_of m target) (of_realm (number_of m rd) Data) in
    let inside = number_inside m rd (yes_from (is_inside m rd) ok.1.1.1.1.1.1.1.1.0) in
    let target_in = number_inside m target (yes_from (is_inside m target) ok.1.1.1.1.1.0) in
    ordered_realm _ (number_of m rd) realm _ (subst (λ (n : ℕ). number_of m rd < n) (sym count) inside) still refl (refl, refl, refl, refl)
    (made m (number_of m target) (number_of m rd) (walk m realm ipa 3).table Data _ _ proper.linked.sound proper.ordered (number_inside m target (yes_from (is_inside m target) ok.1.1.1.1.1.0)) free refl (ap is_rd is)
    (place_table m proper.linked (number_of m rd) ipa 3 realm is within level)
    (mid_halves m proper.linked proper.ordered.halves (number_of m rd) ipa 3 realm is within level (number_of m target) (of_realm (number_of m rd) Data) (page_in m (number_of m source)) target_in free refl)
    (entry_beside m proper.linked proper.ordered.halves (number_of m rd) ipa 3 realm is within level (number_of m target) (of_realm (number_of m rd) Data) (page_in m (number_of m source)) target_in free
    (Assigned Ram target) refl refl (address_few m target proper.linked.sound (yes_from (is_inside m target) ok.1.1.1.1.1.0))
    (placed_page m.settings (walk m realm ipa 3).level Ram target proper.linked.sound.platform.block (eqb-true _ _ (yes_from _ ok.1.1.1.1.1.1.1.1.1.1.1.1.1.0))) (λ x some. free_half some x (entry_at m (walk m realm ipa 3) ipa) (yes_from _ ok.1.1.1.1.1.1.1.1.1.1.1.1.1.1.0))))

pub data_create_unknown_ordered : (rd target ipa : ℕ) (m : Machine) → IsProper m → Passed (data_create_unknown rd target ipa m).checks → IsOrdered (data_create_unknown rd target ipa m).machine
unfolding data_create_unknown
data_create_unknown_ordered rd target ipa m proper ok =
    let realm : RmmRealm = realm_at m rd in
    let is = realm_of-some (state_at m rd) ok.1.1.1.1.1.0 in
    let free = is_delegated-true (state_at m target) (yes_from (is_delegated (state_at m target)) ok.1.1.0) in
    let within = protected_within realm ipa (yes_from _ ok.1.1.1.1.1.1.1.0) in
    let level = (served m (number_of m rd) realm proper.linked is).level in
    made m (number_of m target) (number_of m rd) (walk m realm ipa 3).table Data _ _ proper.linked.sound proper.ordered (number_inside m target (yes_from (is_inside m target) ok.1.0)) free refl (ap is_rd is)
    (place_table m proper.linked (number_of m rd) ipa 3 realm is within level)
    (mid_halves m proper.linked proper.ordered.halves (number_of m rd) ipa 3 realm is within level (number_of m target) (of_realm (number_of m rd) Data) zero_page
    (number_inside m target (yes_from (is_inside m target) ok.1.0)) free refl)
    (entry_beside m proper.linked proper.ordered.halves (number_of m rd) ipa 3 realm is within level (number_of m target) (of_realm (number_of m rd) Data) zero_page
    (number_inside m target (yes_from (is_inside m target) ok.1.0)) free (Assigned (ripas_in (entry_at m (walk m realm ipa 3) ipa)) target) refl refl (address_few m target proper.linked.sound (yes_from (is_inside m target) ok.1.0))
    (placed_page m.settings (walk m realm ipa 3).level (ripas_in (entry_at m (walk m realm ipa 3) ipa)) target proper.linked.sound.platform.block (eqb-true _ _ (yes_from _ ok.1.1.1.1.1.1.1.1.0)))
    (λ x some. free_half some x (entry_at m (walk m realm ipa 3) ipa) (yes_from _ ok.1.1.1.1.1.1.1.1.1.0)))

-- The granule to which an entry of level 3 leads is a DATA granule of the realm.
module _ (m : Machine) (proper : IsLinked m) (rd ipa : ℕ) (is : (granule_at m (number_of m rd)).state ≡ Rd (realm_at m rd)) (within : ipa < 2 ^ (realm_at m rd).s2sz)
    (reaches : (walk m (realm_at m rd) ipa 3).level ≡ 3) (g : ℕ) (named : memory_below m (entry_at m (walk m (realm_at m rd) ipa 3) ipa) ≡ Some g) where
  pub memory_is : granule_at m g ≡ of_realm (number_of m rd) Data
  unfolding entry_at
  memory_is =
      let owner : Option ℕ = Some (number_of m rd) in
      let found : RttWalk = walk m (realm_at m rd) ipa 3 in
      let level = (served m (number_of m rd) (realm_at m rd) proper is).level in
      let end : IsPlace m proper (number_of m rd) ipa found = place_is m proper (number_of m rd) ipa 3 (realm_at m rd) is within level in
      let i : ℕ = entry_index found.level ipa in
      let entry : RmmRttEntry = entry_in_page (page_in m found.table) i in
      let one : entry_uses m owner found.level entry 0 ≡ Some (used Data owner 0 g) =
      subst (λ (l : ℕ). entry_uses m owner l entry 0 ≡ Some (used Data owner 0 g)) (sym reaches) (by_memory m owner entry g named).0 in
      let gives = uses-entry m proper (number_of m rd) ipa found i 0 end (entry_index-few found.level ipa) ∙ one in
      sym (ap (λ (u : Used). u.attributes) (right m proper found.table i 0 (used Data owner 0 g) gives))

pub data_destroy_ordered : (rd ipa : ℕ) (m : Machine) → IsProper m → Passed (data_destroy rd ipa m).checks → IsOrdered (data_destroy rd ipa m).machine
unfolding data_destroy
data_destroy_ordered rd ipa m proper ok =
    let realm : RmmRealm = realm_at m rd in
    let is = realm_of-some (state_at m rd) ok.1.1.0 in
    let within = protected_within realm ipa (yes_from _ ok.1.1.1.1.0) in
    let level = (served m (number_of m rd) realm proper.linked is).level in
    let reaches : (walk m realm ipa 3).level ≡ 3 = eqb-true _ _ (yes_from _ ok.1.1.1.1.1.0) in
    let below : Option ℕ = memory_below m (entry_at m (walk m realm ipa 3) ipa) in
    let it = memory_is m proper.linked rd ipa is within reaches (unwrap_or below 0) (some_of below (yes_from (is_some below) ok.1.1.1.1.1.1.0)) in
    let state : (granule_at m (unwrap_or below 0)).state ≡ Data = ap (λ (r : RmmGranule). r.state) it in
    freed m (unwrap_or below 0) (walk m realm ipa 3).table _ proper.linked.sound proper.ordered (taken_inside m (unwrap_or below 0) (λ free. cc)) (ap is_counter state)
    (place_table m proper.linked (number_of m rd) ipa 3 realm is within level)
    (entry_alike m proper.linked proper.ordered.halves (number_of m rd) ipa 3 realm is within level (Unassigned (left_ripas (ripas_in (entry_at m (walk m realm ipa 3) ipa)))) refl (omega arith) refl
    (λ x some. memory_half m some x (entry_at m (walk m realm ipa 3) ipa) (yes_from (is_some below) ok.1.1.1.1.1.1.0)))

-- ---- the host's memory

pub store_ordered : (m : Machine) (address word : ℕ) → IsOrdered m → IsOrdered (after_store m address word)
store_ordered m address word ordered =
    cond_both (can_access m address) (with_word m (number_of m address) (address % 4096 / 8) word) m IsOrdered
    (λ can. ordered_memory m (number_of m address) _ (ap is_memory_state (host_plain m address (and_parts (address % 8 == 0) (is_host_page m address) can).1)) ordered)
    (λ cannot. ordered)

pub fill_ordered : (m : Machine) (address value : ℕ) → IsOrdered m → IsOrdered (after_fill m address value)
fill_ordered m address value ordered =
    cond_both (can_fill m address) (with_page m (number_of m address) (page_of value)) m IsOrdered
    (λ can. ordered_memory m (number_of m address) (page_of value) (ap is_memory_state (host_plain m address (and_parts (is_aligned address) (is_host_page m address) can).1)) ordered)
    (λ cannot. ordered)
