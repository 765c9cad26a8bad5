-- Proofs that RMI_REALM_ACTIVATE, and commands that change data pages, host mappings or RIPAS, keep the invariant that
-- each granule has one role.
use Rattle.std.proofs.Common.{◌≡◌, ◌≢◌, ℕ, zero, suc, ◌+◌, ◌-◌, ◌*◌, ◌/◌, ◌%◌, ◌^◌, ◌<◌, ◌≤◌, ◌⊎◌, inl, inr, ◌&&◌, ◌||◌, Bool, true, false, not, List, length, Option, Some, None, option_map, unwrap_or, refl, sym, ap, subst, ◌∙◌, ⊎_elim, arith}
use Rattle.std.specs.Prelude.{IfSome, is_some, nat_le, nat_lt, if◌then◌else◌}
use Rattle.std.proofs.lemmas.Bool.{cases_eq, cases_lt, cond_both, cond-false, and_parts, or_cases, leb-true, ltb-true, eqb-true, le-ltb, both_ways}
use Rattle.std.proofs.lemmas.List.{length-set}
use Rattle.std.proofs.lemmas.Nat.{pow-add}
use Rattle.granule_addr.specs.Page.{zero_page}
use Rattle.page_arena.specs.Pages.{length-page_of}
use Rattle.page_arena.specs.Word.{word_of_page, page_with_word}
use Rattle.rmm_model.specs.declared.entry.Changeable.{Changeable}
use Rattle.rmm_model.specs.declared.entry.RmmRipas.{RmmRipas}
use Rattle.rmm_model.specs.declared.entry.RmmRipas.TheVariants.{Ram}
use Rattle.rmm_model.specs.declared.entry.RmmRttEntry.{RmmRttEntry}
use Rattle.rmm_model.specs.declared.entry.RmmRttEntry.TheVariants.{Unassigned, Assigned, Table, UnassignedNs, AssignedNs}
use Rattle.rmm_model.specs.declared.granule.RmmGranule.{RmmGranule}
use Rattle.rmm_model.specs.declared.granule.RmmGranuleState.{RmmGranuleState}
use Rattle.rmm_model.specs.declared.granule.RmmGranuleState.TheVariants.{Delegated, Rd, Data, Rtt}
use Rattle.rmm_model.specs.declared.realm.RmmRealm.{RmmRealm}
use Rattle.rmm_model.specs.declared.realm.RttWalk.{RttWalk}
use Rattle.rmm_model.specs.Entry.{entry_of, entry_word, descriptor_of, is_unassigned, is_unassigned_ns, is_assigned_ns, can_change, entry_with_ripas, ripas_in}
use Rattle.rmm_model.specs.Granule.{realm_of, of_realm, is_delegated}
use Rattle.rmm_model.specs.Level.{entry_size, entry_index}
use Rattle.rmm_model.specs.Machine.{Machine, granule_at, page_in, is_aligned, is_inside, number_of, state_at, with_granule, with_page, with_word}
use Rattle.rmm_model.specs.Realm.{IsServed, is_protected, is_unprotected, with_rim}
use Rattle.rmm_model.specs.Table.{entry_in_page, first_fixed, with_words_from}
use Rattle.rmm_model.specs.Walk.{entry_at, with_entry, granule_named, memory_below, walk}
use Rattle.rmm_model.specs.Command.Operand.{realm_at, rec_at, is_level}
use Rattle.rmm_model.specs.Command.DataCreate.{data_create, source_checks, target_checks, rim_with_data}
use Rattle.rmm_model.specs.Command.DataCreateUnknown.{data_create_unknown}
use Rattle.rmm_model.specs.Command.DataDestroy.{data_destroy, left_ripas}
use Rattle.rmm_model.specs.Command.RealmActivate.{realm_activate}
use Rattle.rmm_model.specs.Command.RipasRange.{entries_below, change_count, with_ripas_from}
use Rattle.rmm_model.specs.Command.RttInitRipas.{rtt_init_ripas, init_changeable, range_checks}
use Rattle.rmm_model.specs.Command.RttMapUnprotected.{rtt_map_unprotected, is_descriptor, has_attributes}
use Rattle.rmm_model.specs.Command.RttSetRipas.{rtt_set_ripas, ripas_request_checks, set_changeable, is_rec_of}
use Rattle.rmm_model.specs.Command.RttUnmapUnprotected.{rtt_unmap_unprotected}
use Rattle.rmm_laws.specs.Role.{Used, used, used_at, has_user, page_count, entry_uses, state_uses, IsLinked, LeadsInside}
use Rattle.rmm_laws.proofs.Entries.{number_inside, address_few, begins, named_inside, entry-same, entry-other}
use Rattle.rmm_laws.proofs.EntryWords.{entry_of-entry_word, entry_word-fits, descriptor-few}
use Rattle.rmm_laws.proofs.Keeping.{keep_page}
use Rattle.rmm_laws.proofs.Mapped.{mapped, unmapped}
use Rattle.rmm_laws.proofs.PageWords.{length-page_with_word, length-with_words_from, word_of_page-with_words_from_same, word_of_page-with_words_from_other}
use Rattle.rmm_laws.proofs.Passed.{Passed, yes_from, is_delegated-true, realm_of-some, rec_of-some}
use Rattle.rmm_laws.proofs.Recs.{keep_realm, keep_rec}
use Rattle.rmm_laws.proofs.Walks.{IsPlace, walk_ends, right, uses-entry, entry_index-few}
use Rattle.rmm_laws.proofs.Writes.{is_user, uses-plain, taken_inside, page_in-same, granule_at-other}

-- ---- places

pub served : (m : Machine) (rd : ℕ) (realm : RmmRealm) → IsLinked m → (granule_at m rd).state ≡ Rd realm → IsServed (length m.granules) realm
served m rd realm proper is = subst (λ (s : RmmGranuleState). IfSome (realm_of s) (IsServed (length m.granules))) is (proper.sound.tables.each rd)

pub half : (s ipa : ℕ) → ipa < 2 ^ (s - 1) → ipa < 2 ^ s
half s ipa lt =
    ⊎_elim
    (λ (some : 0 < s).
    let one : s - 1 + 1 ≡ s = omega arith in
    let double : 2 ^ (s - 1 + 1) ≡ 2 ^ (s - 1) * 2 = pow-add 2 (s - 1) 1 in
    let same : 2 ^ (s - 1 + 1) ≡ 2 ^ s = ap (λ (n : ℕ). 2 ^ n) one in
    omega arith)
    (λ (none : s ≤ 0).
    let zero : s ≡ s - 1 = omega arith in
    let same : 2 ^ s ≡ 2 ^ (s - 1) = ap (λ (n : ℕ). 2 ^ n) zero in
    omega arith)
    (cases_lt 0 s)

pub protected_within : (realm : RmmRealm) (ipa : ℕ) → is_protected realm ipa ≡ true → ipa < 2 ^ realm.s2sz
protected_within realm ipa sure = half realm.s2sz ipa (ltb-true _ _ sure)

-- ---- one table's page

module _ (m : Machine) (t : ℕ) (page : List ℕ) (proper : IsLinked m) (is : (granule_at m t).state ≡ Rtt) (whole : length page ≡ 4096)
    (same : (owner : Option ℕ) (level j k : ℕ) → j < 512 → entry_uses m owner level (entry_in_page page j) k ≡ entry_uses m owner level (entry_in_page (page_in m t) j) k)
    (leads : (j : ℕ) → j < 512 → LeadsInside m (entry_in_page page j)) where
  by_index : (owner : Option ℕ) (level j k : ℕ)
      → (if nat_lt j 512 then entry_uses m owner level (entry_in_page page j) k else None) ≡ (if nat_lt j 512 then entry_uses m owner level (entry_in_page (page_in m t) j) k else None)
  by_index owner level j k =
      ⊎_elim
      (λ (lt : j < 512). ap (λ (o : Option Used). if nat_lt j 512 then o else None) (same owner level j k lt))
      (λ (past : 512 ≤ j). cond-false _ _ _ (le-ltb j 512 past) ∙ sym (cond-false _ _ _ (le-ltb j 512 past)))
      (cases_lt j 512)

  pub keep_table_page : IsLinked (with_page m t page)
  keep_table_page =
      keep_page m t page proper (taken_inside m t (λ free. cc)) whole
      (λ owner level j k.
      ap (λ (s : RmmGranuleState). state_uses m s owner level page t j k) is
      ∙ by_index owner level j k
      ∙ sym (ap (λ (s : RmmGranuleState). state_uses m s owner level (page_in m t) t j k) is))
      (λ table. leads)

-- Entry `i` of table `t` is replaced by an entry that uses the same granules.
module _ (m : Machine) (t i : ℕ) (entry : RmmRttEntry) (proper : IsLinked m) (is : (granule_at m t).state ≡ Rtt) (index : i < 512) (fits : descriptor_of entry < 2 ^ 48)
    (same : (owner : Option ℕ) (level k : ℕ) → entry_uses m owner level entry k ≡ entry_uses m owner level (entry_in_page (page_in m t) i) k) (leads : LeadsInside m entry) where
  abbrev page : List ℕ
  page = page_with_word (page_in m t) i (entry_word entry)

  t_in : t < length m.granules
  t_in = taken_inside m t (λ free. cc)

  there : page_in (with_word m t i (entry_word entry)) t ≡ page
  there = let p = proper.sound.pages in let lt = t_in in page_in-same m t page (omega arith)

  entry_there : entry_in_page page i ≡ entry
  entry_there = sym (ap (λ (p : List ℕ). entry_in_page p i) there) ∙ entry-same m t i entry proper.sound t_in index fits

  entry_beside : (j : ℕ) → j < 512 → j ≢ i → entry_in_page page j ≡ entry_in_page (page_in m t) j
  entry_beside j lt ne = sym (ap (λ (p : List ℕ). entry_in_page p j) there) ∙ entry-other m t i entry proper.sound t_in index j lt ne

  pub keep_entry : IsLinked (with_word m t i (entry_word entry))
  keep_entry =
      keep_table_page m t page proper is (length-page_with_word (page_in m t) i (entry_word entry) (proper.sound.whole t t_in) index)
      (λ owner level j k lt. ⊎_elim
      (λ (here : j ≡ i).
      subst (λ (x : ℕ). entry_uses m owner level (entry_in_page page x) k ≡ entry_uses m owner level (entry_in_page (page_in m t) x) k) (sym here)
      (ap (λ (e : RmmRttEntry). entry_uses m owner level e k) entry_there ∙ same owner level k))
      (λ (other : j ≢ i). ap (λ (e : RmmRttEntry). entry_uses m owner level e k) (entry_beside j lt other))
      (cases_eq j i))
      (λ j lt. ⊎_elim
      (λ (here : j ≡ i). subst (λ (x : ℕ). LeadsInside m (entry_in_page page x)) (sym here) (subst (LeadsInside m) (sym entry_there) leads))
      (λ (other : j ≢ i). subst (LeadsInside m) (sym (entry_beside j lt other)) (proper.inside t j is lt))
      (cases_eq j i))

-- ---- entries that use nothing

pub unassigned_uses : (m : Machine) (owner : Option ℕ) (level k : ℕ) (entry : RmmRttEntry) → is_unassigned entry ≡ true → entry_uses m owner level entry k ≡ None
unassigned_uses m owner level k (Unassigned ripas) is = refl
unassigned_uses m owner level k _ is = absurd (cc)

unassigned_ns_uses : (m : Machine) (owner : Option ℕ) (level k : ℕ) (entry : RmmRttEntry) → is_unassigned_ns entry ≡ true → entry_uses m owner level entry k ≡ None
unassigned_ns_uses m owner level k UnassignedNs is = refl
unassigned_ns_uses m owner level k _ is = absurd (cc)

assigned_ns_uses : (m : Machine) (owner : Option ℕ) (level k : ℕ) (entry : RmmRttEntry) → is_assigned_ns entry ≡ true → entry_uses m owner level entry k ≡ None
assigned_ns_uses m owner level k (AssignedNs desc) is = refl
assigned_ns_uses m owner level k _ is = absurd (cc)

-- ---- mappings of the host's

module _ (m : Machine) (proper : IsLinked m) (rd ipa level : ℕ) (realm : RmmRealm) (is : (granule_at m rd).state ≡ Rd realm) (within : ipa < 2 ^ realm.s2sz) (least : realm.start_level ≤ level) where
  abbrev place : RttWalk
  place = walk m realm ipa level

  pub place_is : IsPlace m proper rd ipa (walk m realm ipa level)
  place_is = (walk_ends m proper rd ipa realm level is within least).place_is

  pub place_table : (granule_at m (walk m realm ipa level).table).state ≡ Rtt
  place_table = ap (λ (r : RmmGranule). r.state) place_is.table

  keep_free_entry : (entry : RmmRttEntry) → descriptor_of entry < 2 ^ 48 → ((owner : Option ℕ) (l k : ℕ) → entry_uses m owner l entry k ≡ None)
      → ((owner : Option ℕ) (l k : ℕ) → entry_uses m owner l (entry_at m (walk m realm ipa level) ipa) k ≡ None) → LeadsInside m entry → IsLinked (with_entry m (walk m realm ipa level) ipa entry)
  unfolding entry_at
  keep_free_entry entry fits new old leads =
      keep_entry m place.table (entry_index place.level ipa) entry proper place_table (entry_index-few place.level ipa) fits
      (λ owner l k. new owner l k ∙ sym (old owner l k)) leads

pub unprotected_within : (realm : RmmRealm) (ipa : ℕ) → is_unprotected realm ipa ≡ true → ipa < 2 ^ realm.s2sz
unprotected_within realm ipa sure = ltb-true _ _ (and_parts _ _ sure).1

pub host_mapped : (rd ipa level desc : ℕ) (m : Machine) → IsLinked m → Passed (rtt_map_unprotected rd ipa level desc m).checks → IsLinked (rtt_map_unprotected rd ipa level desc m).machine
unfolding rtt_map_unprotected is_descriptor
host_mapped rd ipa level desc m proper ok =
    let realm : RmmRealm = realm_at m rd in
    let is = realm_of-some (state_at m rd) ok.1.1.0 in
    let levels = and_parts (nat_le m.settings.block_level level) (is_level realm.start_level level) (yes_from _ ok.1.1.1.0) in
    let least = leb-true _ _ (and_parts (nat_le realm.start_level level) (nat_le level 3) levels.1).0 in
    let within = unprotected_within realm ipa (yes_from _ ok.1.1.1.1.1.0) in
    let attributes = (and_parts (has_attributes m.settings desc) _ (yes_from _ ok.1.1.1.1.1.1.0)).0 in
    let fits : desc < 2 ^ 48 = ltb-true _ _ (and_parts _ _ (and_parts _ _ (and_parts _ _ (and_parts _ _ (and_parts _ _ attributes).0).0).0).0).0 in
    let free = yes_from _ ok.1.1.1.1.1.1.1.1.0 in
    keep_free_entry m proper (number_of m rd) ipa level realm is within least (AssignedNs desc) fits (λ owner l k. refl)
    (λ owner l k. unassigned_ns_uses m owner l k (entry_at m (walk m realm ipa level) ipa) free) tt

pub host_unmapped : (rd ipa level : ℕ) (m : Machine) → IsLinked m → Passed (rtt_unmap_unprotected rd ipa level m).checks → IsLinked (rtt_unmap_unprotected rd ipa level m).machine
unfolding rtt_unmap_unprotected
host_unmapped rd ipa level m proper ok =
    let realm : RmmRealm = realm_at m rd in
    let is = realm_of-some (state_at m rd) ok.1.1.0 in
    let levels = and_parts (nat_le m.settings.block_level level) (is_level realm.start_level level) (yes_from _ ok.1.1.1.0) in
    let least = leb-true _ _ (and_parts (nat_le realm.start_level level) (nat_le level 3) levels.1).0 in
    let within = unprotected_within realm ipa (yes_from _ ok.1.1.1.1.1.0) in
    let mapped = yes_from _ ok.1.1.1.1.1.1.1.0 in
    keep_free_entry m proper (number_of m rd) ipa level realm is within least UnassignedNs (omega arith) (λ owner l k. refl)
    (λ owner l k. assigned_ns_uses m owner l k (entry_at m (walk m realm ipa level) ipa) mapped) tt

-- ---- RIPAS

ripas_uses : (m : Machine) (owner : Option ℕ) (level k : ℕ) (ripas : RmmRipas) (entry : RmmRttEntry) → entry_uses m owner level (entry_with_ripas ripas entry) k ≡ entry_uses m owner level entry k
ripas_uses m owner level k ripas (Unassigned old) = refl
ripas_uses m owner level k ripas (Assigned old address) = refl
ripas_uses m owner level k ripas (Table address) = refl
ripas_uses m owner level k ripas UnassignedNs = refl
ripas_uses m owner level k ripas (AssignedNs desc) = refl

ripas_leads : (m : Machine) (ripas : RmmRipas) (entry : RmmRttEntry) → LeadsInside m entry → LeadsInside m (entry_with_ripas ripas entry)
ripas_leads m ripas (Unassigned old) leads = tt
ripas_leads m ripas (Assigned old address) leads = leads
ripas_leads m ripas (Table address) leads = leads
ripas_leads m ripas UnassignedNs leads = tt
ripas_leads m ripas (AssignedNs desc) leads = tt

ripas_descriptor : (ripas : RmmRipas) (entry : RmmRttEntry) → descriptor_of (entry_with_ripas ripas entry) ≡ descriptor_of entry
ripas_descriptor ripas (Unassigned old) = refl
ripas_descriptor ripas (Assigned old address) = refl
ripas_descriptor ripas (Table address) = refl
ripas_descriptor ripas UnassignedNs = refl
ripas_descriptor ripas (AssignedNs desc) = refl

pub first_fixed-most : (changeable : Changeable) (page : List ℕ) (count i : ℕ) → first_fixed changeable page count i ≤ i + count
unfolding first_fixed
first_fixed-most changeable page zero i = omega arith
first_fixed-most changeable page (suc count) i =
    cond_both (can_change changeable (entry_in_page page i)) _ i (λ (x : ℕ). x ≤ i + suc count) (λ sure. (let rest = first_fixed-most changeable page count (i + 1) in omega arith)) (λ never. omega arith)

pub change_count-few : (m : Machine) (changeable : Changeable) (found : RttWalk) (base top : ℕ) → entry_index found.level base + change_count m changeable found base top ≤ 512
unfolding change_count entries_below
change_count-few m changeable found base top =
    let first : ℕ = entry_index found.level base in
    let few = entry_index-few found.level base in
    let below : ℕ = entries_below found base top in
    let rest : below ≤ 512 - first = cond_both (nat_le ((top - base) / entry_size found.level) (512 - first)) _ _ (λ (x : ℕ). x ≤ 512 - first) (λ sure. leb-true _ _ sure) (λ never. omega arith) in
    let most = first_fixed-most changeable (page_in m found.table) below first in
    omega arith

module _ (m : Machine) (t first count : ℕ) (ripas : RmmRipas) (proper : IsLinked m) (is : (granule_at m t).state ≡ Rtt) (few : first + count ≤ 512) where
  abbrev new_word : ℕ → ℕ
  new_word j = entry_word (entry_with_ripas ripas (entry_in_page (page_in m t) j))

  abbrev ripas_page : List ℕ
  ripas_page = with_words_from first count new_word (page_in m t)

  whole_page : length (page_in m t) ≡ 4096
  whole_page = proper.sound.whole t (taken_inside m t (λ free. cc))

  entry_few : (j : ℕ) → descriptor_of (entry_with_ripas ripas (entry_in_page (page_in m t) j)) < 2 ^ 48
  unfolding entry_in_page
  entry_few j = subst (λ (d : ℕ). d < 2 ^ 48) (sym (ripas_descriptor ripas (entry_in_page (page_in m t) j))) (descriptor-few (word_of_page (page_in m t) j))

  pub entry_changed : (j : ℕ) → first ≤ j → j < first + count → entry_in_page ripas_page j ≡ entry_with_ripas ripas (entry_in_page (page_in m t) j)
  unfolding entry_in_page
  entry_changed j low high =
      ap entry_of (word_of_page-with_words_from_same first new_word (page_in m t) whole_page count j few low high (entry_word-fits (entry_with_ripas ripas (entry_in_page (page_in m t) j))))
      ∙ entry_of-entry_word (entry_with_ripas ripas (entry_in_page (page_in m t) j)) (entry_few j)

  pub entry_kept : (j : ℕ) → j < 512 → (j < first) ⊎ (first + count ≤ j) → entry_in_page ripas_page j ≡ entry_in_page (page_in m t) j
  unfolding entry_in_page
  entry_kept j lt beside = ap entry_of (word_of_page-with_words_from_other first new_word (page_in m t) whole_page count j few lt beside)

  pub changed_or_kept : (j : ℕ) → ((first ≤ j) × (j < first + count)) ⊎ ((j < first) ⊎ (first + count ≤ j))
  changed_or_kept j =
      ⊎_elim (λ (below : j < first). inr (inl below))
      (λ (low : first ≤ j). ⊎_elim (λ (high : j < first + count). inl (low, high)) (λ (past : first + count ≤ j). inr (inr past)) (cases_lt j (first + count)))
      (cases_lt j first)

  pub keep_ripas : IsLinked (with_ripas_from m t first ripas count)
  unfolding with_ripas_from
  keep_ripas =
      keep_table_page m t ripas_page proper is (length-with_words_from first new_word (page_in m t) whole_page count few)
      (λ owner level j k lt. ⊎_elim
      (λ (changed : (first ≤ j) × (j < first + count)).
      ap (λ (e : RmmRttEntry). entry_uses m owner level e k) (entry_changed j changed.0 changed.1) ∙ ripas_uses m owner level k ripas (entry_in_page (page_in m t) j))
      (λ (kept : (j < first) ⊎ (first + count ≤ j)). ap (λ (e : RmmRttEntry). entry_uses m owner level e k) (entry_kept j lt kept))
      (changed_or_kept j))
      (λ j lt. ⊎_elim
      (λ (changed : (first ≤ j) × (j < first + count)). subst (LeadsInside m) (sym (entry_changed j changed.0 changed.1)) (ripas_leads m ripas (entry_in_page (page_in m t) j) (proper.inside t j is lt)))
      (λ (kept : (j < first) ⊎ (first + count ≤ j)). subst (LeadsInside m) (sym (entry_kept j lt kept)) (proper.inside t j is lt))
      (changed_or_kept j))

pub ripas_inited : (rd base top : ℕ) (m : Machine) → IsLinked m → Passed (rtt_init_ripas rd base top m).checks → IsLinked (rtt_init_ripas rd base top m).machine
unfolding rtt_init_ripas with_ripas_from range_checks
ripas_inited rd base top m proper ok =
    let realm : RmmRealm = realm_at m rd in
    let is = realm_of-some (state_at m rd) ok.1.1.1.0 in
    let within = protected_within realm base (yes_from _ ok.1.1.1.1.1.1.0) in
    let s = served m (number_of m rd) realm proper is in
    let table = place_table m proper (number_of m rd) base 3 realm is within s.level in
    let found : RttWalk = walk m realm base 3 in
    let kept = keep_ripas m found.table (entry_index found.level base) (change_count m (init_changeable m.settings) found base top) Ram proper table (change_count-few m (init_changeable m.settings) found base top) in
    keep_realm _ (number_of m rd) realm _ kept is refl refl refl (record { few = s.few; inside = s.inside; most = s.most; level = s.level; width = s.width; served = s.served })

pub second_holds : (b c : Bool) → b ≡ false → (b || c) ≡ true → c ≡ true
second_holds b c none either = ⊎_elim (λ (never : b ≡ true). absurd (both_ways b none never)) (λ (sure : c ≡ true). sure) (or_cases b c either)

pub owned_protected : (realm : RmmRealm) (b c d : Bool) (base : ℕ) → not b ≡ false → d ≡ false → (c && (not b || (d || is_protected realm base))) ≡ true → is_protected realm base ≡ true
owned_protected realm b c d base owns some is =
    second_holds d (is_protected realm base) some (second_holds (not b) (d || is_protected realm base) owns (and_parts c (not b || (d || is_protected realm base)) is).1)

pub ripas_set : (rd rec base top : ℕ) (m : Machine) → IsLinked m → Passed (rtt_set_ripas rd rec base top m).checks → IsLinked (rtt_set_ripas rd rec base top m).machine
unfolding rtt_set_ripas with_ripas_from ripas_request_checks
ripas_set rd rec base top m proper ok =
    let realm : RmmRealm = realm_at m rd in
    let is = realm_of-some (state_at m rd) ok.1.1.1.0 in
    let rec_is = rec_of-some (state_at m rec) ok.1.1.1.1.1.1.0 in
    let within = protected_within realm base (owned_protected realm (is_rec_of m rd rec) _ (nat_le top base) base ok.1.1.1.1.1.1.1.1.1.0 ok.0 (yes_from _ ok.1.1.1.1.1.1.1.1.1.1.1.0)) in
    let s = served m (number_of m rd) realm proper is in
    let table = place_table m proper (number_of m rd) base 3 realm is within s.level in
    let found : RttWalk = walk m realm base 3 in
    let changeable : Changeable = set_changeable (rec_at m rec).ripas in
    let kept = keep_ripas m found.table (entry_index found.level base) (change_count m changeable found base top) (rec_at m rec).ripas.ripas proper table (change_count-few m changeable found base top) in
    keep_rec _ (number_of m rec) (rec_at m rec) _ kept rec_is

pub activated : (rd : ℕ) (m : Machine) → IsLinked m → Passed (realm_activate rd m).checks → IsLinked (realm_activate rd m).machine
unfolding realm_activate
activated rd m proper ok =
    let is = realm_of-some (state_at m rd) ok.1.1.0 in
    let s = served m (number_of m rd) (realm_at m rd) proper is in
    keep_realm m (number_of m rd) (realm_at m rd) _ proper is refl refl refl (record { few = s.few; inside = s.inside; most = s.most; level = s.level; width = s.width; served = s.served })

-- ---- memory

-- an entry of level 3 covers one page
one_page : page_count 3 ≡ 1
unfolding entry_size
one_page = refl

page_uses : (m : Machine) (owner : Option ℕ) (ripas : RmmRipas) (address k : ℕ) → entry_uses m owner 3 (Assigned ripas address) k ≡ (if nat_lt k 1 then option_map (λ f. used Data owner 0 (f + k)) (granule_named m address) else None)
page_uses m owner ripas address k = ap (λ (n : ℕ). if nat_lt k n then option_map (λ f. used Data owner 0 (f + k)) (granule_named m address) else None) one_page

page_first : (m : Machine) (owner : Option ℕ) (ripas : RmmRipas) (address g : ℕ) → granule_named m address ≡ Some g → entry_uses m owner 3 (Assigned ripas address) 0 ≡ Some (used Data owner 0 g)
page_first m owner ripas address g named =
    let none : g + 0 ≡ g = omega arith in
    page_uses m owner ripas address 0 ∙ ap (option_map (λ f. used Data owner 0 (f + 0))) named ∙ ap (λ (h : ℕ). Some (used Data owner 0 h)) none

page_others : (m : Machine) (owner : Option ℕ) (ripas : RmmRipas) (address k : ℕ) → k ≢ 0 → entry_uses m owner 3 (Assigned ripas address) k ≡ None
page_others m owner ripas address k rest = page_uses m owner ripas address k ∙ cond-false _ _ _ (le-ltb k 1 (omega arith))

module _ (m : Machine) (proper : IsLinked m) (rd target ipa : ℕ) (is : (granule_at m (number_of m rd)).state ≡ Rd (realm_at m rd)) (inside : is_inside m target ≡ true) (aligned : target % 4096 ≡ 0)
    (free : state_at m target ≡ Delegated) (protected : is_protected (realm_at m rd) ipa ≡ true) (reaches : (walk m (realm_at m rd) ipa 3).level ≡ 3)
    (vacant : is_unassigned (entry_at m (walk m (realm_at m rd) ipa 3) ipa) ≡ true) (content : List ℕ) (whole : length content ≡ 4096) (ripas : RmmRipas) where
  abbrev found : RttWalk
  found = walk m (realm_at m rd) ipa 3

  memory_mapped : IsLinked (with_entry (with_granule (with_page m (number_of m target) content) (number_of m target) (of_realm (number_of m rd) Data)) (walk m (realm_at m rd) ipa 3) ipa (Assigned ripas target))
  memory_mapped =
      let s = served m (number_of m rd) (realm_at m rd) proper is in
      let end = place_is m proper (number_of m rd) ipa 3 (realm_at m rd) is (protected_within (realm_at m rd) ipa protected) s.level in
      let named = named_inside m target inside in
      mapped m proper (number_of m rd) ipa found end (number_of m target) (number_inside m target inside) free Data content whole (Assigned ripas target)
      tt (address_few m target proper.sound inside) refl
      (λ k. unassigned_uses m (Some (number_of m rd)) found.level k (entry_at m found ipa) vacant)
      (subst (λ (l : ℕ). entry_uses m (Some (number_of m rd)) l (Assigned ripas target) 0 ≡ Some (used Data (Some (number_of m rd)) 0 (number_of m target))) (sym reaches)
      (page_first m (Some (number_of m rd)) ripas target (number_of m target) named))
      (λ k rest. subst (λ (l : ℕ). entry_uses m (Some (number_of m rd)) l (Assigned ripas target) k ≡ None) (sym reaches) (page_others m (Some (number_of m rd)) ripas target k rest))
      (λ j k. refl)
      (λ table. absurd (cc))
      (begins m target proper.sound inside aligned)
      (λ table. absurd (cc))

pub data_made : (rd target ipa source flags : ℕ) (m : Machine) → IsLinked m → Passed (data_create rd target ipa source flags m).checks → IsLinked (data_create rd target ipa source flags m).machine
unfolding data_create source_checks target_checks
data_made rd target ipa source flags m proper ok =
    let realm : RmmRealm = realm_at m rd in
    let is = realm_of-some (state_at m rd) ok.1.1.1.1.1.1.1.1.1.0 in
    let aligned : target % 4096 ≡ 0 = eqb-true _ _ (yes_from (is_aligned target) ok.1.1.1.1.0) in
    let inside : is_inside m target ≡ true = yes_from (is_inside m target) ok.1.1.1.1.1.0 in
    let free = is_delegated-true (state_at m target) (yes_from (is_delegated (state_at m target)) ok.1.1.1.1.1.1.0) in
    let protected = yes_from _ ok.1.1.1.1.1.1.1.1.1.1.1.0 in
    let reaches : (walk m realm ipa 3).level ≡ 3 = eqb-true _ _ (yes_from _ ok.1.1.1.1.1.1.1.1.1.1.1.1.1.0) in
    let vacant = yes_from _ ok.1.1.1.1.1.1.1.1.1.1.1.1.1.1.0 in
    let content : List ℕ = page_in m (number_of m source) in
    let source_inside = number_inside m source (yes_from (is_inside m source) ok.1.1.0) in
    let kept = memory_mapped m proper rd target ipa is inside aligned free protected reaches vacant content (proper.sound.whole (number_of m source) source_inside) Ram in
    let s = served m (number_of m rd) realm proper is in
    let apart : number_of m rd ≢ number_of m target = λ same. (let t : state_at m rd ≡ state_at m target = ap (λ (g : ℕ). (granule_at m g).state) same in cc) in
    let still : (granule_at (with_granule m (number_of m target) (of_realm (number_of m rd) Data)) (number_of m rd)).state ≡ Rd realm =
    ap (λ (r : RmmGranule). r.state) (granule_at-other m (number_of m target) (number_of m rd) (of_realm (number_of m rd) Data) apart) ∙ is in
    let count = length-set m.granules (number_of m target) (of_realm (number_of m rd) Data) in
    keep_realm _ (number_of m rd) realm _ kept still refl refl refl
    (subst (λ (n : ℕ). IsServed n (with_rim realm (rim_with_data realm ipa flags content))) (sym count) (record { few = s.few; inside = s.inside; most = s.most; level = s.level; width = s.width; served = s.served }))

pub unknown_made : (rd target ipa : ℕ) (m : Machine) → IsLinked m → Passed (data_create_unknown rd target ipa m).checks → IsLinked (data_create_unknown rd target ipa m).machine
unfolding data_create_unknown
unknown_made rd target ipa m proper ok =
    let realm : RmmRealm = realm_at m rd in
    let aligned : target % 4096 ≡ 0 = eqb-true _ _ (yes_from (is_aligned target) ok.0) in
    let inside : is_inside m target ≡ true = yes_from (is_inside m target) ok.1.0 in
    let free = is_delegated-true (state_at m target) (yes_from (is_delegated (state_at m target)) ok.1.1.0) in
    let is = realm_of-some (state_at m rd) ok.1.1.1.1.1.0 in
    let protected = yes_from _ ok.1.1.1.1.1.1.1.0 in
    let reaches : (walk m realm ipa 3).level ≡ 3 = eqb-true _ _ (yes_from _ ok.1.1.1.1.1.1.1.1.0) in
    let vacant = yes_from _ ok.1.1.1.1.1.1.1.1.1.0 in
    memory_mapped m proper rd target ipa is inside aligned free protected reaches vacant zero_page (length-page_of 0) (ripas_in (entry_at m (walk m realm ipa 3) ipa))

-- ---- memory that is destroyed

pub by_memory : (m : Machine) (owner : Option ℕ) (entry : RmmRttEntry) (g : ℕ) → memory_below m entry ≡ Some g
    → (entry_uses m owner 3 entry 0 ≡ Some (used Data owner 0 g)) × ((k : ℕ) → k ≢ 0 → entry_uses m owner 3 entry k ≡ None)
by_memory m owner (Assigned ripas address) g named = (page_first m owner ripas address g named, λ k rest. page_others m owner ripas address k rest)
by_memory m owner _ g named = absurd (cc)

pub some_of : (o : Option ℕ) → is_some o ≡ true → o ≡ Some (unwrap_or o 0)
some_of (Some g) is = refl
some_of None is = absurd (cc)

pub data_gone : (rd ipa : ℕ) (m : Machine) → IsLinked m → Passed (data_destroy rd ipa m).checks → IsLinked (data_destroy rd ipa m).machine
unfolding data_destroy entry_at
data_gone rd ipa m proper ok =
    let realm : RmmRealm = realm_at m rd in
    let is = realm_of-some (state_at m rd) ok.1.1.0 in
    let s = served m (number_of m rd) realm proper is in
    let within = protected_within realm ipa (yes_from _ ok.1.1.1.1.0) in
    let found : RttWalk = walk m realm ipa 3 in
    let end : IsPlace m proper (number_of m rd) ipa found = place_is m proper (number_of m rd) ipa 3 realm is within s.level in
    let reaches : found.level ≡ 3 = eqb-true _ _ (yes_from _ ok.1.1.1.1.1.0) in
    let i : ℕ = entry_index found.level ipa in
    let entry : RmmRttEntry = entry_in_page (page_in m found.table) i in
    let g : ℕ = unwrap_or (memory_below m entry) 0 in
    let named : memory_below m entry ≡ Some g = some_of (memory_below m entry) (yes_from _ ok.1.1.1.1.1.1.0) in
    let both = by_memory m (Some (number_of m rd)) entry g named in
    let one : entry_uses m (Some (number_of m rd)) found.level entry 0 ≡ Some (used Data (Some (number_of m rd)) 0 g) =
    subst (λ (l : ℕ). entry_uses m (Some (number_of m rd)) l entry 0 ≡ Some (used Data (Some (number_of m rd)) 0 g)) (sym reaches) both.0 in
    let gives = uses-entry m proper (number_of m rd) ipa found i 0 end (entry_index-few found.level ipa) ∙ one in
    let it : used Data (Some (number_of m rd)) 0 g ≡ used_at m proper.level g = right m proper found.table i 0 (used Data (Some (number_of m rd)) 0 g) gives in
    let target : (granule_at m g).state ≡ Data = sym (ap (λ (u : Used). u.attributes.state) it) in
    let apart : found.table ≢ g = λ same. (
    let table : (granule_at m found.table).state ≡ Rtt = ap (λ (r : RmmGranule). r.state) end.table in
    let states : (granule_at m found.table).state ≡ (granule_at m g).state = ap (λ (h : ℕ). (granule_at m h).state) same in
    cc) in
    unmapped m proper (number_of m rd) ipa found end g (Unassigned (left_ripas (ripas_in entry))) (taken_inside m g (λ free. cc)) apart (omega arith) (ap has_user target) tt
    (λ k. refl)
    (one ∙ ap (λ (u : Used). Some u) it)
    (λ k rest. subst (λ (l : ℕ). entry_uses m (Some (number_of m rd)) l entry k ≡ None) (sym reaches) (both.1 k rest))
    (λ j k. uses-plain m proper.level g j k (ap is_user target))
