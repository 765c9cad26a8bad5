-- Proofs that each call on a realm changes the RIPAS of protected addresses only as `KeepsRipas` allows.
use Rattle.std.proofs.Common.{◌≡◌, ◌≢◌, ℕ, ◌+◌, ◌/◌, ◌%◌, ◌^◌, ◌<◌, ◌≤◌, ◌⊎◌, inl, inr, true, false, List, length, Some, None, unwrap_or, refl, sym, ap, subst, ◌∙◌, arith}
use Rattle.std.specs.Prelude.{nat_le}
use Rattle.std.proofs.lemmas.Bool.{and_parts, eqb-true, leb-true}
use Rattle.granule_addr.specs.Page.{zero_page}
use Rattle.page_arena.specs.Word.{page_with_word}
use Rattle.rmi_abi.specs.declared.call.Call.{Call}
use Rattle.rmi_abi.specs.declared.call.Call.TheVariants.{DataCreate, DataCreateUnknown, DataDestroy, RttMapUnprotected, RttUnmapUnprotected, RttInitRipas, RttSetRipas}
use Rattle.rmm_model.specs.declared.entry.Changeable.{Changeable}
use Rattle.rmm_model.specs.declared.entry.RmmRipas.{RmmRipas}
use Rattle.rmm_model.specs.declared.entry.RmmRipas.TheVariants.{Empty, Ram, Destroyed}
use Rattle.rmm_model.specs.declared.entry.RmmRttEntry.{RmmRttEntry}
use Rattle.rmm_model.specs.declared.entry.RmmRttEntry.TheVariants.{Unassigned, Assigned}
use Rattle.rmm_model.specs.declared.granule.RmmGranule.{RmmGranule}
use Rattle.rmm_model.specs.declared.granule.RmmGranuleState.TheVariants.{Delegated, Data, Rd, Rtt}
use Rattle.rmm_model.specs.declared.realm.RmmRealm.{RmmRealm}
use Rattle.rmm_model.specs.declared.realm.RttWalk.{RttWalk}
use Rattle.rmm_model.specs.declared.rec.RipasRequest.{RipasRequest}
use Rattle.rmm_model.specs.Entry.{entry_word, can_change, is_ram, is_table, is_unassigned, ripas_in}
use Rattle.rmm_model.specs.Granule.{of_no_realm, of_realm, is_delegated}
use Rattle.rmm_model.specs.Level.{entry_size, entry_index}
use Rattle.rmm_model.specs.Machine.{Machine, granule_at, page_in, number_of, state_at, with_granule, with_page}
use Rattle.rmm_model.specs.Realm.{is_protected, is_new}
use Rattle.rmm_model.specs.Table.{entry_in_page}
use Rattle.rmm_model.specs.Walk.{entry_at, with_entry, memory_below, walk, table_below}
use Rattle.rmm_model.specs.Command.DataCreate.{data_create, source_checks, target_checks}
use Rattle.rmm_model.specs.Command.DataCreateUnknown.{data_create_unknown}
use Rattle.rmm_model.specs.Command.DataDestroy.{data_destroy, left_ripas}
use Rattle.rmm_model.specs.Command.Operand.{realm_at, rec_at}
use Rattle.rmm_model.specs.Command.RipasRange.{change_count, with_ripas_from}
use Rattle.rmm_model.specs.Command.RttInitRipas.{rtt_init_ripas, range_checks, init_changeable}
use Rattle.rmm_model.specs.Command.RttMapUnprotected.{rtt_map_unprotected}
use Rattle.rmm_model.specs.Command.RttSetRipas.{rtt_set_ripas, ripas_request_checks, set_changeable, is_rec_of}
use Rattle.rmm_model.specs.Command.RttUnmapUnprotected.{rtt_unmap_unprotected}
use Rattle.rmm_laws.specs.Proper.{IsProper}
use Rattle.rmm_laws.specs.Ripas.{ripas_at, IsBetween, IsRipasGiven}
use Rattle.rmm_laws.specs.Walk.{IsTableOf}
use Rattle.rmm_laws.proofs.EntryReads.{changed_to, destroyed_too}
use Rattle.rmm_laws.proofs.EntryWords.{word_ripas}
use Rattle.rmm_laws.proofs.Guests.{same_owner}
use Rattle.rmm_laws.proofs.Halves.{none_below}
use Rattle.rmm_laws.proofs.Mappings.{served, place_table, protected_within, some_of, owned_protected}
use Rattle.rmm_laws.proofs.Ordering.{memory_is}
use Rattle.rmm_laws.proofs.Passed.{Passed, yes_from, is_delegated-true, realm_of-some}
use Rattle.rmm_laws.proofs.ReadCalls.{leaf_read, leaf_walk, now, range_read, map_read, unmap_read, page_read}
use Rattle.rmm_laws.proofs.Seats.{in_space}
use Rattle.rmm_laws.proofs.StateCalls.{new_if}
use Rattle.rmm_laws.proofs.Tops.{same_end}
use Rattle.rmm_laws.proofs.Writes.{page_in-same, page_in-other, taken_inside}

-- a protected address of a realm has the same RIPAS in both machines, or the call may change the old RIPAS to the new
-- one
abbrev pub Keeps : Call → Machine → Machine → ℕ → ℕ → RmmRealm → RmmRealm → Type 0
Keeps call m n rd x before after =
    (granule_at n rd).state ≡ Rd after → after.start_level ≡ before.start_level → after.first_table ≡ before.first_table → is_protected before x ≡ true
    → (ripas_at n after x ≡ ripas_at m before x) ⊎ IsRipasGiven m (Some call) rd x (ripas_at m before x) (ripas_at n after x)

-- ---- entries

module _ (call : Call) (m n : Machine) (proper : IsProper m) (settings : n.settings ≡ m.settings) (count : length n.granules ≡ length m.granules) (rd ipa level : ℕ) (realm : RmmRealm)
    (is : (granule_at m rd).state ≡ Rd realm) (within : ipa < 2 ^ realm.s2sz) (least : realm.start_level ≤ level)
    (others : (g : ℕ) → IsTableOf m rd g → g ≢ (walk m realm ipa level).table → page_in n g ≡ page_in m g) where
  -- An entry that is no TABLE replaces another such entry at the end of a walk.
  module _ (e : RmmRttEntry) (page : page_in n (walk m realm ipa level).table ≡ page_with_word (page_in m (walk m realm ipa level).table) (entry_index (walk m realm ipa level).level ipa) (entry_word e))
      (before : is_table (entry_at m (walk m realm ipa level) ipa) ≡ false) (leaf : is_table e ≡ false) where
    leaf_written : ((x : ℕ) → x / entry_size (walk m realm ipa level).level ≡ ipa / entry_size (walk m realm ipa level).level
        → (ripas_in e ≡ ripas_in (entry_at m (walk m realm ipa level) ipa)) ⊎ IsRipasGiven m (Some call) rd x (ripas_in (entry_at m (walk m realm ipa level) ipa)) (ripas_in e))
        → (x : ℕ) (after : RmmRealm) → Keeps call m n rd x realm after
    leaf_written given x after =
        let old : RmmRipas = ripas_in (entry_at m (walk m realm ipa level) ipa) in
        leaf_read x RmmRipas (λ f l. ripas_in f) (λ r was now. IsRipasGiven m (Some call) r x was now) m n proper settings count rd ipa level realm is within least others e page before leaf
        (λ protected covers. subst (λ (r : RmmRipas). (r ≡ old) ⊎ IsRipasGiven m (Some call) rd x old r) (sym (word_ripas e)) (given x covers))
        after

    -- after a walk to level 3, the RIPAS of an address that the entry covers is the new entry's RIPAS
    leaf_ripas : level ≡ 3 → (x : ℕ) → x / entry_size (walk m realm ipa level).level ≡ ipa / entry_size (walk m realm ipa level).level → ripas_at n realm x ≡ ripas_in e
    unfolding entry_at entry_index
    leaf_ripas three x covers =
        let found : RttWalk = walk m realm ipa level in
        let index : entry_index found.level x ≡ entry_index found.level ipa = ap (λ (q : ℕ). q % 512) covers in
        let old : RmmRttEntry = entry_in_page (page_in m found.table) (entry_index found.level ipa) in
        let none : table_below m (entry_at m found x) ≡ None = ap (λ (j : ℕ). table_below m (entry_in_page (page_in m found.table) j)) index ∙ none_below m old old refl before in
        let there = same_end m proper.linked rd ipa level realm is within least (omega arith) x (ap (λ (q : ℕ). q / 512) covers) none in
        let inside = in_space m proper.linked proper.ordered.halves rd ipa realm is within level x covers in
        let same = leaf_walk x RmmRipas (λ f l. ripas_in f) (λ r was now. Unit {0}) m n proper settings count rd ipa level realm is within least others e page before leaf (λ covered. inr tt) inside in
        let entry = now x RmmRipas (λ f l. ripas_in f) (λ r was now. Unit {0}) m n proper settings count rd ipa level realm is within least others e page before leaf in
        ap (λ (q : RttWalk). ripas_in (entry_at n q x)) (same ∙ there) ∙ ap (λ (j : ℕ). ripas_in (entry_in_page (page_in n found.table) j)) index ∙ ap ripas_in entry ∙ word_ripas e

  -- From `ipa` on, entries get RIPAS `ripas`, up to an entry that cannot be changed, up to `top`, or up to the table's
  -- end.
  module _ (changeable : Changeable) (ripas : RmmRipas) (top : ℕ) (begins : ipa % entry_size (walk m realm ipa level).level ≡ 0)
      (page : page_in n (walk m realm ipa level).table ≡ page_in (with_ripas_from m (walk m realm ipa level).table (entry_index (walk m realm ipa level).level ipa) ripas (change_count m changeable (walk m realm ipa level) ipa top)) (walk m realm ipa level).table)
      (given : (x : ℕ) (e : RmmRttEntry) → IsBetween ipa top x → can_change changeable e ≡ true → IsRipasGiven m (Some call) rd x (ripas_in e) ripas) where
    range_written : (x : ℕ) (after : RmmRealm) → Keeps call m n rd x realm after
    range_written x after =
        range_read x RmmRipas (λ f l. ripas_in f) (λ r was now. IsRipasGiven m (Some call) r x was now) m n proper settings count rd ipa level realm is within least others changeable ripas top begins page
        (λ e between can. inr (subst (λ (r : RmmRipas). IsRipasGiven m (Some call) rd x (ripas_in e) r) (sym (changed_to changeable ripas e can).2) (given x e between can)))
        after

-- ---- memory of the host

pub own_map : (rd ipa level desc : ℕ) (m : Machine) → IsProper m → Passed (rtt_map_unprotected rd ipa level desc m).checks → (x : ℕ) (after : RmmRealm)
    → Keeps (RttMapUnprotected rd ipa level desc) m (rtt_map_unprotected rd ipa level desc m).machine (number_of m rd) x (realm_at m rd) after
own_map rd ipa level desc m proper ok x after = map_read x RmmRipas (λ f l. ripas_in f) (λ r was now. IsRipasGiven m (Some (RttMapUnprotected rd ipa level desc)) r x was now) rd ipa level desc m proper ok after

pub own_unmap : (rd ipa level : ℕ) (m : Machine) → IsProper m → Passed (rtt_unmap_unprotected rd ipa level m).checks → (x : ℕ) (after : RmmRealm)
    → Keeps (RttUnmapUnprotected rd ipa level) m (rtt_unmap_unprotected rd ipa level m).machine (number_of m rd) x (realm_at m rd) after
own_unmap rd ipa level m proper ok x after = unmap_read x RmmRipas (λ f l. ripas_in f) (λ r was now. IsRipasGiven m (Some (RttUnmapUnprotected rd ipa level)) r x was now) rd ipa level m proper ok after

-- ---- memory of the realm

unassigned_leaf : (e : RmmRttEntry) → is_unassigned e ≡ true → is_table e ≡ false
unassigned_leaf (Unassigned ripas) is = refl
unassigned_leaf _ is = absurd (cc)

-- an address covered by the entry of level 3 that begins at `ipa` is in the 4,096 bytes from `ipa` on
pub page_between : (l ipa x : ℕ) → l ≡ 3 → ipa % 4096 ≡ 0 → x / entry_size l ≡ ipa / entry_size l → IsBetween ipa (ipa + 4096) x
unfolding entry_size
page_between l ipa x three begins covers = subst (λ (k : ℕ). x / entry_size k ≡ ipa / entry_size k → IsBetween ipa (ipa + 4096) x) (sym three) (λ same. (omega arith, omega arith)) covers

module _ (call : Call) (m n : Machine) (proper : IsProper m) (settings : n.settings ≡ m.settings) (count : length n.granules ≡ length m.granules) (rd page ipa : ℕ)
    (is : (granule_at m (number_of m rd)).state ≡ Rd (realm_at m rd)) (protected : is_protected (realm_at m rd) ipa ≡ true) (free : state_at m page ≡ Delegated)
    (vacant : is_unassigned (entry_at m (walk m (realm_at m rd) ipa 3) ipa) ≡ true) (kept : RmmGranule) (content : List ℕ) (ripas : RmmRipas)
    (pages : n.pages ≡ (with_entry (with_page (with_granule m (number_of m page) kept) (number_of m page) content) (walk m (realm_at m rd) ipa 3) ipa (Assigned ripas page)).pages) where
  -- mapping a DELEGATED granule changes the RIPAS of addresses as `Keeps` allows, if it does so at the addresses that
  -- the entry covers
  page_written : ((x : ℕ) → x / entry_size (walk m (realm_at m rd) ipa 3).level ≡ ipa / entry_size (walk m (realm_at m rd) ipa 3).level
      → (ripas ≡ ripas_in (entry_at m (walk m (realm_at m rd) ipa 3) ipa)) ⊎ IsRipasGiven m (Some call) (number_of m rd) x (ripas_in (entry_at m (walk m (realm_at m rd) ipa 3) ipa)) ripas)
      → (x : ℕ) (after : RmmRealm) → Keeps call m n (number_of m rd) x (realm_at m rd) after
  page_written given x after =
      let old : RmmRipas = ripas_in (entry_at m (walk m (realm_at m rd) ipa 3) ipa) in
      page_read x RmmRipas (λ f l. ripas_in f) (λ r was now. IsRipasGiven m (Some call) r x was now) m n proper settings count rd page ipa is protected free vacant kept content ripas pages
      (λ covers. subst (λ (r : RmmRipas). (r ≡ old) ⊎ IsRipasGiven m (Some call) (number_of m rd) x old r) (sym (word_ripas (Assigned ripas page))) (given x covers))
      after

pub own_data : (rd page ipa source flags : ℕ) (m : Machine) → IsProper m → Passed (data_create rd page ipa source flags m).checks → length (data_create rd page ipa source flags m).machine.granules ≡ length m.granules
    → (x : ℕ) (after : RmmRealm) → Keeps (DataCreate rd page ipa source flags) m (data_create rd page ipa source flags m).machine (number_of m rd) x (realm_at m rd) after
unfolding data_create source_checks target_checks
own_data rd page ipa source flags m proper ok count x after =
    let realm : RmmRealm = realm_at m rd in
    let is = realm_of-some (state_at m rd) ok.1.1.1.1.1.1.1.1.1.0 in
    let free = is_delegated-true (state_at m page) (yes_from (is_delegated (state_at m page)) ok.1.1.1.1.1.1.0) in
    let begins : ipa % 4096 ≡ 0 = eqb-true _ _ (yes_from _ ok.1.1.1.1.1.1.1.1.1.1.0) in
    let protected = yes_from _ ok.1.1.1.1.1.1.1.1.1.1.1.0 in
    let fresh = new_if realm.state (yes_from (is_new realm.state) ok.1.1.1.1.1.1.1.1.1.1.1.1.0) in
    let reaches : (walk m realm ipa 3).level ≡ 3 = eqb-true _ _ (yes_from _ ok.1.1.1.1.1.1.1.1.1.1.1.1.1.0) in
    let vacant = yes_from _ ok.1.1.1.1.1.1.1.1.1.1.1.1.1.1.0 in
    page_written (DataCreate rd page ipa source flags) m (data_create rd page ipa source flags m).machine proper refl count rd page ipa is protected free vacant
    (of_realm (number_of m rd) Data) (page_in m (number_of m source)) Ram refl
    (λ y covers. inr (refl, (realm, is, fresh), page_between (walk m realm ipa 3).level ipa y reaches begins covers)) x after

pub own_unknown : (rd page ipa : ℕ) (m : Machine) → IsProper m → Passed (data_create_unknown rd page ipa m).checks → length (data_create_unknown rd page ipa m).machine.granules ≡ length m.granules
    → (x : ℕ) (after : RmmRealm) → Keeps (DataCreateUnknown rd page ipa) m (data_create_unknown rd page ipa m).machine (number_of m rd) x (realm_at m rd) after
unfolding data_create_unknown
own_unknown rd page ipa m proper ok count x after =
    let realm : RmmRealm = realm_at m rd in
    let is = realm_of-some (state_at m rd) ok.1.1.1.1.1.0 in
    let free = is_delegated-true (state_at m page) (yes_from (is_delegated (state_at m page)) ok.1.1.0) in
    let protected = yes_from _ ok.1.1.1.1.1.1.1.0 in
    let vacant = yes_from _ ok.1.1.1.1.1.1.1.1.1.0 in
    page_written (DataCreateUnknown rd page ipa) m (data_create_unknown rd page ipa m).machine proper refl count rd page ipa is protected free vacant
    (of_realm (number_of m rd) Data) zero_page (ripas_in (entry_at m (walk m realm ipa 3) ipa)) refl (λ y covers. inl refl) x after

-- an address in the 4,096 bytes from `ipa` on is covered by the entry of level 3 that begins at `ipa`
pub page_covers : (l ipa x : ℕ) → l ≡ 3 → ipa % 4096 ≡ 0 → IsBetween ipa (ipa + 4096) x → x / entry_size l ≡ ipa / entry_size l
unfolding entry_size
page_covers l ipa x three begins between = (let low = between.0 in let high = between.1 in subst (λ (k : ℕ). x / entry_size k ≡ ipa / entry_size k) (sym three) (omega arith))

pub memory_leaf : (m : Machine) (e : RmmRttEntry) (g : ℕ) → memory_below m e ≡ Some g → is_table e ≡ false
memory_leaf m (Assigned ripas address) g named = refl
memory_leaf m _ g named = absurd (cc)

none_ram : (ripas : RmmRipas) → is_ram (left_ripas ripas) ≡ false
none_ram Empty = refl
none_ram Ram = refl
none_ram Destroyed = refl

left_given : (m : Machine) (of ipa rd x : ℕ) (ripas : RmmRipas) → rd ≡ number_of m of → IsBetween ipa (ipa + 4096) x → (left_ripas ripas ≡ ripas) ⊎ IsRipasGiven m (Some (DataDestroy of ipa)) rd x ripas (left_ripas ripas)
left_given m of ipa rd x Empty named between = inl refl
left_given m of ipa rd x Ram named between = inr (named, between, refl)
left_given m of ipa rd x Destroyed named between = inl refl

-- The checks of an RMI_DATA_DESTROY have passed, so it destroys the page at an address.
module _ (rd ipa : ℕ) (m : Machine) (proper : IsProper m) (ok : Passed (data_destroy rd ipa m).checks) (count : length (data_destroy rd ipa m).machine.granules ≡ length m.granules) where
  abbrev realm : RmmRealm
  realm = realm_at m rd

  abbrev r : ℕ
  r = number_of m rd

  abbrev end : RttWalk
  end = walk m (realm_at m rd) ipa 3

  abbrev old : RmmRttEntry
  old = entry_at m (walk m (realm_at m rd) ipa 3) ipa

  abbrev g : ℕ
  g = unwrap_or (memory_below m (entry_at m (walk m (realm_at m rd) ipa 3) ipa)) 0

  abbrev e : RmmRttEntry
  e = Unassigned (left_ripas (ripas_in (entry_at m (walk m (realm_at m rd) ipa 3) ipa)))

  pub is : (granule_at m (number_of m rd)).state ≡ Rd (realm_at m rd)
  unfolding data_destroy
  is = realm_of-some (state_at m rd) ok.1.1.0

  pub protected : is_protected (realm_at m rd) ipa ≡ true
  unfolding data_destroy
  protected = yes_from _ ok.1.1.1.1.0

  pub within : ipa < 2 ^ (realm_at m rd).s2sz
  within = protected_within realm ipa protected

  pub least : (realm_at m rd).start_level ≤ 3
  least = (served m r realm proper.linked is).level

  pub reaches : (walk m (realm_at m rd) ipa 3).level ≡ 3
  unfolding data_destroy
  reaches = eqb-true _ _ (yes_from _ ok.1.1.1.1.1.0)

  pub named : memory_below m (entry_at m (walk m (realm_at m rd) ipa 3) ipa) ≡ Some (unwrap_or (memory_below m (entry_at m (walk m (realm_at m rd) ipa 3) ipa)) 0)
  unfolding data_destroy
  named = some_of (memory_below m old) (yes_from _ ok.1.1.1.1.1.1.0)

  end_table : (granule_at m (walk m (realm_at m rd) ipa 3).table).state ≡ Rtt
  end_table = place_table m proper.linked r ipa 3 realm is within least

  not_g : (h : ℕ) → (granule_at m h).state ≡ Rtt → h ≢ g
  not_g h rtt same =
      let memory : (granule_at m g).state ≡ Data = ap (λ (c : RmmGranule). c.state) (memory_is m proper.linked rd ipa is within reaches g named) in
      let states : (granule_at m h).state ≡ (granule_at m g).state = ap (λ (y : ℕ). (granule_at m y).state) same in
      cc

  abbrev freed : Machine
  freed = with_granule (with_entry m (walk m (realm_at m rd) ipa 3) ipa e) g (of_no_realm Delegated)

  pub others : (h : ℕ) → IsTableOf m (number_of m rd) h → h ≢ (walk m (realm_at m rd) ipa 3).table → page_in (data_destroy rd ipa m).machine h ≡ page_in m h
  unfolding data_destroy
  others h here other = page_in-other freed g h zero_page (not_g h (ap (λ (c : RmmGranule). c.state) here)) ∙ page_in-other m end.table h _ other

  pub page : page_in (data_destroy rd ipa m).machine (walk m (realm_at m rd) ipa 3).table
      ≡ page_with_word (page_in m (walk m (realm_at m rd) ipa 3).table) (entry_index (walk m (realm_at m rd) ipa 3).level ipa) (entry_word e)
  unfolding data_destroy
  page =
      let t = end_table in
      let pages = proper.linked.sound.pages in
      let inside : end.table < length m.pages = (let lt = taken_inside m end.table (λ free. cc) in omega arith) in
      page_in-other freed g end.table zero_page (not_g end.table end_table) ∙ page_in-same m end.table _ inside

  pub own_destroy : (x : ℕ) (after : RmmRealm) → Keeps (DataDestroy rd ipa) m (data_destroy rd ipa m).machine (number_of m rd) x (realm_at m rd) after
  unfolding data_destroy
  own_destroy x after =
      let begins : ipa % 4096 ≡ 0 = eqb-true _ _ (yes_from _ ok.1.1.1.0) in
      leaf_written (DataDestroy rd ipa) m (data_destroy rd ipa m).machine proper refl count r ipa 3 realm is within least others e page (memory_leaf m old g named) refl
      (λ y covers. left_given m rd ipa r y (ripas_in old) refl (page_between end.level ipa y reaches begins covers)) x after

  -- no address of the destroyed page has RIPAS RAM
  pub left_not_ram : (x : ℕ) → IsBetween ipa (ipa + 4096) x → is_ram (ripas_at (data_destroy rd ipa m).machine (realm_at m rd) x) ≡ false
  unfolding data_destroy
  left_not_ram x between =
      let begins : ipa % 4096 ≡ 0 = eqb-true _ _ (yes_from _ ok.1.1.1.0) in
      ap is_ram
      (leaf_ripas (DataDestroy rd ipa) m (data_destroy rd ipa m).machine proper refl count r ipa 3 realm is within least others e page (memory_leaf m old g named) refl refl x (page_covers end.level ipa x reaches begins between))
      ∙ none_ram (ripas_in old)

-- ---- ranges

pub own_init : (rd base top : ℕ) (m : Machine) → IsProper m → Passed (rtt_init_ripas rd base top m).checks → length (rtt_init_ripas rd base top m).machine.granules ≡ length m.granules
    → (x : ℕ) (after : RmmRealm) → Keeps (RttInitRipas rd base top) m (rtt_init_ripas rd base top m).machine (number_of m rd) x (realm_at m rd) after
unfolding rtt_init_ripas range_checks with_ripas_from
own_init rd base top m proper ok count x after =
    let realm : RmmRealm = realm_at m rd in
    let r : ℕ = number_of m rd in
    let is = realm_of-some (state_at m rd) ok.1.1.1.0 in
    let s = served m r realm proper.linked is in
    let within = protected_within realm base (yes_from _ ok.1.1.1.1.1.1.0) in
    let fresh = new_if realm.state (yes_from (is_new realm.state) ok.1.1.1.1.1.1.1.1.0) in
    let found : RttWalk = walk m realm base 3 in
    let begins : base % entry_size found.level ≡ 0 = eqb-true _ _ (yes_from _ ok.1.1.1.1.1.1.1.1.1.0) in
    range_written (RttInitRipas rd base top) m (rtt_init_ripas rd base top m).machine proper refl count r base 3 realm is within s.level
    (λ g here other. page_in-other m found.table g _ other) (init_changeable m.settings) Ram top begins refl
    (λ y e between can. (refl, (realm, is, fresh), between)) x after

pub own_set : (rd rec base top : ℕ) (m : Machine) → IsProper m → Passed (rtt_set_ripas rd rec base top m).checks → length (rtt_set_ripas rd rec base top m).machine.granules ≡ length m.granules
    → (x : ℕ) (after : RmmRealm) → Keeps (RttSetRipas rd rec base top) m (rtt_set_ripas rd rec base top m).machine (number_of m rd) x (realm_at m rd) after
unfolding rtt_set_ripas ripas_request_checks with_ripas_from
own_set rd rec base top m proper ok count x after =
    let realm : RmmRealm = realm_at m rd in
    let r : ℕ = number_of m rd in
    let asked : RipasRequest = (rec_at m rec).ripas in
    let is = realm_of-some (state_at m rd) ok.1.1.1.0 in
    let s = served m r realm proper.linked is in
    let inside = yes_from _ ok.1.1.1.1.1.1.1.1.1.1.1.0 in
    let within = protected_within realm base (owned_protected realm (is_rec_of m rd rec) _ (nat_le top base) base ok.1.1.1.1.1.1.1.1.1.0 ok.0 inside) in
    let owned = same_owner (granule_at m (number_of m rec)).owner (Some r) (yes_from (is_rec_of m rd rec) ok.1.1.1.1.1.1.1.1.1.0) in
    let from : base ≡ asked.base = eqb-true _ _ (yes_from _ ok.1.1.1.1.1.1.1.1.1.1.0) in
    let to : top ≤ asked.top = leb-true _ _ (and_parts (nat_le top asked.top) _ inside).0 in
    let found : RttWalk = walk m realm base 3 in
    let begins : base % entry_size found.level ≡ 0 = eqb-true _ _ (yes_from _ ok.1.1.1.1.1.1.1.1.1.1.1.1.0) in
    range_written (RttSetRipas rd rec base top) m (rtt_set_ripas rd rec base top m).machine proper refl count r base 3 realm is within s.level
    (λ g here other. page_in-other m found.table g _ other) (set_changeable asked) asked.ripas top begins refl
    (λ y e between can. (
      refl,
      owned,
      (let low = between.0 in omega arith, let high = between.1 in omega arith),
      refl,
      λ destroyed. destroyed_too (set_changeable asked) e can destroyed,
    )) x after
