-- Proofs that calls which write entries of at most one table change a property of protected addresses, such as RIPAS,
-- only as a given relation allows.
use Rattle.std.proofs.Common.{◌≡◌, ◌≢◌, ℕ, ◌+◌, ◌/◌, ◌%◌, ◌^◌, ◌<◌, ◌≤◌, ◌⊎◌, ◌&&◌, inl, inr, Bool, true, false, List, length, Option, Some, None, unwrap_or, refl, sym, ap, subst, ◌∙◌, ⊎_elim, arith}
use Rattle.std.specs.Prelude.{is_some, nat_le, not}
use Rattle.std.proofs.lemmas.Bool.{cases_Bool, cases_eq, cond-true, cond-false, and_parts, leb-true, ltb-true, ltb-false, not-true}
use Rattle.page_arena.specs.Word.{word_of_page, page_with_word}
use Rattle.page_arena.specs.Words.{word_of_page-page_with_word_same, word_of_page-page_with_word_other}
use Rattle.rmm_model.specs.declared.entry.Changeable.{Changeable}
use Rattle.rmm_model.specs.declared.entry.RmmRipas.{RmmRipas}
use Rattle.rmm_model.specs.declared.entry.RmmRttEntry.{RmmRttEntry}
use Rattle.rmm_model.specs.declared.granule.RmmGranuleState.{RmmGranuleState}
use Rattle.rmm_model.specs.declared.granule.RmmGranuleState.TheVariants.{Delegated, Rd, Rtt}
use Rattle.rmm_model.specs.declared.realm.RmmRealm.{RmmRealm}
use Rattle.rmm_model.specs.declared.realm.RttWalk.{RttWalk}
use Rattle.rmm_model.specs.Entry.{entry_of, entry_word, can_change, entry_with_ripas, is_table, is_unassigned, is_unassigned_ns, is_assigned_ns}
use Rattle.rmm_model.specs.Granule.{realm_of}
use Rattle.rmm_model.specs.Level.{entry_size, entry_index}
use Rattle.rmm_model.specs.Machine.{Machine, granule_at, page_in, is_aligned, is_inside, number_of, state_at, with_granule, with_page}
use Rattle.rmm_model.specs.Realm.{is_in_space, is_protected, is_unprotected, no_realm}
use Rattle.rmm_model.specs.Table.{entry_in_page}
use Rattle.rmm_model.specs.Walk.{entry_at, walk, with_entry}
use Rattle.rmm_model.specs.Command.Operand.{realm_at, is_level}
use Rattle.std.proofs.lemmas.List.{length-set}
use Rattle.page_arena.specs.Page.{page_at}
use Rattle.rmm_model.specs.declared.entry.RmmRttEntry.TheVariants.{Unassigned, Assigned, UnassignedNs, AssignedNs}
use Rattle.rmm_model.specs.declared.granule.RmmGranule.{RmmGranule}
use Rattle.rmm_model.specs.Command.RttMapUnprotected.{rtt_map_unprotected}
use Rattle.rmm_model.specs.Command.RttUnmapUnprotected.{rtt_unmap_unprotected}
use Rattle.rmm_model.specs.Command.RipasRange.{change_count, with_ripas_from}
use Rattle.rmm_laws.specs.Apart.{rd_named}
use Rattle.rmm_laws.specs.Owner.{is_rd}
use Rattle.rmm_laws.specs.Proper.{IsProper}
use Rattle.rmm_laws.specs.Ripas.{IsBetween}
use Rattle.rmm_laws.specs.Walk.{IsTableOf}
use Rattle.rmm_laws.proofs.EntryReads.{IsChanged, changed, changed_read, one_changed, can_in_range, in_range, changed_to}
use Rattle.rmm_laws.proofs.EntryWords.{entry_word-fits, word_table}
use Rattle.rmm_laws.proofs.KeptTables.{KeepsTablesOf, tables_apart, read_at, IsReadAs, IsRead, same_read}
use Rattle.rmm_laws.proofs.Mappings.{served, place_table, protected_within, unprotected_within, change_count-few, entry_changed, entry_kept, changed_or_kept}
use Rattle.rmm_laws.proofs.Passed.{Passed, yes_from, realm_of-some, some_same}
use Rattle.rmm_laws.proofs.Seats.{found_few, in_upper}
use Rattle.rmm_laws.proofs.States.{same_realm}
use Rattle.rmm_laws.proofs.Touching.{Touches}
use Rattle.rmm_laws.proofs.Walks.{entry_index-few}
use Rattle.rmm_laws.proofs.Writes.{page_in-same, page_in-other, taken_inside}

rd_there : (s : RmmGranuleState) → is_some (realm_of s) ≡ true → s ≡ Rd (unwrap_or (realm_of s) no_realm)
rd_there (Rd realm) is = refl
rd_there _ is = absurd (cc)

ns_leaf : (e : RmmRttEntry) → is_unassigned_ns e ≡ true → is_table e ≡ false
ns_leaf UnassignedNs is = refl
ns_leaf _ is = absurd (cc)

mapped_leaf : (e : RmmRttEntry) → is_assigned_ns e ≡ true → is_table e ≡ false
mapped_leaf (AssignedNs desc) is = refl
mapped_leaf _ is = absurd (cc)

pub unassigned_leaf : (e : RmmRttEntry) → is_unassigned e ≡ true → is_table e ≡ false
unassigned_leaf (Unassigned ripas) is = refl
unassigned_leaf _ is = absurd (cc)

-- `F` gives the value that is read at an address, from the entry and its level; `G` relates an old value in a realm to
-- an allowed new value
module _ (x : ℕ) (A : Type 0) (F : RmmRttEntry → ℕ → A) (G : ℕ → A → A → Type 0) where
  -- the value that is read at a protected address of a realm is the same in both machines, or one that `G` allows
  abbrev pub ReadsSo : Machine → Machine → ℕ → RmmRealm → RmmRealm → Type 0
  ReadsSo m n rd before after =
      (granule_at n rd).state ≡ Rd after → after.start_level ≡ before.start_level → after.first_table ≡ before.first_table → is_protected before x ≡ true
      → IsRead A F m n before after x ⊎ G rd (read_at A F m before x) (read_at A F n after x)

  -- ---- entries

  module _ (m n : Machine) (proper : IsProper m) (settings : n.settings ≡ m.settings) (count : length n.granules ≡ length m.granules) (rd ipa level : ℕ) (realm : RmmRealm)
      (is : (granule_at m rd).state ≡ Rd realm) (within : ipa < 2 ^ realm.s2sz) (least : realm.start_level ≤ level)
      (others : (g : ℕ) → IsTableOf m rd g → g ≢ (walk m realm ipa level).table → page_in n g ≡ page_in m g) where
    abbrev found : RttWalk
    found = walk m realm ipa level

    abbrev at : ℕ
    at = entry_index (walk m realm ipa level).level ipa

    table : (granule_at m (walk m realm ipa level).table).state ≡ Rtt
    table = place_table m proper.linked rd ipa level realm is within least

    whole : length (page_in m (walk m realm ipa level).table) ≡ 4096
    whole = let t = table in proper.linked.sound.whole found.table (taken_inside m found.table (λ free. cc))

    -- An entry that is no TABLE replaces another such entry at the end of a walk.
    module _ (e : RmmRttEntry) (page : page_in n (walk m realm ipa level).table ≡ page_with_word (page_in m (walk m realm ipa level).table) (entry_index (walk m realm ipa level).level ipa) (entry_word e))
        (before : is_table (entry_at m (walk m realm ipa level) ipa) ≡ false) (leaf : is_table e ≡ false) where
      pub now : entry_in_page (page_in n (walk m realm ipa level).table) (entry_index (walk m realm ipa level).level ipa) ≡ entry_of (entry_word e)
      unfolding entry_in_page
      now =
          ap (λ (p : List ℕ). entry_of (word_of_page p at)) page
          ∙ ap entry_of (word_of_page-page_with_word_same (page_in m found.table) at (entry_word e) whole (entry_index-few found.level ipa) (entry_word-fits e))

      beside : (j : ℕ) → j < 512 → j ≢ entry_index (walk m realm ipa level).level ipa → entry_in_page (page_in n (walk m realm ipa level).table) j ≡ entry_in_page (page_in m (walk m realm ipa level).table) j
      unfolding entry_in_page
      beside j lt ne =
          ap (λ (p : List ℕ). entry_of (word_of_page p j)) page
          ∙ ap entry_of (word_of_page-page_with_word_other (page_in m found.table) at (entry_word e) whole (entry_index-few found.level ipa) j ne lt)

      pub leaf_read : (is_protected realm x ≡ true → x / entry_size (walk m realm ipa level).level ≡ ipa / entry_size (walk m realm ipa level).level
          → IsReadAs A F (G rd) (entry_at m (walk m realm ipa level) ipa) (entry_of (entry_word e)) (walk m realm ipa level).level)
          → (after : RmmRealm) → ReadsSo m n rd realm after
      leaf_read given after then start first protected =
          changed_read m n proper settings count rd ipa level realm is within x A F (G rd)
          (one_changed m n proper settings count rd ipa level realm is within x A F (G rd) (entry_of (entry_word e)) now beside before (word_table e leaf) (given protected))
          others after start first (protected_within realm x protected)

      -- the walk of an address ends at the same place as before the entry was replaced
      pub leaf_walk : (x / entry_size (walk m realm ipa level).level ≡ ipa / entry_size (walk m realm ipa level).level → IsReadAs A F (G rd) (entry_at m (walk m realm ipa level) ipa) (entry_of (entry_word e)) (walk m realm ipa level).level)
          → x < 2 ^ realm.s2sz → walk n realm x 3 ≡ walk m realm x 3
      leaf_walk given inside =
          (changed m n proper settings count rd ipa level realm is within x A F (G rd)
          (one_changed m n proper settings count rd ipa level realm is within x A F (G rd) (entry_of (entry_word e)) now beside before (word_table e leaf) given)
          others realm refl refl inside).0

    -- From `ipa` on, entries get RIPAS `ripas`, up to an entry that cannot be changed, up to `top`, or up to the
    -- table's end.
    module _ (changeable : Changeable) (ripas : RmmRipas) (top : ℕ) (begins : ipa % entry_size (walk m realm ipa level).level ≡ 0)
        (page : page_in n (walk m realm ipa level).table ≡ page_in (with_ripas_from m (walk m realm ipa level).table (entry_index (walk m realm ipa level).level ipa) ripas (change_count m changeable (walk m realm ipa level) ipa top)) (walk m realm ipa level).table)
        (given : (e : RmmRttEntry) → IsBetween ipa top x → can_change changeable e ≡ true → IsReadAs A F (G rd) e (entry_with_ripas ripas e) (walk m realm ipa level).level) where
      abbrev k : ℕ
      k = change_count m changeable (walk m realm ipa level) ipa top

      few : entry_index (walk m realm ipa level).level ipa + change_count m changeable (walk m realm ipa level) ipa top ≤ 512
      few = change_count-few m changeable found ipa top

      in_pages : (walk m realm ipa level).table < length m.pages
      in_pages = let t = table in let pages = proper.linked.sound.pages in let lt = taken_inside m found.table (λ free. cc) in omega arith

      each : (j : ℕ) → j < 512 → IsChanged m n proper settings count rd ipa level realm is within x A F (G rd) j
      unfolding with_ripas_from
      each j lt =
          let there = page ∙ page_in-same m found.table _ in_pages in
          let old : RmmRttEntry = entry_in_page (page_in m found.table) j in
          ⊎_elim
          (λ (it : (at ≤ j) × (j < at + k)).
          let can = can_in_range m changeable found ipa top j it.0 it.1 in
          let to = changed_to changeable ripas old can in
          let entry : entry_in_page (page_in n found.table) j ≡ entry_with_ripas ripas old = ap (λ (p : List ℕ). entry_in_page p j) there ∙ entry_changed m found.table at k ripas proper.linked table few j it.0 it.1 in
          inr (
            to.0,
            ap is_table entry ∙ to.1,
            λ covers. subst (λ (f : RmmRttEntry). IsReadAs A F (G rd) old f found.level) (sym entry)
                (given old (in_range m changeable found ipa top x j (found_few m proper.linked proper.ordered.halves rd ipa realm is within level) begins covers it.0 it.1) can),
          ))
          (λ (kept : (j < at) ⊎ (at + k ≤ j)). inl (ap (λ (p : List ℕ). entry_in_page p j) there ∙ entry_kept m found.table at k ripas proper.linked table few j lt kept))
          (changed_or_kept m found.table at k ripas proper.linked table few j)

      pub range_read : (after : RmmRealm) → ReadsSo m n rd realm after
      range_read after then start first protected =
          changed_read m n proper settings count rd ipa level realm is within x A F (G rd) each others after start first (protected_within realm x protected)

  -- ---- realms that a call names

  pub tables_read : (m n : Machine) (rd : ℕ) (before after : RmmRealm) → IsProper m → n.settings ≡ m.settings → length n.granules ≡ length m.granules → (granule_at m rd).state ≡ Rd before → KeepsTablesOf m n rd
      → ReadsSo m n rd before after
  tables_read m n rd before after proper settings count is kept then start first protected = inl (same_read m n proper settings count rd x before A F after start first is protected kept)

  -- a call on no realm satisfies `ReadsSo` for each realm
  pub none_read : (host : Bool) (m n : Machine) (rd : ℕ) (before after : RmmRealm) → IsProper m → Touches host m n None → (granule_at m rd).state ≡ Rd before → ReadsSo m n rd before after
  none_read host m n rd before after proper touches is =
      tables_read m n rd before after proper touches.settings touches.count is (tables_apart host m n None rd touches (λ same. cc) (λ r same. absurd (cc)))

  -- a call on the RD at an address satisfies `ReadsSo` for each realm, if it does so for that RD's realm
  pub rd_read : (m n : Machine) (of : ℕ) → IsProper m → Touches false m n (rd_named m of) → ((after : RmmRealm) → ReadsSo m n (number_of m of) (realm_at m of) after)
      → (rd : ℕ) (before after : RmmRealm) → (granule_at m rd).state ≡ Rd before → ReadsSo m n rd before after
  rd_read m n of proper touches own rd before after is =
      let named : Bool = is_aligned of && is_inside m of && is_some (realm_of (state_at m of)) in
      ⊎_elim
      (λ (sure : named ≡ true).
      let there = rd_there (state_at m of) (and_parts (is_aligned of && is_inside m of) (is_some (realm_of (state_at m of))) sure).1 in
      ⊎_elim
      (λ (same : rd ≡ number_of m of).
      let it : before ≡ realm_at m of = same_realm (sym is ∙ ap (λ (g : ℕ). (granule_at m g).state) same ∙ there) in
      subst (λ (g : ℕ). ReadsSo m n g before after) (sym same) (subst (λ (r : RmmRealm). ReadsSo m n (number_of m of) r after) (sym it) (own after)))
      (λ (other : rd ≢ number_of m of).
      tables_read m n rd before after proper touches.settings touches.count is
      (tables_apart false m n (Some (number_of m of)) rd (subst (λ (o : Option ℕ). Touches false m n o) (cond-true named (Some (number_of m of)) None sure) touches) (λ same. other (sym (some_same same)))
      (λ r same. subst (λ (g : ℕ). is_rd (granule_at m g).state ≡ true) (some_same same) (ap is_rd there))))
      (cases_eq rd (number_of m of)))
      (λ (never : named ≡ false). none_read false m n rd before after proper (subst (λ (o : Option ℕ). Touches false m n o) (cond-false named (Some (number_of m of)) None never) touches) is)
      (cases_Bool named)

  -- ---- memory of the host

  -- an unprotected entry covers no protected address
  not_covered : (m : Machine) (proper : IsProper m) (rd ipa level : ℕ) (realm : RmmRealm) → (granule_at m rd).state ≡ Rd realm → ipa < 2 ^ realm.s2sz → is_unprotected realm ipa ≡ true → is_protected realm x ≡ true
      → x / entry_size (walk m realm ipa level).level ≡ ipa / entry_size (walk m realm ipa level).level → ⊥
  not_covered m proper rd ipa level realm is within upper protected covers =
      let high = in_upper m proper.linked proper.ordered.halves rd ipa realm is within level x covers (ltb-false _ _ (not-true (is_protected realm ipa) (and_parts (not (is_protected realm ipa)) (is_in_space realm ipa) upper).0)) in
      let low = ltb-true _ _ protected in
      omega arith

  pub map_read : (rd ipa level desc : ℕ) (m : Machine) → IsProper m → Passed (rtt_map_unprotected rd ipa level desc m).checks → (after : RmmRealm)
      → ReadsSo m (rtt_map_unprotected rd ipa level desc m).machine (number_of m rd) (realm_at m rd) after
  unfolding rtt_map_unprotected
  map_read rd ipa level desc m proper ok after =
      let realm : RmmRealm = realm_at m rd in
      let r : ℕ = number_of m rd in
      let is = realm_of-some (state_at m rd) ok.1.1.0 in
      let levels = and_parts (nat_le m.settings.block_level level) (is_level realm.start_level level) (yes_from _ ok.1.1.1.0) in
      let least = leb-true _ _ (and_parts (nat_le realm.start_level level) (nat_le level 3) levels.1).0 in
      let upper = yes_from _ ok.1.1.1.1.1.0 in
      let within = unprotected_within realm ipa upper in
      let found : RttWalk = walk m realm ipa level in
      let table = place_table m proper.linked r ipa level realm is within least in
      let pages = proper.linked.sound.pages in
      let inside : found.table < length m.pages = (let lt = taken_inside m found.table (λ free. cc) in omega arith) in
      leaf_read m (with_entry m found ipa (AssignedNs desc)) proper refl refl r ipa level realm is within least (λ g here other. page_in-other m found.table g _ other) (AssignedNs desc)
      (page_in-same m found.table _ inside) (ns_leaf (entry_at m found ipa) (yes_from _ ok.1.1.1.1.1.1.1.1.0)) refl
      (λ protected covers. absurd (not_covered m proper r ipa level realm is within upper protected covers)) after

  pub unmap_read : (rd ipa level : ℕ) (m : Machine) → IsProper m → Passed (rtt_unmap_unprotected rd ipa level m).checks → (after : RmmRealm)
      → ReadsSo m (rtt_unmap_unprotected rd ipa level m).machine (number_of m rd) (realm_at m rd) after
  unfolding rtt_unmap_unprotected
  unmap_read rd ipa level m proper ok after =
      let realm : RmmRealm = realm_at m rd in
      let r : ℕ = number_of m rd in
      let is = realm_of-some (state_at m rd) ok.1.1.0 in
      let levels = and_parts (nat_le m.settings.block_level level) (is_level realm.start_level level) (yes_from _ ok.1.1.1.0) in
      let least = leb-true _ _ (and_parts (nat_le realm.start_level level) (nat_le level 3) levels.1).0 in
      let upper = yes_from _ ok.1.1.1.1.1.0 in
      let within = unprotected_within realm ipa upper in
      let found : RttWalk = walk m realm ipa level in
      let table = place_table m proper.linked r ipa level realm is within least in
      let pages = proper.linked.sound.pages in
      let inside : found.table < length m.pages = (let lt = taken_inside m found.table (λ free. cc) in omega arith) in
      leaf_read m (with_entry m found ipa UnassignedNs) proper refl refl r ipa level realm is within least (λ g here other. page_in-other m found.table g _ other) UnassignedNs
      (page_in-same m found.table _ inside) (mapped_leaf (entry_at m found ipa) (yes_from _ ok.1.1.1.1.1.1.1.0)) refl
      (λ protected covers. absurd (not_covered m proper r ipa level realm is within upper protected covers)) after

  -- ---- memory of the realm

  module _ (m n : Machine) (proper : IsProper m) (settings : n.settings ≡ m.settings) (count : length n.granules ≡ length m.granules) (rd page ipa : ℕ)
      (is : (granule_at m (number_of m rd)).state ≡ Rd (realm_at m rd)) (protected : is_protected (realm_at m rd) ipa ≡ true) (free : state_at m page ≡ Delegated)
      (vacant : is_unassigned (entry_at m (walk m (realm_at m rd) ipa 3) ipa) ≡ true) (kept : RmmGranule) (content : List ℕ) (ripas : RmmRipas)
      (pages : n.pages ≡ (with_entry (with_page (with_granule m (number_of m page) kept) (number_of m page) content) (walk m (realm_at m rd) ipa 3) ipa (Assigned ripas page)).pages) where
    -- mapping a DELEGATED granule satisfies `ReadsSo`, if the new entry satisfies `IsReadAs` whenever it covers the
    -- address
    pub page_read : (x / entry_size (walk m (realm_at m rd) ipa 3).level ≡ ipa / entry_size (walk m (realm_at m rd) ipa 3).level
        → IsReadAs A F (G (number_of m rd)) (entry_at m (walk m (realm_at m rd) ipa 3) ipa) (entry_of (entry_word (Assigned ripas page))) (walk m (realm_at m rd) ipa 3).level)
        → (after : RmmRealm) → ReadsSo m n (number_of m rd) (realm_at m rd) after
    page_read given after =
        let realm : RmmRealm = realm_at m rd in
        let r : ℕ = number_of m rd in
        let g : ℕ = number_of m page in
        let s = served m r realm proper.linked is in
        let within = protected_within realm ipa protected in
        let found : RttWalk = walk m realm ipa 3 in
        let k : Machine = with_page (with_granule m g kept) g content in
        let table = place_table m proper.linked r ipa 3 realm is within s.level in
        let not_g : (h : ℕ) → (granule_at m h).state ≡ Rtt → h ≢ g = λ h rtt same. (let states : (granule_at m h).state ≡ (granule_at m g).state = ap (λ (y : ℕ). (granule_at m y).state) same in cc) in
        let length_is = length-set m.pages g content in
        let all = proper.linked.sound.pages in
        let inside : found.table < length k.pages = (let lt = taken_inside m found.table (λ none. cc) in omega arith) in
        leaf_read m n proper settings count r ipa 3 realm is within s.level
        (λ h here other. ap (λ (ps : List (List ℕ)). page_at ps h) pages ∙ page_in-other k found.table h _ other ∙ page_in-other (with_granule m g kept) g h content (not_g h (ap (λ (c : RmmGranule). c.state) here)))
        (Assigned ripas page)
        (ap (λ (ps : List (List ℕ)). page_at ps found.table) pages ∙ page_in-same k found.table _ inside
        ∙ ap (λ (p : List ℕ). page_with_word p (entry_index found.level ipa) (entry_word (Assigned ripas page))) (page_in-other (with_granule m g kept) g found.table content (not_g found.table table)))
        (unassigned_leaf (entry_at m found ipa) vacant) refl (λ there covers. given covers) after
