-- A proof that each granule keeps one role when RTT_FOLD replaces a table by one block of memory.
use Rattle.std.proofs.Common.{◌≡◌, ◌≢◌, ℕ, ◌+◌, ◌*◌, ◌^◌, ◌<◌, ◌≤◌, ◌⊎◌, inl, true, false, List, length, Option, Some, None, refl, sym, ap, subst, ◌∙◌, ⊎_elim, arith}
use Rattle.std.proofs.lemmas.Bool.{cases_eq, cases_lt}
use Rattle.rmm_model.specs.declared.entry.RmmRipas.{RmmRipas}
use Rattle.rmm_model.specs.declared.entry.RmmRttEntry.{RmmRttEntry}
use Rattle.rmm_model.specs.declared.entry.RmmRttEntry.TheVariants.{Unassigned, Assigned, Table, UnassignedNs, AssignedNs}
use Rattle.rmm_model.specs.declared.granule.RmmGranule.{RmmGranule}
use Rattle.rmm_model.specs.declared.granule.RmmGranuleState.TheVariants.{Delegated, Data, Rtt}
use Rattle.rmm_model.specs.declared.realm.RttWalk.{RttWalk}
use Rattle.rmm_model.specs.Entry.{entry_of, entry_word, child_entry, is_table}
use Rattle.rmm_model.specs.Level.{entry_size, entry_index}
use Rattle.rmm_model.specs.Machine.{Machine, granule_at, page_in, is_inside, number_of, with_blank}
use Rattle.rmm_model.specs.Table.{entry_in_page, has_parts}
use Rattle.rmm_model.specs.Walk.{with_entry}
use Rattle.rmm_laws.specs.Role.{Used, used, used_at, has_user, page_count, entry_uses, uses, IsLinked, IsBegin, LeadsInside}
use Rattle.rmm_laws.proofs.Blocks.{cut, cut_there, cut_beside, cut_more, sizes, block_uses, block_end, child_uses, child_end}
use Rattle.rmm_laws.proofs.Children.{is_free, part_word}
use Rattle.rmm_laws.proofs.Entries.{number_inside, address_few}
use Rattle.rmm_laws.proofs.EntryWords.{entry_of-entry_word}
use Rattle.rmm_laws.proofs.Mapped.{freed_count, freed_sound, freed_is, entry_then, entry_other, granule_then, page_other}
use Rattle.rmm_laws.proofs.Moves.{IsUnfolded, folded_roles}
use Rattle.rmm_laws.proofs.OneMore.{uses-table_in, uses-table_out}
use Rattle.rmm_laws.proofs.Uses.{IsMore, removed}
use Rattle.rmm_laws.proofs.Walks.{IsPlace, uses-entry, entry_index-few}
use Rattle.rmm_laws.proofs.Writes.{taken_inside, uses-same, uses-plain, entry_uses-same, used_at-same, leads-same, is_user}

module _ (m : Machine) (proper : IsLinked m) (rd ipa level : ℕ) (place : RttWalk) (end : IsPlace m proper rd ipa place) (one_below : place.level + 1 ≡ level) (most : level ≤ 3)
    (g : ℕ) (below : IsPlace m proper rd ipa (record { table = g; level = place.level + 1 })) (apart : place.table ≢ g)
    (one : uses m proper.level place.table (entry_index place.level ipa) 0 ≡ Some (used_at m proper.level g))
    (only : (k : ℕ) → k ≢ 0 → uses m proper.level place.table (entry_index place.level ipa) k ≡ None)
    (ripas : RmmRipas) (a : ℕ) (is : entry_in_page (page_in m g) 0 ≡ Assigned ripas a) (parts : has_parts (page_in m g) (Assigned ripas a) level 512 0 ≡ true) where
  abbrev t : ℕ
  t = place.table

  abbrev i : ℕ
  i = entry_index place.level ipa

  abbrev n : Machine
  n = with_blank (with_entry m place ipa (Assigned ripas a)) g Delegated

  abbrev G : ℕ → ℕ → ℕ → Option Used
  G = uses m proper.level

  abbrev B : ℕ → ℕ → ℕ → Option Used
  B = uses n proper.level

  few : place.level ≤ 2
  few = omega arith

  index : i < 512
  index = entry_index-few place.level ipa

  table_is : (granule_at m t).state ≡ Rtt
  table_is = ap (λ (r : RmmGranule). r.state) end.table

  below_is : (granule_at m g).state ≡ Rtt
  below_is = ap (λ (r : RmmGranule). r.state) below.table

  in_machine : g < length m.granules
  in_machine = let b = below_is in taken_inside m g (λ none. cc)

  begin : IsBegin m a
  begin = subst (LeadsInside m) is (proper.inside g 0 below_is (omega arith))

  fits : a < 2 ^ 48
  fits = address_few m a proper.sound begin.0

  -- the memory of each entry of the table begins below 2^48
  child_few : (j : ℕ) → j < 512 → a + j * entry_size (place.level + 1) < 2 ^ 48
  unfolding is_inside
  child_few j lt =
      let base = proper.sound.platform.base in
      let count = proper.sound.few in
      let number = number_inside m a begin.0 in
      let at = begin.1 in
      let size = (sizes place.level few).3 in
      let s : ℕ = entry_size (place.level + 1) in
      let low : j ≤ 511 = omega arith in
      let high : j * s ≤ 511 * 2 ^ 30 = grind arith in
      omega arith

  entry_j : (j : ℕ) → j < 512 → entry_in_page (page_in m g) j ≡ Assigned ripas (a + j * entry_size (place.level + 1))
  unfolding entry_in_page
  entry_j j lt =
      let levels : entry_size level ≡ entry_size (place.level + 1) = ap entry_size (sym one_below) in
      let same : child_entry (Assigned ripas a) level j ≡ Assigned ripas (a + j * entry_size (place.level + 1)) = ap (λ (s : ℕ). Assigned ripas (a + j * s)) levels in
      ap entry_of (part_word (page_in m g) (Assigned ripas a) level 512 0 j parts (omega arith) (omega arith) ∙ ap entry_word same)
      ∙ entry_of-entry_word (Assigned ripas (a + j * entry_size (place.level + 1))) (child_few j lt)

  child_there : (j : ℕ) → j < 512 → IsBegin m (a + j * entry_size (place.level + 1))
  child_there j lt = subst (LeadsInside m) (entry_j j lt) (proper.inside g j below_is lt)

  part_there : (j k : ℕ) → j < 512 → G g j k ≡ entry_uses m (Some rd) (place.level + 1) (Assigned ripas (a + j * entry_size (place.level + 1))) k
  part_there j k lt = uses-entry m proper rd ipa (record { table = g; level = place.level + 1 }) j k below lt ∙ ap (λ (e : RmmRttEntry). entry_uses m (Some rd) (place.level + 1) e k) (entry_j j lt)

  count_then : length n.granules ≡ length m.granules
  count_then = freed_count m proper rd ipa place end g (Assigned ripas a) in_machine apart fits

  granules_then : (h : ℕ) → h ≢ g → granule_at n h ≡ granule_at m h
  granules_then h ne = granule_then m proper rd ipa place end g (Assigned ripas a) in_machine apart fits h ne

  state_then : (granule_at n t).state ≡ Rtt
  state_then = ap (λ (r : RmmGranule). r.state) (granules_then t apart) ∙ table_is

  table_then : (j k : ℕ) → j < 512 → B t j k ≡ entry_uses m (Some rd) place.level (entry_in_page (page_in n t) j) k
  table_then j k lt =
      uses-table_in n proper.level t j k state_then lt
      ∙ ap (λ (r : RmmGranule). entry_uses n r.owner (proper.level t) (entry_in_page (page_in n t) j) k) (granules_then t apart ∙ end.table)
      ∙ ap (λ (h : ℕ). entry_uses n (Some rd) h (entry_in_page (page_in n t) j) k) end.level
      ∙ entry_uses-same m n refl count_then (Some rd) place.level (entry_in_page (page_in n t) j) k

  block_then : (k : ℕ) → B t i k ≡ entry_uses m (Some rd) place.level (Assigned ripas a) k
  block_then k = table_then i k index ∙ ap (λ (e : RmmRttEntry). entry_uses m (Some rd) place.level e k) (entry_then m proper rd ipa place end g (Assigned ripas a) in_machine apart fits)

  beside_then : (j k : ℕ) → j ≢ i → B t j k ≡ G t j k
  beside_then j k other =
      ⊎_elim
      (λ (lt : j < 512).
      table_then j k lt
      ∙ ap (λ (e : RmmRttEntry). entry_uses m (Some rd) place.level e k) (entry_other m proper rd ipa place end g (Assigned ripas a) in_machine apart fits j lt other)
      ∙ sym (uses-entry m proper rd ipa place j k end lt))
      (λ (past : 512 ≤ j). uses-table_out n proper.level t j k state_then past ∙ sym (uses-table_out m proper.level t j k table_is past))
      (cases_lt j 512)

  all_then : (x j k : ℕ) → x ≢ g → (x ≢ t) ⊎ (j ≢ i) → cut G t i x j k ≡ B x j k
  all_then x j k other old =
      cut_beside G t i x j k old
      ∙ ⊎_elim
      (λ (here : x ≡ t).
      subst (λ (y : ℕ). G y j k ≡ B y j k) (sym here) (sym (beside_then j k (⊎_elim (λ (ne : x ≢ t). absurd (ne here)) (λ (ne : j ≢ i). ne) old))))
      (λ (ne : x ≢ t).
      sym (uses-same m n refl count_then proper.level proper.level x j k (granules_then x other) (page_other m proper rd ipa place end g (Assigned ripas a) in_machine apart fits x other ne) refl))
      (cases_eq x t)

  cut_there_too : (j k : ℕ) → cut G t i g j k ≡ G g j k
  cut_there_too j k = cut_beside G t i g j k (inl (λ same. apart (sym same)))

  part_out : (j k : ℕ) → 512 ≤ j → G g j k ≡ None
  part_out j k past = uses-table_out m proper.level g j k below_is past

  folded_uses : IsUnfolded B (cut G t i) t i g (page_count place.level) (page_count (place.level + 1)) (λ k. used Data (Some rd) 0 (number_of m a + k))
  folded_uses =
      let s = sizes place.level few in
      record {
        some = s.2;
        whole = s.1;
        block = λ k lt. block_then k ∙ block_uses m proper rd ipa place end ripas a few k begin lt;
        block_end = λ k past. block_then k ∙ block_end m proper rd ipa place end ripas a few k past;
        parts = λ j k lt within. cut_there_too j k ∙ part_there j k lt ∙ child_uses m proper rd ipa place end ripas a few begin j k (child_there j lt) within;
        parts_end = λ j k out. cut_there_too j k ∙ ⊎_elim
            (λ (past : 512 ≤ j). part_out j k past)
            (λ (past : page_count (place.level + 1) ≤ k). ⊎_elim
            (λ (lt : j < 512). part_there j k lt ∙ child_end m proper rd ipa place end ripas a few begin j k past)
            (λ (also : 512 ≤ j). part_out j k also)
            (cases_lt j 512))
            out;
        cut = λ k. cut_there G t i k;
        free = λ j k. uses-plain n proper.level g j k (ap is_user (freed_is m proper rd ipa place end g (Assigned ripas a) in_machine apart fits));
        beside = all_then;
      }

  less : IsMore (cut G t i) G (used_at n proper.level) (used_at m proper.level)
  less =
      cut_more G (used_at n proper.level) (used_at m proper.level) t i g one only
      (ap has_user (freed_is m proper rd ipa place end g (Assigned ripas a) in_machine apart fits)) (ap has_user below_is)
      (λ h other. sym (used_at-same m n refl count_then proper.level proper.level h (granules_then h other) refl))
      (λ h. refl) (λ h. refl)

  not_freed : (h : ℕ) → (granule_at n h).state ≡ Rtt → h ≢ g
  not_freed h now same =
      let states : (granule_at n h).state ≡ (granule_at n g).state = ap (λ (x : ℕ). (granule_at n x).state) same in
      let free = freed_is m proper rd ipa place end g (Assigned ripas a) in_machine apart fits in
      cc

  still : (h : ℕ) → (granule_at n h).state ≡ Rtt → (granule_at m h).state ≡ Rtt
  still h now = sym (ap (λ (r : RmmGranule). r.state) (granules_then h (not_freed h now))) ∙ now

  leads_then : (x j : ℕ) → (granule_at n x).state ≡ Rtt → j < 512 → LeadsInside m (entry_in_page (page_in n x) j)
  leads_then x j now lt =
      ⊎_elim
      (λ (here : x ≡ t).
      subst (λ (y : ℕ). LeadsInside m (entry_in_page (page_in n y) j)) (sym here)
      (⊎_elim
      (λ (same : j ≡ i).
      subst (λ (k : ℕ). LeadsInside m (entry_in_page (page_in n t) k)) (sym same)
      (subst (LeadsInside m) (sym (entry_then m proper rd ipa place end g (Assigned ripas a) in_machine apart fits)) begin))
      (λ (other : j ≢ i).
      subst (LeadsInside m) (sym (entry_other m proper rd ipa place end g (Assigned ripas a) in_machine apart fits j lt other)) (proper.inside t j table_is lt))
      (cases_eq j i)))
      (λ (other : x ≢ t).
      subst (λ (p : List ℕ). LeadsInside m (entry_in_page p j)) (sym (page_other m proper rd ipa place end g (Assigned ripas a) in_machine apart fits x (not_freed x now) other)) (proper.inside x j (still x now) lt))
      (cases_eq x t)

  folded_proper : IsLinked n
  folded_proper = record {
    sound = freed_sound m proper rd ipa place end g (Assigned ripas a) in_machine apart fits;
    level = proper.level;
    roles = folded_roles B (cut G t i) t i g (page_count place.level) (page_count (place.level + 1)) (λ k. used Data (Some rd) 0 (number_of m a + k)) folded_uses
        (used_at n proper.level) (λ h. refl) (removed (cut G t i) G (used_at n proper.level) (used_at m proper.level) less proper.roles);
    most = λ x now. proper.most x (still x now);
    inside = λ x j now lt. leads-same m n refl count_then (entry_in_page (page_in n x) j) (leads_then x j now lt);
  }

pub block_folded : (m : Machine) (proper : IsLinked m) (rd ipa level : ℕ) (place : RttWalk) (end : IsPlace m proper rd ipa place) → place.level + 1 ≡ level → level ≤ 3 → (g : ℕ)
    → IsPlace m proper rd ipa (record { table = g; level = place.level + 1 }) → place.table ≢ g
    → uses m proper.level place.table (entry_index place.level ipa) 0 ≡ Some (used_at m proper.level g) → ((k : ℕ) → k ≢ 0 → uses m proper.level place.table (entry_index place.level ipa) k ≡ None)
    → (first : RmmRttEntry) → entry_in_page (page_in m g) 0 ≡ first → is_table first ≡ false → is_free first ≡ false → has_parts (page_in m g) first level 512 0 ≡ true
    → IsLinked (with_blank (with_entry m place ipa first) g Delegated)
block_folded m proper rd ipa level place end one_below most g below apart one only (Assigned ripas a) is not_table block parts = folded_proper m proper rd ipa level place end one_below most g below apart one only ripas a is parts
block_folded m proper rd ipa level place end one_below most g below apart one only (Table a) is not_table block parts = absurd (cc)
block_folded m proper rd ipa level place end one_below most g below apart one only (Unassigned ripas) is not_table block parts = absurd (cc)
block_folded m proper rd ipa level place end one_below most g below apart one only UnassignedNs is not_table block parts = absurd (cc)
block_folded m proper rd ipa level place end one_below most g below apart one only (AssignedNs desc) is not_table block parts = absurd (cc)
