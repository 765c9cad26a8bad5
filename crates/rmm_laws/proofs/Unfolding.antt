-- A proof that each granule keeps one role when RTT_CREATE replaces a block of memory by a table.
use Rattle.std.proofs.Common.{◌≡◌, ◌≢◌, ℕ, ◌+◌, ◌*◌, ◌%◌, ◌^◌, ◌<◌, ◌≤◌, ◌⊎◌, inl, ◌==◌, true, false, List, length, Option, Some, None, option_map, refl, sym, ap, subst, ◌∙◌, ⊎_elim, lit≤, arith}
use Rattle.std.specs.Prelude.{if◌then◌else◌}
use Rattle.std.proofs.lemmas.Bool.{cases_eq, cases_lt, cond-true, cond-false, ne_eqb, lt-ltb, le-ltb}
use Rattle.granule_addr.specs.Page.{zero_page}
use Rattle.page_arena.specs.Pages.{length-page_of}
use Rattle.rmm_model.specs.declared.entry.RmmRipas.{RmmRipas}
use Rattle.rmm_model.specs.declared.entry.RmmRttEntry.{RmmRttEntry}
use Rattle.rmm_model.specs.declared.entry.RmmRttEntry.TheVariants.{Unassigned, Assigned, Table, UnassignedNs, AssignedNs}
use Rattle.rmm_model.specs.declared.granule.RmmGranule.{RmmGranule}
use Rattle.rmm_model.specs.declared.granule.RmmGranuleState.TheVariants.{Delegated, Data, Rtt}
use Rattle.rmm_model.specs.declared.realm.RttWalk.{RttWalk}
use Rattle.rmm_model.specs.Entry.{entry_of, entry_word, child_entry, is_table}
use Rattle.rmm_model.specs.Granule.{of_realm}
use Rattle.rmm_model.specs.Level.{entry_size, entry_index}
use Rattle.rmm_model.specs.Machine.{Machine, granule_at, page_in, is_inside, number_of, with_granule, with_page}
use Rattle.rmm_model.specs.Table.{entry_in_page, children_page}
use Rattle.rmm_model.specs.Walk.{entry_at, with_entry}
use Rattle.rmm_laws.specs.Role.{Used, used, used_at, has_user, page_count, entry_uses, uses, IsLinked, IsBegin, LeadsInside}
use Rattle.rmm_laws.proofs.Blocks.{cut, cut_there, cut_beside, cut_more, sizes, block_uses, block_end, child_begin, child_uses, child_end}
use Rattle.rmm_laws.proofs.Children.{is_free, length-children}
use Rattle.rmm_laws.proofs.Entries.{number_inside, address_few, begins, named_inside}
use Rattle.rmm_laws.proofs.EntryWords.{entry_of-entry_word, entry_word-fits}
use Rattle.rmm_laws.proofs.Mapped.{count, entry_now, entry_beside, granule_beside, level_beside, level_now, page_beside, content_now, content_uses, used_now, new_sound}
use Rattle.rmm_laws.proofs.Moves.{IsUnfolded, unfolded_roles}
use Rattle.rmm_laws.proofs.OneMore.{uses-table_in, uses-table_out}
use Rattle.rmm_laws.proofs.PageWords.{word_of_page-with_words}
use Rattle.rmm_laws.proofs.Uses.{IsMore, has_user_at, added}
use Rattle.rmm_laws.proofs.Walks.{IsPlace, right, uses-entry, entry_index-few}
use Rattle.rmm_laws.proofs.Writes.{taken_inside, uses-same, uses-plain, entry_uses-same, used_at-same, leads-same, is_user}

module _ (m : Machine) (proper : IsLinked m) (rd rtt ipa level : ℕ) (place : RttWalk) (end : IsPlace m proper rd ipa place) (one_below : place.level + 1 ≡ level) (most : level ≤ 3)
    (inside : is_inside m rtt ≡ true) (aligned : rtt % 4096 ≡ 0) (free : (granule_at m (number_of m rtt)).state ≡ Delegated) (ripas : RmmRipas) (a : ℕ) (is : entry_at m place ipa ≡ Assigned ripas a) where
  abbrev t : ℕ
  t = place.table

  abbrev i : ℕ
  i = entry_index place.level ipa

  abbrev g : ℕ
  g = number_of m rtt

  abbrev content : List ℕ
  content = children_page (Assigned ripas a) level

  abbrev n : Machine
  n = with_entry (with_granule (with_page m g content) g (of_realm rd Rtt)) place ipa (Table rtt)

  page_long : length content ≡ 4096
  page_long = length-children (Assigned ripas a) level

  in_machine : number_of m rtt < length m.granules
  in_machine = number_inside m rtt inside

  few : place.level ≤ 2
  few = omega arith

  index : i < 512
  index = entry_index-few place.level ipa

  table_is : (granule_at m t).state ≡ Rtt
  table_is = ap (λ (r : RmmGranule). r.state) end.table

  -- the memory of the block begins where a granule begins
  begin : IsBegin m a
  unfolding entry_at
  begin = subst (LeadsInside m) is (proper.inside t i table_is index)

  entry_is : (k : ℕ) → uses m proper.level t i k ≡ entry_uses m (Some rd) place.level (Assigned ripas a) k
  unfolding entry_at
  entry_is k = uses-entry m proper rd ipa place i k end index ∙ ap (λ (e : RmmRttEntry). entry_uses m (Some rd) place.level e k) is

  pub page_in_machine : (k : ℕ) → k < page_count place.level → number_of m a + k < length m.granules
  page_in_machine k lt =
      let gives = entry_is k ∙ block_uses m proper rd ipa place end ripas a few k begin lt in
      let it : (granule_at m (number_of m a + k)).state ≡ Data = sym (ap (λ (u : Used). u.attributes.state) (right m proper t i k (used Data (Some rd) 0 (number_of m a + k)) gives)) in
      taken_inside m (number_of m a + k) (λ none. cc)

  -- the memory of each entry of the new table begins where a granule begins
  child_at : (j : ℕ) → j < 512 → IsBegin m (a + j * entry_size (place.level + 1))
  child_at j lt =
      let s = sizes place.level few in
      let whole = s.1 in
      let some = s.2 in
      let c : ℕ = page_count (place.level + 1) in
      let low : j ≤ 511 = omega arith in
      let high : j * c ≤ 511 * c = grind arith in
      child_begin m proper rd ipa place end ripas a few begin j (page_in_machine (j * c) (omega arith))

  pub child_entry_is : (j : ℕ) → j < 512 → entry_in_page content j ≡ Assigned ripas (a + j * entry_size (place.level + 1))
  unfolding children_page entry_in_page
  child_entry_is j lt =
      let levels : entry_size level ≡ entry_size (place.level + 1) = ap entry_size (sym one_below) in
      let same : child_entry (Assigned ripas a) level j ≡ Assigned ripas (a + j * entry_size (place.level + 1)) = ap (λ (s : ℕ). Assigned ripas (a + j * s)) levels in
      ap entry_of
      (word_of_page-with_words (λ (k : ℕ). entry_word (child_entry (Assigned ripas a) level k)) zero_page (length-page_of 0) 512 j (lit≤ tt) lt (entry_word-fits (child_entry (Assigned ripas a) level j))
      ∙ ap entry_word same)
      ∙ entry_of-entry_word (Assigned ripas (a + j * entry_size (place.level + 1))) (address_few m (a + j * entry_size (place.level + 1)) proper.sound (child_at j lt).0)

  abbrev after : ℕ → ℕ
  after h = if h == g then place.level + 1 else proper.level h

  abbrev G : ℕ → ℕ → ℕ → Option Used
  G = uses n after

  apart : t ≢ g
  apart same =
      let states : (granule_at m t).state ≡ (granule_at m g).state = ap (λ (k : ℕ). (granule_at m k).state) same in
      let s = table_is in
      let f = free in
      cc

  fits : rtt < 2 ^ 48
  fits = address_few m rtt proper.sound inside

  new_count : length n.granules ≡ length m.granules
  new_count = count m proper rd ipa place end g in_machine free Rtt content page_long (Table rtt) tt fits

  entry_new : entry_in_page (page_in n t) i ≡ Table rtt
  entry_new = entry_now m proper rd ipa place end g in_machine free Rtt content page_long (Table rtt) tt fits

  state_new : (granule_at n t).state ≡ Rtt
  state_new = ap (λ (r : RmmGranule). r.state) (granule_beside m proper rd ipa place end g in_machine free Rtt content page_long (Table rtt) tt fits t apart) ∙ table_is

  -- in the new machine, the table at the walk's place uses at each index what its entry there uses
  table_uses : (j k : ℕ) → j < 512 → G t j k ≡ entry_uses m (Some rd) place.level (entry_in_page (page_in n t) j) k
  table_uses j k lt =
      uses-table_in n after t j k state_new lt
      ∙ ap (λ (r : RmmGranule). entry_uses n r.owner (after t) (entry_in_page (page_in n t) j) k) (granule_beside m proper rd ipa place end g in_machine free Rtt content page_long (Table rtt) tt fits t apart ∙ end.table)
      ∙ ap (λ (h : ℕ). entry_uses n (Some rd) h (entry_in_page (page_in n t) j) k) (level_beside m proper rd ipa place end g in_machine free Rtt content page_long (Table rtt) tt fits t apart ∙ end.level)
      ∙ entry_uses-same m n refl new_count (Some rd) place.level (entry_in_page (page_in n t) j) k

  level_new : after g ≡ place.level + 1
  level_new = level_now m proper rd ipa place end g in_machine free Rtt content page_long (Table rtt) tt fits

  part_uses : (j k : ℕ) → j < 512 → G g j k ≡ entry_uses m (Some rd) (place.level + 1) (Assigned ripas (a + j * entry_size (place.level + 1))) k
  part_uses j k lt =
      content_uses m proper rd ipa place end g in_machine free Rtt content page_long (Table rtt) tt fits j k
      ∙ cond-true _ _ _ (lt-ltb j 512 lt)
      ∙ ap (λ (e : RmmRttEntry). entry_uses m (Some rd) (place.level + 1) e k) (child_entry_is j lt)

  part_none : (j k : ℕ) → 512 ≤ j → G g j k ≡ None
  part_none j k past =
      content_uses m proper rd ipa place end g in_machine free Rtt content page_long (Table rtt) tt fits j k ∙ cond-false _ _ _ (le-ltb j 512 past)

  table_beside : (j k : ℕ) → j ≢ i → G t j k ≡ uses m proper.level t j k
  table_beside j k other =
      ⊎_elim
      (λ (lt : j < 512).
      table_uses j k lt
      ∙ ap (λ (e : RmmRttEntry). entry_uses m (Some rd) place.level e k) (entry_beside m proper rd ipa place end g in_machine free Rtt content page_long (Table rtt) tt fits j lt other)
      ∙ sym (uses-entry m proper rd ipa place j k end lt))
      (λ (past : 512 ≤ j). uses-table_out n after t j k state_new past ∙ sym (uses-table_out m proper.level t j k table_is past))
      (cases_lt j 512)

  all_beside : (x j k : ℕ) → x ≢ g → (x ≢ t) ⊎ (j ≢ i) → cut G t i x j k ≡ uses m proper.level x j k
  all_beside x j k other old =
      cut_beside G t i x j k old
      ∙ ⊎_elim
      (λ (here : x ≡ t).
      subst (λ (y : ℕ). G y j k ≡ uses m proper.level y j k) (sym here)
      (table_beside j k (⊎_elim (λ (ne : x ≢ t). absurd (ne here)) (λ (ne : j ≢ i). ne) old)))
      (λ (ne : x ≢ t).
      uses-same m n refl new_count proper.level after x j k
      (granule_beside m proper rd ipa place end g in_machine free Rtt content page_long (Table rtt) tt fits x other)
      (page_beside m proper rd ipa place end g in_machine free Rtt content page_long (Table rtt) tt fits x other ne)
      (level_beside m proper rd ipa place end g in_machine free Rtt content page_long (Table rtt) tt fits x other))
      (cases_eq x t)

  -- leaving out the uses by entry `i` of table `t` does not change the uses of the new table `g`
  cut_part : (j k : ℕ) → cut G t i g j k ≡ G g j k
  cut_part j k = cut_beside G t i g j k (inl (λ same. apart (sym same)))

  unfolded : IsUnfolded (uses m proper.level) (cut G t i) t i g (page_count place.level) (page_count (place.level + 1)) (λ k. used Data (Some rd) 0 (number_of m a + k))
  unfolded =
      let s = sizes place.level few in
      record {
        some = s.2;
        whole = s.1;
        block = λ k lt. entry_is k ∙ block_uses m proper rd ipa place end ripas a few k begin lt;
        block_end = λ k past. entry_is k ∙ block_end m proper rd ipa place end ripas a few k past;
        parts = λ j k lt within. cut_part j k ∙ part_uses j k lt ∙ child_uses m proper rd ipa place end ripas a few begin j k (child_at j lt) within;
        parts_end = λ j k out. cut_part j k ∙ ⊎_elim
            (λ (past : 512 ≤ j). part_none j k past)
            (λ (past : page_count (place.level + 1) ≤ k). ⊎_elim
            (λ (lt : j < 512). part_uses j k lt ∙ child_end m proper rd ipa place end ripas a few begin j k past)
            (λ (also : 512 ≤ j). part_none j k also)
            (cases_lt j 512))
            out;
        cut = λ k. cut_there G t i k;
        free = λ j k. uses-plain m proper.level g j k (ap is_user free);
        beside = all_beside;
      }

  used_new : used_at n after g ≡ used Rtt (Some rd) (place.level + 1) g
  used_new = used_now m proper rd ipa place end g in_machine free Rtt content page_long (Table rtt) tt fits

  table_entry : (k : ℕ) → G t i k ≡ entry_uses m (Some rd) place.level (Table rtt) k
  table_entry k = table_uses i k index ∙ ap (λ (e : RmmRttEntry). entry_uses m (Some rd) place.level e k) entry_new

  one : G t i 0 ≡ Some (used_at n after g)
  one = table_entry 0 ∙ ap (option_map (used Rtt (Some rd) (place.level + 1))) (named_inside m rtt inside) ∙ ap (λ (u : Used). Some u) (sym used_new)

  more : IsMore (cut G t i) G (used_at m proper.level) (used_at n after)
  more =
      cut_more G (used_at m proper.level) (used_at n after) t i g one
      (λ k rest. table_entry k ∙ cond-false (k == 0) _ _ (ne_eqb k 0 rest))
      (ap has_user free) (ap has_user_at used_new)
      (λ h other. used_at-same m n refl new_count proper.level after h
      (granule_beside m proper rd ipa place end g in_machine free Rtt content page_long (Table rtt) tt fits h other)
      (level_beside m proper rd ipa place end g in_machine free Rtt content page_long (Table rtt) tt fits h other))
      (λ h. refl) (λ h. refl)

  was_table : (h : ℕ) → h ≢ g → (granule_at n h).state ≡ Rtt → (granule_at m h).state ≡ Rtt
  was_table h other now = sym (ap (λ (r : RmmGranule). r.state) (granule_beside m proper rd ipa place end g in_machine free Rtt content page_long (Table rtt) tt fits h other)) ∙ now

  leads_now : (x j : ℕ) → (granule_at n x).state ≡ Rtt → j < 512 → LeadsInside m (entry_in_page (page_in n x) j)
  leads_now x j now lt =
      ⊎_elim
      (λ (it : x ≡ g).
      subst (λ (y : ℕ). LeadsInside m (entry_in_page (page_in n y) j)) (sym it)
      (subst (λ (p : List ℕ). LeadsInside m (entry_in_page p j)) (sym (content_now m proper rd ipa place end g in_machine free Rtt content page_long (Table rtt) tt fits))
      (subst (LeadsInside m) (sym (child_entry_is j lt)) (child_at j lt))))
      (λ (ne : x ≢ g).
      ⊎_elim
      (λ (here : x ≡ t).
      subst (λ (y : ℕ). LeadsInside m (entry_in_page (page_in n y) j)) (sym here)
      (⊎_elim
      (λ (same : j ≡ i).
      subst (λ (k : ℕ). LeadsInside m (entry_in_page (page_in n t) k)) (sym same) (subst (LeadsInside m) (sym entry_new) (begins m rtt proper.sound inside aligned)))
      (λ (other : j ≢ i).
      subst (LeadsInside m) (sym (entry_beside m proper rd ipa place end g in_machine free Rtt content page_long (Table rtt) tt fits j lt other)) (proper.inside t j table_is lt))
      (cases_eq j i)))
      (λ (other : x ≢ t).
      subst (λ (p : List ℕ). LeadsInside m (entry_in_page p j)) (sym (page_beside m proper rd ipa place end g in_machine free Rtt content page_long (Table rtt) tt fits x ne other)) (proper.inside x j (was_table x ne now) lt))
      (cases_eq x t))
      (cases_eq x g)

  unfolded_proper : IsLinked n
  unfolded_proper = record {
    sound = new_sound m proper rd ipa place end g in_machine free Rtt content page_long (Table rtt) tt fits;
    level = after;
    roles = added (cut G t i) G (used_at m proper.level) (used_at n after) more
        (unfolded_roles (uses m proper.level) (cut G t i) t i g (page_count place.level) (page_count (place.level + 1)) (λ k. used Data (Some rd) 0 (number_of m a + k)) unfolded
        (used_at m proper.level) (λ h. refl) proper.roles);
    most = λ x now. ⊎_elim
        (λ (it : x ≡ g). subst (λ (h : ℕ). after h ≤ 3) (sym it) (subst (λ (k : ℕ). k ≤ 3) (sym level_new) (omega arith)))
        (λ (ne : x ≢ g).
        subst (λ (k : ℕ). k ≤ 3) (sym (level_beside m proper rd ipa place end g in_machine free Rtt content page_long (Table rtt) tt fits x ne)) (proper.most x (was_table x ne now)))
        (cases_eq x g);
    inside = λ x j now lt. leads-same m n refl new_count (entry_in_page (page_in n x) j) (leads_now x j now lt);
  }

pub block_made : (m : Machine) (proper : IsLinked m) (rd rtt ipa level : ℕ) (place : RttWalk) (end : IsPlace m proper rd ipa place) → place.level + 1 ≡ level → level ≤ 3
    → is_inside m rtt ≡ true → rtt % 4096 ≡ 0 → (granule_at m (number_of m rtt)).state ≡ Delegated → (parent : RmmRttEntry) → entry_at m place ipa ≡ parent → is_table parent ≡ false → is_free parent ≡ false
    → IsLinked (with_entry (with_granule (with_page m (number_of m rtt) (children_page parent level)) (number_of m rtt) (of_realm rd Rtt)) place ipa (Table rtt))
block_made m proper rd rtt ipa level place end below most inside aligned free (Assigned ripas a) is not_table block = unfolded_proper m proper rd rtt ipa level place end below most inside aligned free ripas a is
block_made m proper rd rtt ipa level place end below most inside aligned free (Table a) is not_table block = absurd (cc)
block_made m proper rd rtt ipa level place end below most inside aligned free (Unassigned ripas) is not_table block = absurd (cc)
block_made m proper rd rtt ipa level place end below most inside aligned free UnassignedNs is not_table block = absurd (cc)
block_made m proper rd rtt ipa level place end below most inside aligned free (AssignedNs desc) is not_table block = absurd (cc)
