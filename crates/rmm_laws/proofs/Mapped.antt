-- Proofs that each granule keeps one role when an entry begins to use a DELEGATED granule, or ends its use of a granule
-- that becomes DELEGATED.
use Rattle.std.proofs.Common.{◌≡◌, ◌≢◌, ℕ, ◌+◌, ◌^◌, ◌<◌, ◌≤◌, ◌==◌, true, List, length, IfSome, Option, Some, None, refl, sym, ap, subst, ◌∙◌, arith}
use Rattle.std.specs.Prelude.{if◌then◌else◌}
use Rattle.std.proofs.lemmas.Bool.{cond-true, cond-false, eq-eqb, ne_eqb}
use Rattle.std.proofs.lemmas.List.{length-set}
use Rattle.granule_addr.specs.Page.{zero_page}
use Rattle.page_arena.specs.Pages.{length-page_of}
use Rattle.rmm_model.specs.declared.entry.RmmRttEntry.{RmmRttEntry}
use Rattle.rmm_model.specs.declared.granule.RmmGranule.{RmmGranule}
use Rattle.rmm_model.specs.declared.granule.RmmGranuleState.{RmmGranuleState}
use Rattle.rmm_model.specs.declared.granule.RmmGranuleState.TheVariants.{Delegated, Rtt}
use Rattle.rmm_model.specs.declared.realm.RttWalk.{RttWalk}
use Rattle.rmm_model.specs.Entry.{descriptor_of}
use Rattle.rmm_model.specs.Granule.{of_no_realm, of_realm, realm_of}
use Rattle.rmm_model.specs.Level.{entry_index}
use Rattle.rmm_model.specs.Machine.{Machine, granule_at, page_in, with_granule, with_page, with_blank}
use Rattle.rmm_model.specs.Realm.{IsServed}
use Rattle.rmm_model.specs.Table.{entry_in_page}
use Rattle.rmm_model.specs.Walk.{entry_at, with_entry}
use Rattle.rmm_laws.specs.Role.{Used, used, used_at, has_user, level_in, entry_uses, state_uses, uses, IsSound, IsLinked, LeadsInside}
use Rattle.rmm_laws.proofs.Entries.{entry-same, entry-other, sound-with_entry}
use Rattle.rmm_laws.proofs.OneMore.{IsOneMore, one_more_proper, one_less_proper}
use Rattle.rmm_laws.proofs.Walks.{IsPlace, entry_index-few}
use Rattle.rmm_laws.proofs.Writes.{taken_inside, granule_at-same, granule_at-other, page_in-same, page_in-other, entry_uses-same, state_uses-same, sound-with_granule, sound-with_page}

-- ---- one more

module _ (m : Machine) (proper : IsLinked m) (rd ipa : ℕ) (place : RttWalk) (place_is : IsPlace m proper rd ipa place)
    (g : ℕ) (inside : g < length m.granules) (free : (granule_at m g).state ≡ Delegated)
    (state : RmmGranuleState) (content : List ℕ) (whole : length content ≡ 4096) (entry : RmmRttEntry) where
  abbrev t : ℕ
  t = place.table

  abbrev i : ℕ
  i = entry_index place.level ipa

  abbrev kept : RmmGranule
  kept = of_realm rd state

  abbrev filled : Machine
  filled = with_page m g content

  abbrev marked : Machine
  marked = with_granule filled g kept

  abbrev new_machine : Machine
  new_machine = with_entry marked place ipa entry

  abbrev level_after : ℕ → ℕ
  level_after h = if h == g then place.level + 1 else proper.level h

  is_table : (granule_at m t).state ≡ Rtt
  is_table = ap (λ (r : RmmGranule). r.state) place_is.table

  other : t ≢ g
  other same =
      let states : (granule_at m t).state ≡ (granule_at m g).state = ap (λ (k : ℕ). (granule_at m k).state) same in
      let s = is_table in
      let f = free in
      cc

  t_inside : t < length m.granules
  t_inside = let s = is_table in taken_inside m t (λ (none : _). cc)

  module _ (served : IfSome (realm_of state) (IsServed (length m.granules))) (fits : descriptor_of entry < 2 ^ 48) where
    filled_sound : IsSound filled
    filled_sound = sound-with_page m g content whole proper.sound

    marked_sound : IsSound marked
    marked_sound = sound-with_granule filled g kept inside served filled_sound

    pub count : length marked.granules ≡ length m.granules
    count = length-set m.granules g kept

    pub index : i < 512
    index = entry_index-few place.level ipa

    t_there : t < length marked.granules
    t_there = let c = count in let s = t_inside in omega arith

    pub new_sound : IsSound new_machine
    new_sound = sound-with_entry marked t i entry marked_sound t_there index

    pub now : granule_at new_machine g ≡ kept
    now = granule_at-same filled g kept inside

    pub content_now : page_in new_machine g ≡ content
    content_now = let p = proper.sound.pages in page_in-other marked t g _ (λ same. other (sym same)) ∙ page_in-same m g content (omega arith)

    old_page : page_in marked t ≡ page_in m t
    old_page = page_in-other m g t content other

    pub entry_now : entry_in_page (page_in new_machine t) i ≡ entry
    entry_now = entry-same marked t i entry marked_sound t_there index fits

    pub level_now : level_after g ≡ place.level + 1
    level_now = cond-true (g == g) (place.level + 1) (proper.level g) (eq-eqb g g refl)

    pub used_now : used_at new_machine level_after g ≡ used state (Some rd) (level_in state (place.level + 1)) g
    used_now =
        ap (λ (r : RmmGranule). record { number = g; attributes = r; level = level_in r.state (level_after g) }) now
        ∙ ap (λ (l : ℕ). record { number = g; attributes = kept; level = level_in state l }) level_now

    owner_is : (granule_at m t).owner ≡ Some rd
    owner_is = ap (λ (r : RmmGranule). r.owner) place_is.table

    -- `entry_uses` is the same with the owner and the level of the table as with the RD and the level of the walk
    pub by_place : (n : Machine) (e : RmmRttEntry) (k : ℕ) → entry_uses n (granule_at m t).owner (proper.level t) e k ≡ entry_uses n (Some rd) place.level e k
    by_place n e k = ap (λ (o : Option ℕ). entry_uses n o (proper.level t) e k) owner_is ∙ ap (λ (l : ℕ). entry_uses n (Some rd) l e k) place_is.level

    pub new_uses : (k : ℕ) → entry_uses new_machine (granule_at m t).owner (proper.level t) (entry_in_page (page_in new_machine t) i) k ≡ entry_uses m (Some rd) place.level entry k
    new_uses k =
        by_place new_machine (entry_in_page (page_in new_machine t) i) k
        ∙ ap (λ (e : RmmRttEntry). entry_uses new_machine (Some rd) place.level e k) entry_now
        ∙ entry_uses-same m new_machine refl count (Some rd) place.level entry k

    pub entry_beside : (j : ℕ) → j < 512 → j ≢ i → entry_in_page (page_in new_machine t) j ≡ entry_in_page (page_in m t) j
    entry_beside j lt ne = entry-other marked t i entry marked_sound t_there index j lt ne ∙ ap (λ (p : List ℕ). entry_in_page p j) old_page

    pub level_beside : (h : ℕ) → h ≢ g → level_after h ≡ proper.level h
    level_beside h ne = cond-false (h == g) (place.level + 1) (proper.level h) (ne_eqb h g ne)

    pub page_beside : (h : ℕ) → h ≢ g → h ≢ t → page_in new_machine h ≡ page_in m h
    page_beside h ne apart = page_in-other marked t h _ apart ∙ page_in-other m g h content ne

    pub granule_beside : (h : ℕ) → h ≢ g → granule_at new_machine h ≡ granule_at m h
    granule_beside h ne = granule_at-other filled g h kept ne

    -- in the new machine, granule `g` uses what `state_uses` gives for its new state and contents
    pub content_uses : (j k : ℕ) → uses new_machine level_after g j k ≡ state_uses m state (Some rd) (place.level + 1) content g j k
    unfolding uses
    content_uses j k =
        state_uses-same m new_machine refl count (granule_at new_machine g).state (granule_at new_machine g).owner (level_after g) (page_in new_machine g) g j k
        ∙ ap (λ (r : RmmGranule). state_uses m r.state r.owner (level_after g) (page_in new_machine g) g j k) now
        ∙ ap (λ (p : List ℕ). state_uses m state (Some rd) (level_after g) p g j k) content_now
        ∙ ap (λ (l : ℕ). state_uses m state (Some rd) l content g j k) level_now

    module _ (is_used : has_user state ≡ true)
        (old : (k : ℕ) → entry_uses m (Some rd) place.level (entry_at m place ipa) k ≡ None)
        (new : entry_uses m (Some rd) place.level entry 0 ≡ Some (used state (Some rd) (level_in state (place.level + 1)) g))
        (only : (k : ℕ) → k ≢ 0 → entry_uses m (Some rd) place.level entry k ≡ None)
        (empty : (j k : ℕ) → state_uses m state (Some rd) (place.level + 1) content g j k ≡ None)
        (few : state ≡ Rtt → place.level + 1 ≤ 3) (leads : LeadsInside m entry)
        (below : state ≡ Rtt → (j : ℕ) → j < 512 → LeadsInside m (entry_in_page content j)) where
      one_more : IsOneMore m new_machine proper.level level_after t i g
      unfolding entry_at
      one_more = record {
        settings = refl;
        count = count;
        table = is_table;
        index = index;
        free = free;
        made = ap (λ (r : RmmGranule). has_user r.state) now ∙ is_used;
        beside = granule_beside;
        levels = level_beside;
        pages = page_beside;
        old = λ k. by_place m (entry_in_page (page_in m t) i) k ∙ old k;
        new = new_uses 0 ∙ new ∙ ap (λ (u : Used). Some u) (sym used_now);
        only = λ k rest. new_uses k ∙ only k rest;
        empty = λ j k. content_uses j k ∙ empty j k;
        entries = entry_beside;
      }

      was_state : (granule_at new_machine g).state ≡ Rtt → state ≡ Rtt
      was_state is = sym (ap (λ (r : RmmGranule). r.state) now) ∙ is

      pub mapped : IsLinked new_machine
      mapped = one_more_proper m new_machine proper level_after t i g one_more new_sound
          (λ is. subst (λ (l : ℕ). l ≤ 3) (sym level_now) (few (was_state is)))
          (subst (LeadsInside m) (sym entry_now) leads)
          (λ is j lt. subst (λ (p : List ℕ). LeadsInside m (entry_in_page p j)) (sym content_now) (below (was_state is) j lt))

-- ---- one less

module _ (m : Machine) (proper : IsLinked m) (rd ipa : ℕ) (place : RttWalk) (place_is : IsPlace m proper rd ipa place) (g : ℕ) (left : RmmRttEntry) where
  abbrev here : ℕ
  here = place.table

  abbrev at : ℕ
  at = entry_index place.level ipa

  abbrev cut : Machine
  cut = with_entry m place ipa left

  abbrev freed : Machine
  freed = with_blank cut g Delegated

  table_is : (granule_at m here).state ≡ Rtt
  table_is = ap (λ (r : RmmGranule). r.state) place_is.table

  here_inside : here < length m.granules
  here_inside = let s = table_is in taken_inside m here (λ (none : _). cc)

  module _ (inside : g < length m.granules) (apart : here ≢ g) (fits : descriptor_of left < 2 ^ 48) where
    few_index : at < 512
    few_index = entry_index-few place.level ipa

    cut_sound : IsSound cut
    cut_sound = sound-with_entry m here at left proper.sound here_inside few_index

    pub freed_count : length freed.granules ≡ length m.granules
    freed_count = length-set m.granules g (of_no_realm Delegated)

    pub freed_sound : IsSound freed
    freed_sound = sound-with_page (with_granule cut g (of_no_realm Delegated)) g zero_page (length-page_of 0) (sound-with_granule cut g (of_no_realm Delegated) inside tt cut_sound)

    page_then : page_in freed here ≡ page_in cut here
    page_then = page_in-other (with_granule cut g (of_no_realm Delegated)) g here zero_page apart

    pub entry_then : entry_in_page (page_in freed here) at ≡ left
    entry_then = ap (λ (p : List ℕ). entry_in_page p at) page_then ∙ entry-same m here at left proper.sound here_inside few_index fits

    pub same_table : granule_at freed here ≡ granule_at m here
    same_table = granule_at-other cut g here (of_no_realm Delegated) apart

    owner_then : (granule_at freed here).owner ≡ Some rd
    owner_then = ap (λ (r : RmmGranule). r.owner) (same_table ∙ place_is.table)

    -- `entry_uses` is the same with the owner and the level of the table as with the RD and the level of the walk
    place_uses : (n : Machine) (e : RmmRttEntry) (k : ℕ) → entry_uses n (granule_at freed here).owner (proper.level here) e k ≡ entry_uses n (Some rd) place.level e k
    place_uses n e k = ap (λ (o : Option ℕ). entry_uses n o (proper.level here) e k) owner_then ∙ ap (λ (l : ℕ). entry_uses n (Some rd) l e k) place_is.level

    pub granule_then : (h : ℕ) → h ≢ g → granule_at freed h ≡ granule_at m h
    granule_then h ne = granule_at-other cut g h (of_no_realm Delegated) ne

    pub page_other : (h : ℕ) → h ≢ g → h ≢ here → page_in freed h ≡ page_in m h
    page_other h ne other = page_in-other (with_granule cut g (of_no_realm Delegated)) g h zero_page ne ∙ page_in-other m here h _ other

    pub entry_other : (j : ℕ) → j < 512 → j ≢ at → entry_in_page (page_in freed here) j ≡ entry_in_page (page_in m here) j
    entry_other j lt ne = ap (λ (p : List ℕ). entry_in_page p j) page_then ∙ entry-other m here at left proper.sound here_inside few_index j lt ne

    pub freed_is : (granule_at freed g).state ≡ Delegated
    freed_is = ap (λ (r : RmmGranule). r.state) (granule_at-same cut g (of_no_realm Delegated) inside)

    module _ (is_used : has_user (granule_at m g).state ≡ true) (leads : LeadsInside m left)
        (none : (k : ℕ) → entry_uses m (Some rd) place.level left k ≡ None)
        (one : entry_uses m (Some rd) place.level (entry_at m place ipa) 0 ≡ Some (used_at m proper.level g))
        (only : (k : ℕ) → k ≢ 0 → entry_uses m (Some rd) place.level (entry_at m place ipa) k ≡ None)
        (empty : (j k : ℕ) → uses m proper.level g j k ≡ None) where
      one_less : IsOneMore freed m proper.level proper.level here at g
      unfolding entry_at
      one_less = record {
        settings = refl;
        count = sym freed_count;
        table = ap (λ (r : RmmGranule). r.state) same_table ∙ table_is;
        index = few_index;
        free = freed_is;
        made = is_used;
        beside = λ h ne. sym (granule_then h ne);
        levels = λ h ne. refl;
        pages = λ h ne other. sym (page_other h ne other);
        old = λ k.
            place_uses freed (entry_in_page (page_in freed here) at) k
            ∙ ap (λ (e : RmmRttEntry). entry_uses freed (Some rd) place.level e k) entry_then
            ∙ entry_uses-same m freed refl freed_count (Some rd) place.level left k
            ∙ none k;
        new = place_uses m (entry_in_page (page_in m here) at) 0 ∙ one;
        only = λ k rest. place_uses m (entry_in_page (page_in m here) at) k ∙ only k rest;
        empty = empty;
        entries = λ j lt ne. sym (entry_other j lt ne);
      }

      pub unmapped : IsLinked freed
      unmapped = one_less_proper freed m proper here at g one_less freed_sound (subst (LeadsInside m) (sym entry_then) leads)
