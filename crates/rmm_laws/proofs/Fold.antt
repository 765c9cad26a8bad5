-- A proof that RMI_RTT_FOLD undoes RMI_RTT_CREATE.
use Rattle.std.proofs.Common.{◌≡◌, ◌≢◌, ℕ, zero, suc, ◌+◌, ◌-◌, ◌*◌, ◌^◌, ◌<◌, ◌≤◌, ◌/◌, ◌%◌, ◌==◌, ◌&&◌, ◌||◌, ◌++◌, Bool, true, false, not, List, length, Option, Some, None, unwrap_or, refl, sym, ap, subst, ◌∙◌, ⊎_elim, arith}
use Rattle.std.specs.Prelude.{nat_le, is_none, is_some}
use Rattle.std.specs.Option.{option_map_or}
use Rattle.std.proofs.lemmas.Bool.{cases_Bool, cases_eq, or_right, and_parts, and_from, and_left, and_right, eq-eqb, eqb-true, leb-true, lt-leb, ltb-true, not-true}
use Rattle.std.proofs.lemmas.List.{length-set}
use Rattle.granule_addr.specs.Page.{zero_page}
use Rattle.page_arena.specs.Word.{word_of_page, page_with_word}
use Rattle.rmi_abi.specs.declared.call.Call.{Call}
use Rattle.rmi_abi.specs.declared.call.Call.TheVariants.{RttCreate, RttFold}
use Rattle.rmi_abi.specs.declared.registers.SmcResult.{SmcResult}
use Rattle.rmi_abi.specs.declared.word.Word.TheVariants.{Success}
use Rattle.rmm_model.specs.declared.entry.RmmRttEntry.{RmmRttEntry}
use Rattle.rmm_model.specs.declared.entry.RmmRttEntry.TheVariants.{Unassigned, Assigned, Table, UnassignedNs, AssignedNs}
use Rattle.rmm_model.specs.declared.granule.RmmGranule.{RmmGranule}
use Rattle.rmm_model.specs.declared.granule.RmmGranuleState.{RmmGranuleState}
use Rattle.rmm_model.specs.declared.granule.RmmGranuleState.TheVariants.{Delegated, Rd, Rtt}
use Rattle.rmm_model.specs.declared.realm.RmmRealm.{RmmRealm}
use Rattle.rmm_model.specs.declared.realm.RttWalk.{RttWalk}
use Rattle.rmm_model.specs.Call.{command_of, performed}
use Rattle.rmm_model.specs.Check.{Check, decided}
use Rattle.rmm_model.specs.Entry.{entry_of, entry_word, child_entry, descriptor_of, is_mapping, is_table}
use Rattle.rmm_model.specs.Granule.{of_no_realm, of_realm, is_delegated, realm_of}
use Rattle.rmm_model.specs.Level.{entry_size, entry_index}
use Rattle.rmm_model.specs.Machine.{Machine, granule_at, page_in, is_inside, number_of, state_at, with_granule, with_page, with_blank}
use Rattle.rmm_model.specs.Realm.{is_in_space, no_realm}
use Rattle.rmm_model.specs.Table.{entry_in_page, children_page, has_parts}
use Rattle.rmm_model.specs.Walk.{entry_at, with_entry, table_below, walk_from, start_of, walk}
use Rattle.rmm_model.specs.Command.Operand.{realm_at, rd_checks, ipa_checks, is_multiple}
use Rattle.rmm_model.specs.Command.RttCreate.{rtt_create}
use Rattle.rmm_model.specs.Command.RttFold.{rtt_fold, fold_checks, is_homogeneous, is_aligned_above, is_block_too_high}
use Rattle.rmm_laws.specs.Fold.{CanReplaceTable, IsAlike}
use Rattle.rmm_laws.specs.Proper.{IsProper}
use Rattle.rmm_laws.specs.Role.{IsSound, IsLinked}
use Rattle.rmm_laws.specs.Owner.{IsOrderly}
use Rattle.rmm_laws.proofs.Children.{children_word, length-children}
use Rattle.rmm_laws.proofs.Entries.{number_inside, address_few, named_inside, entry-same, entry-other}
use Rattle.rmm_laws.proofs.EntryWords.{descriptor-few, entry_of-entry_word}
use Rattle.rmm_laws.proofs.Freed.{succeeded}
use Rattle.rmm_laws.proofs.Mapped.{content_now, entry_now, entry_beside, page_beside, new_sound}
use Rattle.rmm_laws.proofs.Mappings.{place_is}
use Rattle.rmm_laws.proofs.Mistakes.{below_same}
use Rattle.rmm_laws.proofs.Passed.{Passed, yes_from, is_delegated-true, realm_of-some}
use Rattle.rmm_laws.proofs.Seats.{walk_seat}
use Rattle.rmm_laws.proofs.Teardown.{none_failing, no_more}
use Rattle.rmm_laws.proofs.Walks.{IsPlace, next, start_is, entry_index-few}
use Rattle.rmm_laws.proofs.Writes.{granule_at-same, granule_at-other, page_in-same, page_in-other, inside-same, number-same, taken_inside}

-- ---- walks that reach the level to which they go

module _ (m n : Machine) (linked : IsLinked m) (rd ipa : ℕ) where
  abbrev pub child : RttWalk → ℕ → RttWalk
  child place table = record { table = table; level = place.level + 1 }

  -- each entry on the walk above a level leads to the same table in both machines, or to none in both
  abbrev pub SameAbove : ℕ → Type 0
  SameAbove level = (p : RttWalk) → IsPlace m linked rd ipa p → p.level < level → table_below n (entry_at n p ipa) ≡ table_below m (entry_at m p ipa)

  reach_on : (levels : ℕ) (place : RttWalk) (o : Option ℕ) → table_below m (entry_at m place ipa) ≡ o → IsPlace m linked rd ipa place
      → (option_map_or (λ (table : ℕ). walk_from m ipa levels (child place table)) o place).level ≡ place.level + suc levels → SameAbove (place.level + suc levels)
      → ((table : ℕ) → IsPlace m linked rd ipa (child place table) → (walk_from m ipa levels (child place table)).level ≡ place.level + 1 + levels → SameAbove (place.level + 1 + levels)
      → walk_from n ipa levels (child place table) ≡ walk_from m ipa levels (child place table))
      → walk_from n ipa (suc levels) place ≡ option_map_or (λ (table : ℕ). walk_from m ipa levels (child place table)) o place
  unfolding walk_from
  reach_on levels place (Some table) leads is far same rest =
      let here : table_below n (entry_at n place ipa) ≡ Some table = same place is (omega arith) ∙ leads in
      let sum : place.level + suc levels ≡ place.level + 1 + levels = omega arith in
      ap (λ (o : Option ℕ). option_map_or (λ (t : ℕ). walk_from n ipa levels (child place t)) o place) here
      ∙ rest table (next m linked rd ipa place table is leads) (far ∙ sum) (λ p at low. same p at (omega arith))
  reach_on levels place None leads is far same rest = absurd (omega arith)

  pub reach : (levels : ℕ) (place : RttWalk) → IsPlace m linked rd ipa place → (walk_from m ipa levels place).level ≡ place.level + levels → SameAbove (place.level + levels)
      → walk_from n ipa levels place ≡ walk_from m ipa levels place
  unfolding walk_from
  reach zero place is far same = refl
  reach (suc levels) place is far same = reach_on levels place (table_below m (entry_at m place ipa)) refl is far same (λ table there far_there same_there. reach levels (child place table) there far_there same_there)

-- ---- a table of children means the same as the entry above it

first_child : (whole : RmmRttEntry) (level : ℕ) → child_entry whole level 0 ≡ whole
first_child (Assigned ripas a) level = let none : a + 0 * entry_size level ≡ a = omega arith in ap (Assigned ripas) none
first_child (AssignedNs d) level = let none : d + 0 * entry_size level ≡ d = omega arith in ap AssignedNs none
first_child (Unassigned ripas) level = refl
first_child UnassignedNs level = refl
first_child (Table a) level = refl

first_is : (whole : RmmRttEntry) (level : ℕ) → descriptor_of whole < 2 ^ 48 → entry_in_page (children_page whole level) 0 ≡ whole
unfolding entry_in_page
first_is whole level fits =
    ap entry_of (children_word whole level 0 (omega arith) ∙ ap entry_word (first_child whole level)) ∙ entry_of-entry_word whole fits

parts_from : (page : List ℕ) (whole : RmmRttEntry) (level count i : ℕ) → ((j : ℕ) → i ≤ j → j < i + count → word_of_page page j ≡ entry_word (child_entry whole level j)) → has_parts page whole level count i ≡ true
unfolding has_parts
parts_from page whole level zero i each = refl
parts_from page whole level (suc count) i each =
    and_from (word_of_page page i == entry_word (child_entry whole level i)) (has_parts page whole level count (i + 1)) (eq-eqb _ _ (each i (omega arith) (omega arith)))
    (parts_from page whole level count (i + 1) (λ j low high. each j (omega arith) (omega arith)))

homogeneous : (whole : RmmRttEntry) (level : ℕ) → descriptor_of whole < 2 ^ 48 → is_table whole ≡ false → is_aligned_above whole level ≡ true → is_homogeneous (children_page whole level) level ≡ true
unfolding is_homogeneous
homogeneous whole level fits leaf aligned =
    let page : List ℕ = children_page whole level in
    let first = first_is whole level fits in
    and_from (not (is_table (entry_in_page page 0)) && is_aligned_above (entry_in_page page 0) level) (has_parts page (entry_in_page page 0) level 512 0)
    (and_from (not (is_table (entry_in_page page 0))) (is_aligned_above (entry_in_page page 0) level) (ap (λ (e : RmmRttEntry). not (is_table e)) first ∙ ap not leaf)
    (ap (λ (e : RmmRttEntry). is_aligned_above e level) first ∙ aligned))
    (ap (λ (e : RmmRttEntry). has_parts page e level 512 0) first ∙ parts_from page whole level 512 0 (λ j low high. children_word whole level j (omega arith)))

not_too_high : (m : Machine) (whole : RmmRttEntry) (level : ℕ) → (is_mapping whole ≡ true → m.settings.block_level < level) → (is_mapping whole && nat_le level m.settings.block_level) ≡ false
not_too_high m whole level allowed =
    ⊎_elim
    (λ (sure : is_mapping whole ≡ true). and_right (is_mapping whole) (nat_le level m.settings.block_level) (lt-leb level m.settings.block_level (allowed sure)))
    (λ (never : is_mapping whole ≡ false). and_left (is_mapping whole) (nat_le level m.settings.block_level) never)
    (cases_Bool (is_mapping whole))

pub own_result : (call : Call) (m : Machine) → Passed (command_of call m).checks → performed call m ≡ ((command_of call m).answer, (command_of call m).machine)
unfolding performed
own_result call m ok = ap (λ f. decided f (command_of call m) m) (none_failing (command_of call m).checks ok)

-- ---- RMI_RTT_CREATE, and RMI_RTT_FOLD

module _ (m : Machine) (rd rtt ipa level : ℕ) (proper : IsProper m) (ok : Passed (rtt_create rd rtt ipa level m).checks) where
  abbrev realm : RmmRealm
  realm = realm_at m rd

  abbrev found : RttWalk
  found = walk m (realm_at m rd) ipa (level - 1)

  abbrev parent : RmmRttEntry
  parent = entry_at m (walk m (realm_at m rd) ipa (level - 1)) ipa

  abbrev x : ℕ
  x = number_of m rtt

  abbrev r : ℕ
  r = number_of m rd

  abbrev i : ℕ
  i = entry_index found.level ipa

  abbrev content : List ℕ
  content = children_page parent level

  abbrev n : Machine
  n = with_entry (with_page (with_granule m x (of_realm r Rtt)) x content) found ipa (Table rtt)

  is : (granule_at m r).state ≡ Rd (realm_at m rd)
  unfolding rtt_create
  is = realm_of-some (state_at m rd) ok.1.1.1.1.1.0

  inside : is_inside m rtt ≡ true
  unfolding rtt_create
  inside = yes_from (is_inside m rtt) ok.1.0

  free : (granule_at m x).state ≡ Delegated
  unfolding rtt_create
  free = is_delegated-true (state_at m rtt) (yes_from (is_delegated (state_at m rtt)) ok.1.1.0)

  least : realm.start_level + 1 ≤ level
  unfolding rtt_create
  least = leb-true _ _ (and_parts (nat_le (realm.start_level + 1) level) (nat_le level 3) (yes_from _ ok.1.1.1.1.1.1.0)).0

  within : ipa < 2 ^ realm.s2sz
  unfolding rtt_create
  within = ltb-true _ _ (yes_from (is_in_space realm ipa) ok.1.1.1.1.1.1.1.1.0)

  there : found.level ≡ level - 1
  unfolding rtt_create
  there = eqb-true _ _ (yes_from _ ok.1.1.1.1.1.1.1.1.1.0)

  leaf : is_table parent ≡ false
  unfolding rtt_create
  leaf = not-true _ (yes_from _ ok.1.1.1.1.1.1.1.1.1.1.0)

  end : IsPlace m proper.linked r ipa found
  end = (let l = least in place_is m proper.linked r ipa (level - 1) realm is within (omega arith))

  in_machine : x < length m.granules
  in_machine = number_inside m rtt inside

  fits : rtt < 2 ^ 48
  fits = address_few m rtt proper.linked.sound inside

  parent_fits : descriptor_of parent < 2 ^ 48
  unfolding entry_at entry_in_page
  parent_fits = descriptor-few (word_of_page (page_in m found.table) i)

  table_is : (granule_at m found.table).state ≡ Rtt
  table_is = ap (λ (c : RmmGranule). c.state) end.table

  apart : found.table ≢ x
  apart same =
      let states : (granule_at m found.table).state ≡ (granule_at m x).state = ap (λ (g : ℕ). (granule_at m g).state) same in
      let t = table_is in
      let f = free in
      cc

  count : length n.granules ≡ length m.granules
  count = length-set m.granules x (of_realm r Rtt)

  content_is : page_in n x ≡ content
  content_is = content_now m proper.linked r ipa found end x in_machine free Rtt content (length-children parent level) (Table rtt) tt fits

  entry_is : entry_at n found ipa ≡ Table rtt
  unfolding entry_at
  entry_is = entry_now m proper.linked r ipa found end x in_machine free Rtt content (length-children parent level) (Table rtt) tt fits

  leads : table_below n (entry_at n found ipa) ≡ Some x
  leads = ap (table_below n) entry_is ∙ named_inside n rtt (inside-same m n refl count rtt ∙ inside) ∙ ap (λ (g : ℕ). Some g) (number-same m n refl count rtt)

  rd_apart : r ≢ x
  rd_apart same =
      let states : (granule_at m r).state ≡ (granule_at m x).state = ap (λ (g : ℕ). (granule_at m g).state) same in
      let s = is in
      let f = free in
      cc

  state_same : state_at n rd ≡ state_at m rd
  state_same = ap (λ (g : ℕ). (granule_at n g).state) (number-same m n refl count rd) ∙ ap (λ (c : RmmGranule). c.state) (granule_at-other m x r (of_realm r Rtt) rd_apart)

  realm_same : realm_at n rd ≡ realm
  realm_same = ap (λ (s : RmmGranuleState). unwrap_or (realm_of s) no_realm) state_same

  walk_same : walk n realm ipa (level - 1) ≡ found
  unfolding walk start_of entry_at
  walk_same =
      let l = least in
      let t = there in
      let sum : level - 1 ≡ realm.start_level + (level - 1 - realm.start_level) = omega arith in
      reach m n proper.linked r ipa (level - 1 - realm.start_level) (start_of realm ipa) (start_is m proper.linked r ipa realm is within) (there ∙ sum)
      (λ p at low.
      let other : p.table ≢ found.table = λ same. (
      let levels : proper.linked.level p.table ≡ proper.linked.level found.table = ap proper.linked.level same in
      let here = end.level in
      let above = at.level in
      omega arith) in
      let table : (granule_at m p.table).state ≡ Rtt = ap (λ (c : RmmGranule). c.state) at.table in
      let not_x : p.table ≢ x = λ same. (let states : (granule_at m p.table).state ≡ (granule_at m x).state = ap (λ (g : ℕ). (granule_at m g).state) same in let f = free in cc) in
      let page : page_in n p.table ≡ page_in m p.table = page_beside m proper.linked r ipa found end x in_machine free Rtt content (length-children parent level) (Table rtt) tt fits p.table not_x other in
      ap (λ (q : List ℕ). table_below n (entry_in_page q (entry_index p.level ipa))) page ∙ below_same m n (entry_in_page (page_in m p.table) (entry_index p.level ipa)) refl count)

  -- the checks of RMI_RTT_FOLD, given a realm and the end of a walk
  abbrev fold_at : RmmRealm → RttWalk → List Check
  fold_at q w = rd_checks n rd ++ ipa_checks q (q.start_level + 1) level 1 ipa ++ fold_checks n w (entry_at n w ipa) level

  -- the machine after RMI_RTT_FOLD, given the end of a walk
  abbrev back : RttWalk → Machine
  back w = with_blank (with_entry n w ipa (entry_in_page (page_in n (unwrap_or (table_below n (entry_at n w ipa)) 0)) 0)) (unwrap_or (table_below n (entry_at n w ipa)) 0) Delegated

  abbrev k : Machine
  k = with_blank (with_entry n found ipa parent) x Delegated

  back_is : (rtt_fold rd ipa level n).machine ≡ k
  unfolding rtt_fold
  back_is =
      ap (λ (q : RmmRealm). back (walk n q ipa (level - 1))) realm_same
      ∙ ap back walk_same
      ∙ ap (λ (o : Option ℕ). with_blank (with_entry n found ipa (entry_in_page (page_in n (unwrap_or o 0)) 0)) (unwrap_or o 0) Delegated) leads
      ∙ ap (λ (p : List ℕ). with_blank (with_entry n found ipa (entry_in_page p 0)) x Delegated) content_is
      ∙ ap (λ (e : RmmRttEntry). with_blank (with_entry n found ipa e) x Delegated) (first_is parent level parent_fits)

  homo : CanReplaceTable m parent level → is_homogeneous (page_in n (unwrap_or (table_below n (entry_at n found ipa)) 0)) level ≡ true
  homo stand =
      ap (λ (o : Option ℕ). is_homogeneous (page_in n (unwrap_or o 0)) level) leads
      ∙ ap (λ (p : List ℕ). is_homogeneous p level) content_is
      ∙ homogeneous parent level parent_fits leaf stand.0

  low_enough : CanReplaceTable m parent level → is_block_too_high m.settings (page_in n (unwrap_or (table_below n (entry_at n found ipa)) 0)) level ≡ false
  low_enough stand =
      ap (λ (o : Option ℕ). is_block_too_high m.settings (page_in n (unwrap_or o 0)) level) leads
      ∙ ap (λ (p : List ℕ). is_block_too_high m.settings p level) content_is
      ∙ ap (λ (e : RmmRttEntry). is_mapping e && nat_le level m.settings.block_level) (first_is parent level parent_fits)
      ∙ not_too_high m parent level stand.1

  passes : CanReplaceTable m parent level → Passed (fold_at realm found)
  unfolding rtt_create
  passes stand = (
    ok.1.1.1.0,
    (
      ap not (inside-same m n refl count rd) ∙ ok.1.1.1.1.0,
      (
        ap (λ (s : RmmGranuleState). is_none (realm_of s)) state_same ∙ ok.1.1.1.1.1.0,
        (
          ok.1.1.1.1.1.1.0,
          (
            ok.1.1.1.1.1.1.1.0,
            (
              ok.1.1.1.1.1.1.1.1.0,
              (
                ok.1.1.1.1.1.1.1.1.1.0,
                (no_more (is_some (table_below n (entry_at n found ipa))) (ap (λ (o : Option ℕ). is_some o) leads), (no_more _ (homo stand), (low_enough stand, tt))),
              ),
            ),
          ),
        ),
      ),
    ),
  )

  folded_ok : CanReplaceTable m parent level → Passed (rtt_fold rd ipa level n).checks
  unfolding rtt_fold
  folded_ok stand =
      subst (λ (q : RmmRealm). Passed (fold_at q (walk n q ipa (level - 1)))) (sym realm_same) (subst (λ (w : RttWalk). Passed (fold_at realm w)) (sym walk_same) (passes stand))

  -- before RMI_RTT_CREATE, the granule of the table had no owner and was zero
  was : ((granule_at m x).owner ≡ None) × (page_in m x ≡ zero_page)
  was = subst (λ (s : RmmGranuleState). IsOrderly m s (granule_at m x).owner (page_in m x)) free (proper.ordered.each x)

  granule_was : granule_at m x ≡ of_no_realm Delegated
  granule_was = ap (λ (s : RmmGranuleState). record { state = s; owner = (granule_at m x).owner }) free ∙ ap (λ (o : Option ℕ). record { state = Delegated; owner = o }) was.0

  n_sound : IsSound n
  n_sound = new_sound m proper.linked r ipa found end x in_machine free Rtt content (length-children parent level) (Table rtt) tt fits

  x_there : x < length n.granules
  x_there = let c = count in let w = in_machine in omega arith

  t_there : found.table < length n.granules
  t_there = let c = count in let t = table_is in let w = taken_inside m found.table (λ none. cc) in omega arith

  at_found : (j : ℕ) → j < 512 → entry_in_page (page_in (with_entry n found ipa parent) found.table) j ≡ entry_in_page (page_in m found.table) j
  unfolding entry_at
  at_found j lt =
      let index : i < 512 = entry_index-few found.level ipa in
      ⊎_elim
      (λ (same : j ≡ i).
      subst (λ (h : ℕ). entry_in_page (page_in (with_entry n found ipa parent) found.table) h ≡ entry_in_page (page_in m found.table) h) (sym same)
      (entry-same n found.table i parent n_sound t_there index parent_fits))
      (λ (ne : j ≢ i).
      entry-other n found.table i parent n_sound t_there index j lt ne
      ∙ entry_beside m proper.linked r ipa found end x in_machine free Rtt content (length-children parent level) (Table rtt) tt fits j lt ne)
      (cases_eq j i)

  page_there : (g : ℕ) → g ≢ x → g ≢ found.table → page_in (with_entry n found ipa parent) g ≡ page_in m g
  page_there g not_x other =
      page_in-other n found.table g _ other
      ∙ page_beside m proper.linked r ipa found end x in_machine free Rtt content (length-children parent level) (Table rtt) tt fits g not_x other

  page_back : (g : ℕ) → g ≢ x → page_in k g ≡ page_in (with_entry n found ipa parent) g
  page_back g not_x = page_in-other (with_granule (with_entry n found ipa parent) x (of_no_realm Delegated)) x g zero_page not_x

  alike : IsAlike m k
  alike = record {
    settings = refl;
    vmids = refl;
    granules = λ g. ⊎_elim
        (λ (here : g ≡ x). ap (granule_at k) here ∙ granule_at-same (with_entry n found ipa parent) x (of_no_realm Delegated) x_there ∙ sym granule_was ∙ ap (granule_at m) (sym here))
        (λ (other : g ≢ x). granule_at-other (with_entry n found ipa parent) x g (of_no_realm Delegated) other ∙ granule_at-other m x g (of_realm r Rtt) other)
        (cases_eq g x);
    entries = λ t j table lt.
        let not_x : t ≢ x = λ same. (let states : (granule_at m t).state ≡ (granule_at m x).state = ap (λ (g : ℕ). (granule_at m g).state) same in let f = free in cc) in
        ap (λ (q : List ℕ). entry_in_page q j) (page_back t not_x)
        ∙ ⊎_elim
        (λ (here : t ≡ found.table). subst (λ (y : ℕ). entry_in_page (page_in (with_entry n found ipa parent) y) j ≡ entry_in_page (page_in m y) j) (sym here) (at_found j lt))
        (λ (other : t ≢ found.table). ap (λ (q : List ℕ). entry_in_page q j) (page_there t not_x other))
        (cases_eq t found.table);
    pages = λ g no_table.
        let other : g ≢ found.table = λ same. no_table (ap (λ (y : ℕ). (granule_at m y).state) same ∙ table_is) in
        ⊎_elim
        (λ (here : g ≡ x).
        let pages = n_sound.pages in
        let w = x_there in
        ap (page_in k) here
        ∙ page_in-same (with_granule (with_entry n found ipa parent) x (of_no_realm Delegated)) x zero_page (let c = length-set n.pages found.table (page_with_word (page_in n found.table) i (entry_word parent)) in omega arith)
        ∙ sym was.1
        ∙ ap (page_in m) (sym here))
        (λ (not_x : g ≢ x). page_back g not_x ∙ page_there g not_x other)
        (cases_eq g x);
  }

  -- the entry that RMI_RTT_CREATE replaced satisfies `CanReplaceTable`
  stand_is : CanReplaceTable m parent level
  unfolding entry_at
  stand_is =
      let l = least in
      let t = there in
      let placed = proper.ordered.halves.is.block found.table i table_is (entry_index-few found.level ipa) in
      let depth : proper.ordered.halves.level found.table ≡ level - 1 = (walk_seat m proper.linked proper.ordered.halves r ipa realm is within (level - 1)).depth ∙ there in (
        ⊎_elim
            (λ (sure : is_mapping parent ≡ true). or_right (not (is_mapping parent)) (is_multiple (descriptor_of parent / 4096 * 4096) (entry_size (level - 1)))
            (eq-eqb _ _ (subst (λ (k : ℕ). descriptor_of parent / 4096 * 4096 % entry_size k ≡ 0) depth (placed sure).1)))
            (λ (never : is_mapping parent ≡ false). ap (λ (b : Bool). not b || is_multiple (descriptor_of parent / 4096 * 4096) (entry_size (level - 1))) never)
            (cases_Bool (is_mapping parent)),
        λ sure. (let low = (placed sure).0 in omega arith),
      )

pub created_and_folded : (m : Machine) (rd rtt ipa level : ℕ) → IsProper m → (performed (RttCreate rd rtt ipa level) m).0.word ≡ Success
    → ((performed (RttFold rd ipa level) (performed (RttCreate rd rtt ipa level) m).1).0.word ≡ Success) × IsAlike m (performed (RttFold rd ipa level) (performed (RttCreate rd rtt ipa level) m).1).1
unfolding rtt_create rtt_fold
created_and_folded m rd rtt ipa level proper success =
    succeeded (((performed (RttFold rd ipa level) (performed (RttCreate rd rtt ipa level) m).1).0.word ≡ Success) × IsAlike m (performed (RttFold rd ipa level) (performed (RttCreate rd rtt ipa level) m).1).1)
    (RttCreate rd rtt ipa level) m refl success
    (λ ok now.
    let made : Machine = (rtt_create rd rtt ipa level m).machine in
    let stand = stand_is m rd rtt ipa level proper ok in
    let result = own_result (RttFold rd ipa level) made (folded_ok m rd rtt ipa level proper ok stand) in
    subst (λ (p : SmcResult × Machine). ((performed (RttFold rd ipa level) p.1).0.word ≡ Success) × IsAlike m (performed (RttFold rd ipa level) p.1).1) (sym now) (
      ap (λ (p : SmcResult × Machine). p.0.word) result,
      subst (λ (p : SmcResult × Machine). IsAlike m p.1) (sym result) (subst (IsAlike m) (sym (back_is m rd rtt ipa level proper ok)) (alike m rd rtt ipa level proper ok)),
    ))
