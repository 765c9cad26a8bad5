-- Proofs that RMI_RTT_CREATE undoes RMI_RTT_FOLD, and that a table is folded only into an entry that can replace it.
use Rattle.std.proofs.Common.{◌≡◌, ◌≢◌, ℕ, ◌+◌, ◌-◌, ◌%◌, ◌^◌, ◌<◌, ◌≤◌, ◌==◌, ◌&&◌, ◌++◌, Bool, true, false, not, List, [], length, Some, unwrap_or, refl, sym, ap, subst, ◌∙◌, ⊎_elim, arith}
use Rattle.std.specs.Prelude.{nat_le, is_none}
use Rattle.std.proofs.lemmas.Bool.{cases_eq, and_parts, eq-eqb, eqb-true, leb-true, leb-false, ltb-true}
use Rattle.std.proofs.lemmas.List.{length-set}
use Rattle.granule_addr.specs.Page.{zero_page}
use Rattle.page_arena.specs.Pages.{length-page_of}
use Rattle.page_arena.specs.Word.{word_of_page}
use Rattle.rmi_abi.specs.declared.call.Call.TheVariants.{RttCreate, RttFold}
use Rattle.rmi_abi.specs.declared.registers.SmcResult.{SmcResult}
use Rattle.rmi_abi.specs.declared.word.Word.TheVariants.{Success}
use Rattle.rmm_model.specs.declared.entry.RmmRttEntry.{RmmRttEntry}
use Rattle.rmm_model.specs.declared.entry.RmmRttEntry.TheVariants.{Table}
use Rattle.rmm_model.specs.declared.granule.RmmGranule.{RmmGranule}
use Rattle.rmm_model.specs.declared.granule.RmmGranuleState.{RmmGranuleState}
use Rattle.rmm_model.specs.declared.granule.RmmGranuleState.TheVariants.{Delegated, Rd, Rtt}
use Rattle.rmm_model.specs.declared.realm.RmmRealm.{RmmRealm}
use Rattle.rmm_model.specs.declared.realm.RttWalk.{RttWalk}
use Rattle.rmm_model.specs.declared.condition.Condition.TheVariants.{RttAlign, RttBound, RttState}
use Rattle.rmm_model.specs.Call.{performed}
use Rattle.rmm_model.specs.Check.{Check, error_rtt}
use Rattle.rmm_model.specs.Entry.{entry_of, descriptor_of, is_mapping, is_table}
use Rattle.rmm_model.specs.Granule.{of_no_realm, of_realm, is_delegated, realm_of}
use Rattle.rmm_model.specs.Level.{entry_index}
use Rattle.rmm_model.specs.Machine.{Machine, granule_at, page_in, is_inside, number_of, state_at, with_granule, with_page, with_blank}
use Rattle.rmm_model.specs.Realm.{is_in_space, no_realm}
use Rattle.rmm_model.specs.Table.{entry_in_page, children_page, has_parts}
use Rattle.rmm_model.specs.Walk.{entry_at, with_entry, table_below, start_of, walk}
use Rattle.rmm_model.specs.Command.Operand.{realm_at, delegated_checks, rd_checks, ipa_checks, entry_checks}
use Rattle.rmm_model.specs.Command.RttCreate.{rtt_create}
use Rattle.rmm_model.specs.Command.RttFold.{rtt_fold, is_homogeneous, is_aligned_above}
use Rattle.rmm_laws.specs.Fold.{CanReplaceTable, IsAlike}
use Rattle.rmm_laws.specs.Proper.{IsProper}
use Rattle.rmm_laws.specs.Role.{IsSound, IsBegin}
use Rattle.rmm_laws.proofs.Children.{children_word, length-children, part_word}
use Rattle.rmm_laws.proofs.Entries.{address_few, entry-same, entry-other, sound-with_entry}
use Rattle.rmm_laws.proofs.EntryWords.{descriptor-few}
use Rattle.rmm_laws.proofs.Freed.{succeeded, table_address}
use Rattle.rmm_laws.proofs.Mappings.{place_is, some_of}
use Rattle.rmm_laws.proofs.Mistakes.{below_same}
use Rattle.rmm_laws.proofs.Passed.{Passed, yes_from, realm_of-some}
use Rattle.rmm_laws.proofs.Teardown.{no_more}
use Rattle.rmm_laws.proofs.Walks.{IsPlace, next, start_is, entry_index-few}
use Rattle.rmm_laws.proofs.Writes.{granule_at-same, granule_at-other, page_in-same, page_in-other, inside-same, number-same, sound-with_granule, sound-with_page, taken_inside}
use Rattle.rmm_laws.proofs.Fold.{reach, own_result}

table_entry : (m : Machine) (e : RmmRttEntry) (g : ℕ) → table_below m e ≡ Some g → e ≡ Table (descriptor_of e)
table_entry m (Table a) g named = refl
table_entry m _ g named = absurd (cc)

below_block : (is_mapped : Bool) (level block : ℕ) → (is_mapped && nat_le level block) ≡ false → is_mapped ≡ true → block < level
below_block true level block low sure = leb-false level block low
below_block false level block low sure = absurd (cc)

module _ (m : Machine) (rd ipa level : ℕ) (proper : IsProper m) (ok : Passed (rtt_fold rd ipa level m).checks) where
  abbrev of : RmmRealm
  of = realm_at m rd

  abbrev rd_at : ℕ
  rd_at = number_of m rd

  abbrev end_at : RttWalk
  end_at = walk m (realm_at m rd) ipa (level - 1)

  abbrev above : RmmRttEntry
  above = entry_at m (walk m (realm_at m rd) ipa (level - 1)) ipa

  abbrev g : ℕ
  g = unwrap_or (table_below m above) 0

  abbrev first : RmmRttEntry
  first = entry_in_page (page_in m g) 0

  abbrev at : ℕ
  at = entry_index end_at.level ipa

  abbrev a : ℕ
  a = descriptor_of above

  abbrev f : Machine
  f = with_blank (with_entry m end_at ipa first) g Delegated

  rd_is : (granule_at m rd_at).state ≡ Rd (realm_at m rd)
  unfolding rtt_fold
  rd_is = realm_of-some (state_at m rd) ok.1.1.0

  least_is : of.start_level + 1 ≤ level
  unfolding rtt_fold
  least_is = leb-true _ _ (and_parts (nat_le (of.start_level + 1) level) (nat_le level 3) (yes_from _ ok.1.1.1.0)).0

  within_is : ipa < 2 ^ of.s2sz
  unfolding rtt_fold
  within_is = ltb-true _ _ (yes_from (is_in_space of ipa) ok.1.1.1.1.1.0)

  depth_is : end_at.level ≡ level - 1
  unfolding rtt_fold
  depth_is = eqb-true _ _ (yes_from _ ok.1.1.1.1.1.1.0)

  named : table_below m above ≡ Some g
  unfolding rtt_fold
  named = some_of (table_below m above) (yes_from _ ok.1.1.1.1.1.1.1.0)

  tests : (not (is_table first) ≡ true) × (has_parts (page_in m g) first level 512 0 ≡ true)
  unfolding rtt_fold is_homogeneous
  tests =
      let both = and_parts (not (is_table first) && is_aligned_above first level) (has_parts (page_in m g) first level 512 0) (yes_from _ ok.1.1.1.1.1.1.1.1.0) in
      ((and_parts (not (is_table first)) (is_aligned_above first level) both.0).0, both.1)

  place : IsPlace m proper.linked rd_at ipa end_at
  place = (let l = least_is in place_is m proper.linked rd_at ipa (level - 1) of rd_is within_is (omega arith))

  below : IsPlace m proper.linked rd_at ipa (record { table = g; level = end_at.level + 1 })
  below = next m proper.linked rd_at ipa end_at g place named

  end_table : (granule_at m end_at.table).state ≡ Rtt
  end_table = ap (λ (c : RmmGranule). c.state) place.table

  g_table : (granule_at m g).state ≡ Rtt
  g_table = ap (λ (c : RmmGranule). c.state) below.table

  beside : end_at.table ≢ g
  beside same =
      let levels : proper.linked.level end_at.table ≡ proper.linked.level g = ap proper.linked.level same in
      let here = place.level in
      let deeper = below.level in
      omega arith

  g_in : g < length m.granules
  g_in = let t = g_table in taken_inside m g (λ none. cc)

  leads_there : IsBegin m a × (g ≡ number_of m a)
  unfolding entry_at
  leads_there = table_address m above g (proper.linked.inside end_at.table at end_table (entry_index-few end_at.level ipa)) named

  f_count : length f.granules ≡ length m.granules
  f_count = length-set m.granules g (of_no_realm Delegated)

  a_number : number_of f a ≡ g
  a_number = number-same m f refl f_count a ∙ sym leads_there.1

  a_aligned : a % 4096 ≡ 0
  a_aligned = let base = proper.linked.sound.platform.base_aligned in let begin = leads_there.0.1 in omega arith

  a_inside : is_inside f a ≡ true
  a_inside = inside-same m f refl f_count a ∙ leads_there.0.0

  a_free : state_at f a ≡ Delegated
  a_free = ap (λ (h : ℕ). (granule_at f h).state) a_number ∙ ap (λ (c : RmmGranule). c.state) (granule_at-same (with_entry m end_at ipa first) g (of_no_realm Delegated) g_in)

  rd_beside : rd_at ≢ g
  rd_beside same =
      let states : (granule_at m rd_at).state ≡ (granule_at m g).state = ap (λ (h : ℕ). (granule_at m h).state) same in
      let s = rd_is in
      let t = g_table in
      cc

  f_state : state_at f rd ≡ state_at m rd
  f_state = ap (λ (h : ℕ). (granule_at f h).state) (number-same m f refl f_count rd) ∙ ap (λ (c : RmmGranule). c.state) (granule_at-other (with_entry m end_at ipa first) g rd_at (of_no_realm Delegated) rd_beside)

  f_realm : realm_at f rd ≡ of
  f_realm = ap (λ (s : RmmGranuleState). unwrap_or (realm_of s) no_realm) f_state

  first_fits : descriptor_of first < 2 ^ 48
  unfolding entry_in_page
  first_fits = descriptor-few (word_of_page (page_in m g) 0)

  a_fits : a < 2 ^ 48
  a_fits = address_few m a proper.linked.sound leads_there.0.0

  f_page : (h : ℕ) → h ≢ g → page_in f h ≡ page_in (with_entry m end_at ipa first) h
  f_page h other = page_in-other (with_granule (with_entry m end_at ipa first) g (of_no_realm Delegated)) g h zero_page other

  f_entry : entry_at f end_at ipa ≡ first
  unfolding entry_at
  f_entry =
      ap (λ (q : List ℕ). entry_in_page q at) (f_page end_at.table beside)
      ∙ entry-same m end_at.table at first proper.linked.sound (let t = end_table in taken_inside m end_at.table (λ none. cc)) (entry_index-few end_at.level ipa) first_fits

  can_replace : CanReplaceTable m first level
  unfolding rtt_fold is_homogeneous
  can_replace =
      let both = and_parts (not (is_table first) && is_aligned_above first level) (has_parts (page_in m g) first level 512 0) (yes_from _ ok.1.1.1.1.1.1.1.1.0) in
      ((and_parts (not (is_table first)) (is_aligned_above first level) both.0).1, λ mapped. below_block (is_mapping first) level m.settings.block_level ok.1.1.1.1.1.1.1.1.1.0 mapped)

  f_walk : walk f of ipa (level - 1) ≡ end_at
  unfolding walk start_of entry_at
  f_walk =
      let l = least_is in
      let t = depth_is in
      let sum : level - 1 ≡ of.start_level + (level - 1 - of.start_level) = omega arith in
      reach m f proper.linked rd_at ipa (level - 1 - of.start_level) (start_of of ipa) (start_is m proper.linked rd_at ipa of rd_is within_is) (depth_is ∙ sum)
      (λ p there low.
      let other : p.table ≢ end_at.table = λ same. (
      let levels : proper.linked.level p.table ≡ proper.linked.level end_at.table = ap proper.linked.level same in
      let here = place.level in
      let up = there.level in
      omega arith) in
      let not_g : p.table ≢ g = λ same. (
      let levels : proper.linked.level p.table ≡ proper.linked.level g = ap proper.linked.level same in
      let deeper = below.level in
      let up = there.level in
      omega arith) in
      let page : page_in f p.table ≡ page_in m p.table = f_page p.table not_g ∙ page_in-other m end_at.table p.table _ other in
      ap (λ (q : List ℕ). table_below f (entry_in_page q (entry_index p.level ipa))) page ∙ below_same m f (entry_in_page (page_in m p.table) (entry_index p.level ipa)) refl f_count)

  abbrev create_at : RmmRealm → RttWalk → List Check
  create_at q w = delegated_checks RttAlign RttBound RttState f a ++ rd_checks f rd ++ ipa_checks q (q.start_level + 1) level 1 ipa ++ entry_checks [] w (level - 1) (not (is_table (entry_at f w ipa))) error_rtt

  create_passes : Passed (create_at of end_at)
  unfolding rtt_fold
  create_passes = (
    no_more (a % 4096 == 0) (eq-eqb (a % 4096) 0 a_aligned),
    (
      no_more (is_inside f a) a_inside,
      (
        no_more (is_delegated (state_at f a)) (ap is_delegated a_free),
        (
          ok.0,
          (
            ap not (inside-same m f refl f_count rd) ∙ ok.1.0,
            (
              ap (λ (s : RmmGranuleState). is_none (realm_of s)) f_state ∙ ok.1.1.0,
              (ok.1.1.1.0, (ok.1.1.1.1.0, (ok.1.1.1.1.1.0, (ok.1.1.1.1.1.1.0, (no_more (not (is_table (entry_at f end_at ipa))) (ap (λ (e : RmmRttEntry). not (is_table e)) f_entry ∙ tests.0), tt))))),
            ),
          ),
        ),
      ),
    ),
  )

  create_ok : Passed (rtt_create rd a ipa level f).checks
  unfolding rtt_create
  create_ok = subst (λ (q : RmmRealm). Passed (create_at q (walk f q ipa (level - 1)))) (sym f_realm) (subst (λ (w : RttWalk). Passed (create_at of w)) (sym f_walk) create_passes)

  abbrev marked : Machine
  marked = with_page (with_granule f g (of_realm rd_at Rtt)) g (children_page first level)

  abbrev again : Machine
  again = with_entry marked end_at ipa (Table a)

  again_is : (rtt_create rd a ipa level f).machine ≡ again
  unfolding rtt_create
  again_is =
      ap (λ (q : RmmRealm). with_entry (with_page (with_granule f (number_of f a) (of_realm (number_of f rd) Rtt)) (number_of f a) (children_page (entry_at f (walk f q ipa (level - 1)) ipa) level)) (walk f q ipa (level - 1)) ipa (Table a)) f_realm
      ∙ ap (λ (w : RttWalk). with_entry (with_page (with_granule f (number_of f a) (of_realm (number_of f rd) Rtt)) (number_of f a) (children_page (entry_at f w ipa) level)) w ipa (Table a)) f_walk
      ∙ ap (λ (h : ℕ). with_entry (with_page (with_granule f h (of_realm (number_of f rd) Rtt)) h (children_page (entry_at f end_at ipa) level)) end_at ipa (Table a)) a_number
      ∙ ap (λ (h : ℕ). with_entry (with_page (with_granule f g (of_realm h Rtt)) g (children_page (entry_at f end_at ipa) level)) end_at ipa (Table a)) (number-same m f refl f_count rd)
      ∙ ap (λ (e : RmmRttEntry). with_entry (with_page (with_granule f g (of_realm rd_at Rtt)) g (children_page e level)) end_at ipa (Table a)) f_entry

  f_sound : IsSound f
  f_sound = sound-with_page (with_granule (with_entry m end_at ipa first) g (of_no_realm Delegated)) g zero_page (length-page_of 0)
      (sound-with_granule (with_entry m end_at ipa first) g (of_no_realm Delegated) g_in tt
      (sound-with_entry m end_at.table at first proper.linked.sound (let t = end_table in taken_inside m end_at.table (λ none. cc)) (entry_index-few end_at.level ipa)))

  g_f : g < length f.granules
  g_f = let c = f_count in let w = g_in in omega arith

  marked_sound : IsSound marked
  marked_sound = sound-with_page (with_granule f g (of_realm rd_at Rtt)) g (children_page first level) (length-children first level) (sound-with_granule f g (of_realm rd_at Rtt) g_f tt f_sound)

  end_in : end_at.table < length marked.granules
  end_in =
      let c = f_count in
      let d = length-set f.granules g (of_realm rd_at Rtt) in
      let t = end_table in
      let w = taken_inside m end_at.table (λ none. cc) in
      omega arith

  -- once the new table is filled, each other page is as after the write of the entry by RMI_RTT_FOLD
  page_marked : (h : ℕ) → h ≢ g → page_in marked h ≡ page_in (with_entry m end_at ipa first) h
  page_marked h other = page_in-other (with_granule f g (of_realm rd_at Rtt)) g h (children_page first level) other ∙ f_page h other

  page_again : (h : ℕ) → h ≢ g → h ≢ end_at.table → page_in again h ≡ page_in m h
  page_again h not_g other = page_in-other marked end_at.table h _ other ∙ page_marked h not_g ∙ page_in-other m end_at.table h _ other

  end_entry : (j : ℕ) → j < 512 → entry_in_page (page_in again end_at.table) j ≡ entry_in_page (page_in m end_at.table) j
  unfolding entry_at
  end_entry j lt =
      let index : at < 512 = entry_index-few end_at.level ipa in
      ⊎_elim
      (λ (same : j ≡ at).
      subst (λ (h : ℕ). entry_in_page (page_in again end_at.table) h ≡ entry_in_page (page_in m end_at.table) h) (sym same)
      (entry-same marked end_at.table at (Table a) marked_sound end_in index a_fits ∙ sym (table_entry m above g named)))
      (λ (ne : j ≢ at).
      entry-other marked end_at.table at (Table a) marked_sound end_in index j lt ne
      ∙ ap (λ (q : List ℕ). entry_in_page q j) (page_marked end_at.table beside)
      ∙ entry-other m end_at.table at first proper.linked.sound (let t = end_table in taken_inside m end_at.table (λ none. cc)) index j lt ne)
      (cases_eq j at)

  table_entries : (j : ℕ) → j < 512 → entry_in_page (page_in again g) j ≡ entry_in_page (page_in m g) j
  unfolding entry_in_page
  table_entries j lt =
      let pages = f_sound.pages in
      let w = g_f in
      ap (λ (q : List ℕ). entry_of (word_of_page q j))
      (page_in-other marked end_at.table g _ (λ same. beside (sym same)) ∙ page_in-same (with_granule f g (of_realm rd_at Rtt)) g (children_page first level) (omega arith))
      ∙ ap entry_of (children_word first level j lt ∙ sym (part_word (page_in m g) first level 512 0 j tests.1 (omega arith) (omega arith)))

  same_again : IsAlike m again
  same_again = record {
    settings = refl;
    vmids = refl;
    granules = λ h. ⊎_elim
        (λ (here : h ≡ g). ap (granule_at again) here ∙ granule_at-same f g (of_realm rd_at Rtt) g_f ∙ sym below.table ∙ ap (granule_at m) (sym here))
        (λ (other : h ≢ g). granule_at-other f g h (of_realm rd_at Rtt) other ∙ granule_at-other (with_entry m end_at ipa first) g h (of_no_realm Delegated) other)
        (cases_eq h g);
    entries = λ t j table lt. ⊎_elim
        (λ (here : t ≡ g). subst (λ (y : ℕ). entry_in_page (page_in again y) j ≡ entry_in_page (page_in m y) j) (sym here) (table_entries j lt))
        (λ (not_g : t ≢ g). ⊎_elim
        (λ (here : t ≡ end_at.table). subst (λ (y : ℕ). entry_in_page (page_in again y) j ≡ entry_in_page (page_in m y) j) (sym here) (end_entry j lt))
        (λ (other : t ≢ end_at.table). ap (λ (q : List ℕ). entry_in_page q j) (page_again t not_g other))
        (cases_eq t end_at.table))
        (cases_eq t g);
    pages = λ h no_table.
        page_again h (λ same. no_table (ap (λ (y : ℕ). (granule_at m y).state) same ∙ g_table)) (λ same. no_table (ap (λ (y : ℕ). (granule_at m y).state) same ∙ end_table));
  }

pub folded_and_created : (m : Machine) (rd ipa level : ℕ) → IsProper m → (performed (RttFold rd ipa level) m).0.word ≡ Success
    → ((performed (RttCreate rd (performed (RttFold rd ipa level) m).0.x1 ipa level) (performed (RttFold rd ipa level) m).1).0.word ≡ Success)
    × IsAlike m (performed (RttCreate rd (performed (RttFold rd ipa level) m).0.x1 ipa level) (performed (RttFold rd ipa level) m).1).1
unfolding rtt_create rtt_fold
folded_and_created m rd ipa level proper success =
    succeeded
    (((performed (RttCreate rd (performed (RttFold rd ipa level) m).0.x1 ipa level) (performed (RttFold rd ipa level) m).1).0.word ≡ Success)
    × IsAlike m (performed (RttCreate rd (performed (RttFold rd ipa level) m).0.x1 ipa level) (performed (RttFold rd ipa level) m).1).1)
    (RttFold rd ipa level) m refl success
    (λ ok now.
    let gone : Machine = (rtt_fold rd ipa level m).machine in
    let address : ℕ = (rtt_fold rd ipa level m).answer.x1 in
    let result = own_result (RttCreate rd address ipa level) gone (create_ok m rd ipa level proper ok) in
    subst (λ (p : SmcResult × Machine). ((performed (RttCreate rd p.0.x1 ipa level) p.1).0.word ≡ Success) × IsAlike m (performed (RttCreate rd p.0.x1 ipa level) p.1).1) (sym now) (
      ap (λ (p : SmcResult × Machine). p.0.word) result,
      subst (λ (p : SmcResult × Machine). IsAlike m p.1) (sym result) (subst (IsAlike m) (sym (again_is m rd ipa level proper ok)) (same_again m rd ipa level proper ok)),
    ))

-- an entry with which a successful RMI_RTT_FOLD replaces a table satisfies `CanReplaceTable`
pub folded_only : (m : Machine) (rd ipa level : ℕ) → IsProper m → (performed (RttFold rd ipa level) m).0.word ≡ Success
    → CanReplaceTable m (entry_at (performed (RttFold rd ipa level) m).1 (walk m (realm_at m rd) ipa (level - 1)) ipa) level
unfolding rtt_fold
folded_only m rd ipa level proper success =
    succeeded (CanReplaceTable m (entry_at (performed (RttFold rd ipa level) m).1 (walk m (realm_at m rd) ipa (level - 1)) ipa) level) (RttFold rd ipa level) m refl success
    (λ ok now.
    subst (λ (p : SmcResult × Machine). CanReplaceTable m (entry_at p.1 (walk m (realm_at m rd) ipa (level - 1)) ipa) level) (sym now)
    (subst (λ (e : RmmRttEntry). CanReplaceTable m e level) (sym (f_entry m rd ipa level proper ok)) (can_replace m rd ipa level proper ok)))
