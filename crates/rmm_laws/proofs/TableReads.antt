-- Proofs that RMI_RTT_CREATE and RMI_RTT_FOLD keep a property of addresses, such as RIPAS, that an entry shares with
-- its children. Replacing a table by an entry, as in RMI_RTT_DESTROY, changes the property only as a given relation
-- allows.
use Rattle.std.proofs.Common.{◌≡◌, ◌≢◌, ℕ, ◌+◌, ◌-◌, ◌/◌, ◌^◌, ◌<◌, ◌≤◌, ◌⊎◌, inl, ◌&&◌, false, not, List, length, Option, Some, None, unwrap_or, refl, sym, ap, subst, ◌∙◌, ⊎_elim, arith}
use Rattle.std.specs.Prelude.{nat_le}
use Rattle.std.proofs.lemmas.Bool.{and_parts, eqb-true, leb-true, ltb-true, not-true}
use Rattle.page_arena.specs.Page.{page_at}
use Rattle.page_arena.specs.Word.{word_of_page}
use Rattle.rmm_model.specs.declared.entry.RmmRttEntry.{RmmRttEntry}
use Rattle.rmm_model.specs.declared.entry.RmmRttEntry.TheVariants.{Table}
use Rattle.rmm_model.specs.declared.granule.RmmGranule.{RmmGranule}
use Rattle.rmm_model.specs.declared.granule.RmmGranuleState.TheVariants.{Delegated, Rd, Rtt}
use Rattle.rmm_model.specs.declared.realm.RmmRealm.{RmmRealm}
use Rattle.rmm_model.specs.declared.realm.RttWalk.{RttWalk}
use Rattle.rmm_model.specs.Entry.{entry_of, entry_word, child_entry, descriptor_of, is_table}
use Rattle.rmm_model.specs.Granule.{is_delegated}
use Rattle.rmm_model.specs.Level.{entry_size, entry_index}
use Rattle.rmm_model.specs.Machine.{Machine, granule_at, page_in, is_inside, number_of, state_at, with_blank}
use Rattle.rmm_model.specs.Realm.{is_in_space}
use Rattle.rmm_model.specs.Table.{entry_in_page, children_page, has_parts}
use Rattle.rmm_model.specs.Walk.{entry_at, table_below, walk, with_entry}
use Rattle.rmm_model.specs.Command.Operand.{realm_at}
use Rattle.rmm_model.specs.Command.RttCreate.{rtt_create}
use Rattle.rmm_model.specs.Command.RttFold.{rtt_fold, is_homogeneous, is_aligned_above}
use Rattle.rmm_laws.specs.Proper.{IsProper}
use Rattle.rmm_laws.proofs.Children.{children_word, length-children, part_word}
use Rattle.rmm_laws.proofs.Entries.{address_few, named_inside, number_inside}
use Rattle.rmm_laws.proofs.EntryWords.{descriptor-few}
use Rattle.rmm_laws.proofs.Halves.{none_below, word_kind}
use Rattle.rmm_laws.proofs.Halving.{child_kind}
use Rattle.rmm_laws.proofs.KeptTables.{IsRead}
use Rattle.rmm_laws.proofs.Mapped.{content_now, entry_now, entry_beside, page_beside, entry_then, entry_other, page_other}
use Rattle.rmm_laws.proofs.Mappings.{place_is, some_of}
use Rattle.rmm_laws.proofs.Passed.{Passed, yes_from, is_delegated-true, realm_of-some}
use Rattle.rmm_laws.proofs.TableEnds.{made_read, gone_read}
use Rattle.rmm_laws.proofs.Walks.{IsPlace, entry_index-few, next}
use Rattle.rmm_laws.proofs.Writes.{inside-same, number-same, taken_inside}

child_below : (m : Machine) (page : List ℕ) (e : RmmRttEntry) (level j : ℕ) → word_of_page page j ≡ entry_word (child_entry e level j) → is_table e ≡ false → table_below m (entry_in_page page j) ≡ None
unfolding entry_in_page
child_below m page e level j is leaf =
    ap (λ (w : ℕ). table_below m (entry_of w)) is ∙ none_below m (entry_of (entry_word (child_entry e level j))) e (word_kind (child_entry e level j) ∙ child_kind e level j) leaf

-- ---- RMI_RTT_CREATE

-- RMI_RTT_CREATE keeps the value read at an address in the realm's address space, if `F` gives the same for the child
-- that covers the address as for the replaced entry.
module _ (rd rtt ipa level : ℕ) (m : Machine) (proper : IsProper m) (ok : Passed (rtt_create rd rtt ipa level m).checks) (count : length (rtt_create rd rtt ipa level m).machine.granules ≡ length m.granules)
    (x : ℕ) (A : Type 0) (F : RmmRttEntry → ℕ → A)
    (alike : F (entry_of (entry_word (child_entry (entry_at m (walk m (realm_at m rd) ipa (level - 1)) ipa) level (entry_index level x)))) level ≡ F (entry_at m (walk m (realm_at m rd) ipa (level - 1)) ipa) (level - 1)) where
  pub create_read : (after : RmmRealm) → after.start_level ≡ (realm_at m rd).start_level → after.first_table ≡ (realm_at m rd).first_table → x < 2 ^ (realm_at m rd).s2sz
      → IsRead A F m (rtt_create rd rtt ipa level m).machine (realm_at m rd) after x
  unfolding rtt_create entry_in_page
  create_read after start first inside_space =
      let realm : RmmRealm = realm_at m rd in
      let r : ℕ = number_of m rd in
      let g : ℕ = number_of m rtt in
      let n : Machine = (rtt_create rd rtt ipa level m).machine in
      let is = realm_of-some (state_at m rd) ok.1.1.1.1.1.0 in
      let inside = yes_from (is_inside m rtt) ok.1.0 in
      let free = is_delegated-true (state_at m rtt) (yes_from (is_delegated (state_at m rtt)) ok.1.1.0) in
      let levels = and_parts (nat_le (realm.start_level + 1) level) (nat_le level 3) (yes_from _ ok.1.1.1.1.1.1.0) in
      let least : realm.start_level + 1 ≤ level = leb-true _ _ levels.0 in
      let most : level ≤ 3 = leb-true _ _ levels.1 in
      let within : ipa < 2 ^ realm.s2sz = ltb-true _ _ (yes_from (is_in_space realm ipa) ok.1.1.1.1.1.1.1.1.0) in
      let found : RttWalk = walk m realm ipa (level - 1) in
      let there : found.level ≡ level - 1 = eqb-true _ _ (yes_from _ ok.1.1.1.1.1.1.1.1.1.0) in
      let deeper : found.level + 1 ≡ level = omega arith in
      let parent : RmmRttEntry = entry_at m found ipa in
      let leaf : is_table parent ≡ false = not-true _ (yes_from _ ok.1.1.1.1.1.1.1.1.1.1.0) in
      let end : IsPlace m proper.linked r ipa found = place_is m proper.linked r ipa (level - 1) realm is within (omega arith) in
      let content : List ℕ = children_page parent level in
      let whole = length-children parent level in
      let lt = number_inside m rtt inside in
      let fits = address_few m rtt proper.linked.sound inside in
      let page : page_in n g ≡ content = content_now m proper.linked r ipa found end g lt free Rtt content whole (Table rtt) tt fits in
      let not_g : (h : ℕ) → (granule_at m h).state ≡ Rtt → h ≢ g = λ h table same. (let states : (granule_at m h).state ≡ (granule_at m g).state = ap (λ (y : ℕ). (granule_at m y).state) same in cc) in
      made_read m n proper refl count r ipa (level - 1) realm is within g
      (entry_beside m proper.linked r ipa found end g lt free Rtt content whole (Table rtt) tt fits) x A F leaf
      (ap (λ (e : RmmRttEntry). table_below n e) (entry_now m proper.linked r ipa found end g lt free Rtt content whole (Table rtt) tt fits)
      ∙ named_inside n rtt (inside-same m n refl count rtt ∙ inside)
      ∙ ap (λ (h : ℕ). Some h) (number-same m n refl count rtt))
      (λ h table other. page_beside m proper.linked r ipa found end g lt free Rtt content whole (Table rtt) tt fits h (not_g h (ap (λ (c : RmmGranule). c.state) table)) other)
      (omega arith)
      (λ j few. ap (λ (p : List ℕ). table_below n (entry_in_page p j)) page ∙ child_below n content parent level j (children_word parent level j few) leaf)
      (λ covers.
      ap (λ (l : ℕ). F (entry_in_page (page_in n g) (entry_index l x)) l) deeper
      ∙ ap (λ (p : List ℕ). F (entry_in_page p (entry_index level x)) level) page
      ∙ ap (λ (w : ℕ). F (entry_of w) level) (children_word parent level (entry_index level x) (entry_index-few level x))
      ∙ alike
      ∙ ap (λ (l : ℕ). F parent l) (sym there))
      after start first inside_space

-- ---- RMI_RTT_FOLD, and RMI_RTT_DESTROY

-- An entry that is no TABLE takes the place of the table to which the old entry led.
module _ (m n : Machine) (proper : IsProper m) (settings : n.settings ≡ m.settings) (count : length n.granules ≡ length m.granules) (rd ipa level g : ℕ)
    (is : (granule_at m (number_of m rd)).state ≡ Rd (realm_at m rd)) (within : ipa < 2 ^ (realm_at m rd).s2sz) (least : (realm_at m rd).start_level ≤ level)
    (named : table_below m (entry_at m (walk m (realm_at m rd) ipa level) ipa) ≡ Some g) (e : RmmRttEntry) (fits : descriptor_of e < 2 ^ 48) (leaf : is_table e ≡ false)
    (pages : n.pages ≡ (with_blank (with_entry m (walk m (realm_at m rd) ipa level) ipa e) g Delegated).pages)
    (flat : (j : ℕ) → j < 512 → table_below m (entry_in_page (page_in m g) j) ≡ None) (x : ℕ) (A : Type 0) (F : RmmRttEntry → ℕ → A) (G : A → A → Type 0)
    (given : x / entry_size (walk m (realm_at m rd) ipa level).level ≡ ipa / entry_size (walk m (realm_at m rd) ipa level).level
    → (F e (walk m (realm_at m rd) ipa level).level ≡ F (entry_in_page (page_in m g) (entry_index ((walk m (realm_at m rd) ipa level).level + 1) x)) ((walk m (realm_at m rd) ipa level).level + 1))
    ⊎ G (F (entry_in_page (page_in m g) (entry_index ((walk m (realm_at m rd) ipa level).level + 1) x)) ((walk m (realm_at m rd) ipa level).level + 1)) (F e (walk m (realm_at m rd) ipa level).level)) where
  pub removed_read : (after : RmmRealm) → after.start_level ≡ (realm_at m rd).start_level → after.first_table ≡ (realm_at m rd).first_table → x < 2 ^ (realm_at m rd).s2sz
      → IsRead A F m n (realm_at m rd) after x
      ⊎ G (F (entry_at m (walk m (realm_at m rd) x 3) x) (walk m (realm_at m rd) x 3).level) (F (entry_at n (walk n after x 3) x) (walk n after x 3).level)
  removed_read after start first inside_space =
      let realm : RmmRealm = realm_at m rd in
      let r : ℕ = number_of m rd in
      let found : RttWalk = walk m realm ipa level in
      let end : IsPlace m proper.linked r ipa found = place_is m proper.linked r ipa level realm is within least in
      let below = next m proper.linked r ipa found g end named in
      let apart : found.table ≢ g = λ same. (
      let levels : proper.linked.level found.table ≡ proper.linked.level g = ap proper.linked.level same in
      let here = end.level in
      let deeper = below.level in
      omega arith) in
      let table : (granule_at m g).state ≡ Rtt = ap (λ (c : RmmGranule). c.state) below.table in
      let lt = taken_inside m g (λ free. cc) in
      let now = ap (λ (ps : List (List ℕ)). entry_in_page (page_at ps found.table) (entry_index found.level ipa)) pages ∙ entry_then m proper.linked r ipa found end g e lt apart fits in
      gone_read m n proper settings count r ipa level realm is within g
      (λ j few ne. ap (λ (ps : List (List ℕ)). entry_in_page (page_at ps found.table) j) pages ∙ entry_other m proper.linked r ipa found end g e lt apart fits j few ne) x A F named
      (ap is_table now ∙ leaf)
      (λ h here other not_g. ap (λ (ps : List (List ℕ)). page_at ps h) pages ∙ page_other m proper.linked r ipa found end g e lt apart fits h not_g other)
      flat G
      (λ covers.
      let old : A = F (entry_in_page (page_in m g) (entry_index (found.level + 1) x)) (found.level + 1) in
      subst (λ (f : RmmRttEntry). (F f found.level ≡ old) ⊎ G old (F f found.level)) (sym now) (given covers))
      after start first inside_space

first_few : (page : List ℕ) → descriptor_of (entry_in_page page 0) < 2 ^ 48
unfolding entry_in_page
first_few page = descriptor-few (word_of_page page 0)

-- RMI_RTT_FOLD keeps the value read at an address, if `F` gives the same for the child that covers the address as for
-- the folded entry. The folded entry is the table's first entry, one level up.
module _ (rd ipa level : ℕ) (m : Machine) (proper : IsProper m) (ok : Passed (rtt_fold rd ipa level m).checks) (count : length (rtt_fold rd ipa level m).machine.granules ≡ length m.granules)
    (x : ℕ) (A : Type 0) (F : RmmRttEntry → ℕ → A)
    (alike : F (entry_of (entry_word (child_entry (entry_in_page (page_in m (unwrap_or (table_below m (entry_at m (walk m (realm_at m rd) ipa (level - 1)) ipa)) 0)) 0) level (entry_index level x)))) level
    ≡ F (entry_in_page (page_in m (unwrap_or (table_below m (entry_at m (walk m (realm_at m rd) ipa (level - 1)) ipa)) 0)) 0) (level - 1)) where
  pub fold_read : (after : RmmRealm) → after.start_level ≡ (realm_at m rd).start_level → after.first_table ≡ (realm_at m rd).first_table → x < 2 ^ (realm_at m rd).s2sz
      → IsRead A F m (rtt_fold rd ipa level m).machine (realm_at m rd) after x
  unfolding rtt_fold is_homogeneous entry_in_page
  fold_read after start first_table inside_space =
      let realm : RmmRealm = realm_at m rd in
      let n : Machine = (rtt_fold rd ipa level m).machine in
      let is = realm_of-some (state_at m rd) ok.1.1.0 in
      let least : realm.start_level + 1 ≤ level = leb-true _ _ (and_parts (nat_le (realm.start_level + 1) level) (nat_le level 3) (yes_from _ ok.1.1.1.0)).0 in
      let within : ipa < 2 ^ realm.s2sz = ltb-true _ _ (yes_from (is_in_space realm ipa) ok.1.1.1.1.1.0) in
      let found : RttWalk = walk m realm ipa (level - 1) in
      let there : found.level ≡ level - 1 = eqb-true _ _ (yes_from _ ok.1.1.1.1.1.1.0) in
      let deeper : found.level + 1 ≡ level = omega arith in
      let below : Option ℕ = table_below m (entry_at m found ipa) in
      let g : ℕ = unwrap_or below 0 in
      let first : RmmRttEntry = entry_in_page (page_in m g) 0 in
      let both = and_parts (not (is_table first) && is_aligned_above first level) (has_parts (page_in m g) first level 512 0) (yes_from _ ok.1.1.1.1.1.1.1.1.0) in
      let leaf : is_table first ≡ false = not-true _ (and_parts (not (is_table first)) (is_aligned_above first level) both.0).0 in
      let part : (j : ℕ) → j < 512 → word_of_page (page_in m g) j ≡ entry_word (child_entry first level j) = λ j lt. part_word (page_in m g) first level 512 0 j both.1 (omega arith) (omega arith) in
      ⊎_elim
      (λ (same : IsRead A F m n realm after x). same)
      (λ (never : ⊥). absurd never)
      (removed_read m n proper refl count rd ipa (level - 1) g is within (omega arith) (some_of below (yes_from _ ok.1.1.1.1.1.1.1.0)) first (first_few (page_in m g)) leaf refl
      (λ j lt. child_below m (page_in m g) first level j (part j lt) leaf) x A F (λ old new. ⊥)
      (λ covers. inl (
      ap (λ (l : ℕ). F first l) there
      ∙ sym alike
      ∙ ap (λ (w : ℕ). F (entry_of w) level) (sym (part (entry_index level x) (entry_index-few level x)))
      ∙ ap (λ (l : ℕ). F (entry_in_page (page_in m g) (entry_index l x)) l) (sym deeper)))
      after start first_table inside_space)
