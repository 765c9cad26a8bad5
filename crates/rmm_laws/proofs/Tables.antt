-- Proofs that RTT_CREATE, RTT_DESTROY and RTT_FOLD keep the invariant that each granule has one role.
use Rattle.std.proofs.Common.{◌≡◌, ◌≢◌, ℕ, ◌+◌, ◌-◌, ◌%◌, ◌^◌, ◌<◌, ◌≤◌, ◌==◌, ◌&&◌, true, false, not, List, Option, Some, None, option_map, unwrap_or, refl, ap, ◌∙◌, ⊎_elim, arith}
use Rattle.std.specs.Prelude.{nat_le}
use Rattle.std.proofs.lemmas.Bool.{cases_Bool, and_parts, cond-false, leb-true, ltb-true, eqb-true, ne_eqb, not-true, cond_both}
use Rattle.page_arena.specs.Word.{word_of_page}
use Rattle.rmm_model.specs.declared.entry.RmmRttEntry.{RmmRttEntry}
use Rattle.rmm_model.specs.declared.entry.RmmRttEntry.TheVariants.{Table}
use Rattle.rmm_model.specs.declared.granule.RmmGranule.{RmmGranule}
use Rattle.rmm_model.specs.declared.granule.RmmGranuleState.TheVariants.{Delegated, Rtt}
use Rattle.rmm_model.specs.declared.realm.RmmRealm.{RmmRealm}
use Rattle.rmm_model.specs.declared.realm.RttWalk.{RttWalk}
use Rattle.rmm_model.specs.Entry.{is_table, descriptor_of}
use Rattle.rmm_model.specs.Granule.{is_delegated}
use Rattle.rmm_model.specs.Level.{entry_index}
use Rattle.rmm_model.specs.Machine.{Machine, granule_at, page_in, is_aligned, is_inside, number_of, state_at, with_blank}
use Rattle.rmm_model.specs.Realm.{is_in_space, is_protected}
use Rattle.rmm_model.specs.Table.{entry_in_page, has_parts, children_page}
use Rattle.rmm_model.specs.Walk.{entry_at, with_entry, table_below, walk}
use Rattle.rmm_model.specs.Command.Operand.{realm_at}
use Rattle.rmm_model.specs.Command.RttCreate.{rtt_create}
use Rattle.rmm_model.specs.Command.RttDestroy.{rtt_destroy, left_entry}
use Rattle.rmm_model.specs.Command.RttFold.{rtt_fold, is_homogeneous, is_aligned_above}
use Rattle.rmm_laws.specs.Role.{Used, used, used_at, has_user, entry_uses, state_uses, uses, IsLinked}
use Rattle.rmm_laws.proofs.Children.{is_free, free_uses, free_leads, empty_table, children_free, length-children, unused_free, parts_free}
use Rattle.rmm_laws.proofs.Entries.{number_inside, address_few, begins, named_inside}
use Rattle.rmm_laws.proofs.EntryWords.{descriptor-few}
use Rattle.rmm_laws.proofs.Mapped.{mapped, unmapped}
use Rattle.rmm_laws.proofs.Mappings.{place_is, some_of}
use Rattle.rmm_laws.proofs.Passed.{Passed, yes_from, is_delegated-true, realm_of-some}
use Rattle.rmm_laws.proofs.Refolding.{block_folded}
use Rattle.rmm_laws.proofs.Unfolding.{block_made}
use Rattle.rmm_laws.proofs.Walks.{IsPlace, right, table_right, uses-entry, by_entry, next, entry_index-few}
use Rattle.rmm_laws.proofs.Writes.{taken_inside}

-- ---- RTT_CREATE

others_none : (m : Machine) (owner : Option ℕ) (level address k : ℕ) → k ≢ 0 → entry_uses m owner level (Table address) k ≡ None
others_none m owner level address k rest = cond-false (k == 0) _ _ (ne_eqb k 0 rest)

pub table_made : (rd rtt ipa level : ℕ) (m : Machine) → IsLinked m → Passed (rtt_create rd rtt ipa level m).checks → IsLinked (rtt_create rd rtt ipa level m).machine
unfolding rtt_create
table_made rd rtt ipa level m proper ok =
    let realm : RmmRealm = realm_at m rd in
    let aligned : rtt % 4096 ≡ 0 = eqb-true _ _ (yes_from (is_aligned rtt) ok.0) in
    let inside : is_inside m rtt ≡ true = yes_from (is_inside m rtt) ok.1.0 in
    let free : state_at m rtt ≡ Delegated = is_delegated-true (state_at m rtt) (yes_from (is_delegated (state_at m rtt)) ok.1.1.0) in
    let is = realm_of-some (state_at m rd) ok.1.1.1.1.1.0 in
    let levels = and_parts (nat_le (realm.start_level + 1) level) (nat_le level 3) (yes_from _ ok.1.1.1.1.1.1.0) in
    let least : realm.start_level + 1 ≤ level = leb-true _ _ levels.0 in
    let most : level ≤ 3 = leb-true _ _ levels.1 in
    let within : ipa < 2 ^ realm.s2sz = ltb-true _ _ (yes_from (is_in_space realm ipa) ok.1.1.1.1.1.1.1.1.0) in
    let place : RttWalk = walk m realm ipa (level - 1) in
    let there : place.level ≡ level - 1 = eqb-true _ _ (yes_from _ ok.1.1.1.1.1.1.1.1.1.0) in
    let not_table : is_table (entry_at m place ipa) ≡ false = not-true _ (yes_from _ ok.1.1.1.1.1.1.1.1.1.1.0) in
    let end : IsPlace m proper (number_of m rd) ipa place = place_is m proper (number_of m rd) ipa (level - 1) realm is within (omega arith) in
    let parent : RmmRttEntry = entry_at m place ipa in
    let one_below : place.level + 1 ≡ level = omega arith in
    ⊎_elim
    (λ (free_parent : is_free parent ≡ true).
    mapped m proper (number_of m rd) ipa place end (number_of m rtt) (number_inside m rtt inside) free Rtt (children_page parent level) (length-children parent level) (Table rtt)
    tt (address_few m rtt proper.sound inside) refl
    (λ k. free_uses m (Some (number_of m rd)) place.level k parent free_parent)
    (ap (option_map (used Rtt (Some (number_of m rd)) (place.level + 1))) (named_inside m rtt inside))
    (λ k rest. others_none m (Some (number_of m rd)) place.level rtt k rest)
    (λ j k. empty_table m (children_page parent level) (children_free parent level free_parent) (Some (number_of m rd)) (place.level + 1) (number_of m rtt) j k)
    (λ table. omega arith)
    (begins m rtt proper.sound inside aligned)
    (λ table j lt. free_leads m (entry_in_page (children_page parent level) j) (children_free parent level free_parent j lt)))
    (λ (block : is_free parent ≡ false). block_made m proper (number_of m rd) rtt ipa level place end one_below most inside aligned free parent refl not_table block)
    (cases_Bool (is_free parent))

-- ---- RTT_DESTROY and RTT_FOLD

by_table : (m : Machine) (owner : Option ℕ) (level k : ℕ) (entry : RmmRttEntry) (g : ℕ) → table_below m entry ≡ Some g → k ≢ 0 → entry_uses m owner level entry k ≡ None
by_table m owner level k (Table address) g named rest = others_none m owner level address k rest
by_table m owner level k _ g named rest = absurd (cc)

-- The table to which the entry at a walk's place leads becomes unused.
module _ (m : Machine) (proper : IsLinked m) (rd ipa : ℕ) (place : RttWalk) (end : IsPlace m proper rd ipa place) (g : ℕ) (named : table_below m (entry_at m place ipa) ≡ Some g) where
  gives : uses m proper.level place.table (entry_index place.level ipa) 0 ≡ Some (used Rtt (Some rd) (place.level + 1) g)
  unfolding entry_at
  gives =
      uses-entry m proper rd ipa place (entry_index place.level ipa) 0 end (entry_index-few place.level ipa)
      ∙ by_entry m proper rd ipa (Some rd) place.level g (entry_in_page (page_in m place.table) (entry_index place.level ipa)) named

  it : used Rtt (Some rd) (place.level + 1) g ≡ used_at m proper.level g
  it = right m proper place.table (entry_index place.level ipa) 0 (used Rtt (Some rd) (place.level + 1) g) gives

  pub below_is : (granule_at m g).state ≡ Rtt
  below_is = ap (λ (r : RmmGranule). r.state) (table_right m proper (Some rd) (place.level + 1) g it).0

  pub below_level : proper.level g ≡ place.level + 1
  below_level = (table_right m proper (Some rd) (place.level + 1) g it).1

  apart : place.table ≢ g
  apart same =
      let levels : proper.level place.table ≡ proper.level g = ap proper.level same in
      let here = end.level in
      let below = below_level in
      omega arith

  pub table_removed : (left : RmmRttEntry) → is_free left ≡ true → descriptor_of left < 2 ^ 48 → ((j : ℕ) → j < 512 → is_free (entry_in_page (page_in m g) j) ≡ true)
      → IsLinked (with_blank (with_entry m place ipa left) g Delegated)
  unfolding uses
  table_removed left free fits all =
      unmapped m proper rd ipa place end g left (taken_inside m g (λ none. (let b = below_is in cc))) apart fits (ap has_user below_is) (free_leads m left free)
      (λ k. free_uses m (Some rd) place.level k left free)
      (by_entry m proper rd ipa (Some rd) place.level g (entry_at m place ipa) named ∙ ap (λ (u : Used). Some u) it)
      (λ k rest. by_table m (Some rd) place.level k (entry_at m place ipa) g named rest)
      (λ j k. ap (λ s. state_uses m s (granule_at m g).owner (proper.level g) (page_in m g) g j k) below_is ∙ empty_table m (page_in m g) all (granule_at m g).owner (proper.level g) g j k)

first_few : (page : List ℕ) → descriptor_of (entry_in_page page 0) < 2 ^ 48
unfolding entry_in_page
first_few page = descriptor-few (word_of_page page 0)

pub free_left : (realm : RmmRealm) (ipa : ℕ) → (is_free (left_entry realm ipa) ≡ true) × (descriptor_of (left_entry realm ipa) < 2 ^ 48)
free_left realm ipa = cond_both (is_protected realm ipa) _ _ (λ (e : RmmRttEntry). (is_free e ≡ true) × (descriptor_of e < 2 ^ 48)) (λ sure. (refl, omega arith)) (λ never. (refl, omega arith))

pub table_gone : (rd ipa level : ℕ) (m : Machine) → IsLinked m → Passed (rtt_destroy rd ipa level m).checks → IsLinked (rtt_destroy rd ipa level m).machine
unfolding rtt_destroy
table_gone rd ipa level m proper ok =
    let realm : RmmRealm = realm_at m rd in
    let is = realm_of-some (state_at m rd) ok.1.1.0 in
    let levels = and_parts (nat_le (realm.start_level + 1) level) (nat_le level 3) (yes_from _ ok.1.1.1.0) in
    let least : realm.start_level + 1 ≤ level = leb-true _ _ levels.0 in
    let within : ipa < 2 ^ realm.s2sz = ltb-true _ _ (yes_from (is_in_space realm ipa) ok.1.1.1.1.1.0) in
    let place : RttWalk = walk m realm ipa (level - 1) in
    let end : IsPlace m proper (number_of m rd) ipa place = place_is m proper (number_of m rd) ipa (level - 1) realm is within (omega arith) in
    let parent : RmmRttEntry = entry_at m place ipa in
    let named : table_below m parent ≡ Some (unwrap_or (table_below m parent) 0) = some_of (table_below m parent) (yes_from _ ok.1.1.1.1.1.1.1.0) in
    let left = free_left realm ipa in
    table_removed m proper (number_of m rd) ipa place end (unwrap_or (table_below m parent) 0) named (left_entry realm ipa) left.0 left.1
    (unused_free (page_in m (unwrap_or (table_below m parent) 0)) ok.1.1.1.1.1.1.1.1.0)

pub table_folded : (rd ipa level : ℕ) (m : Machine) → IsLinked m → Passed (rtt_fold rd ipa level m).checks → IsLinked (rtt_fold rd ipa level m).machine
unfolding rtt_fold is_homogeneous entry_at
table_folded rd ipa level m proper ok =
    let realm : RmmRealm = realm_at m rd in
    let is = realm_of-some (state_at m rd) ok.1.1.0 in
    let levels = and_parts (nat_le (realm.start_level + 1) level) (nat_le level 3) (yes_from _ ok.1.1.1.0) in
    let least : realm.start_level + 1 ≤ level = leb-true _ _ levels.0 in
    let most : level ≤ 3 = leb-true _ _ levels.1 in
    let within : ipa < 2 ^ realm.s2sz = ltb-true _ _ (yes_from (is_in_space realm ipa) ok.1.1.1.1.1.0) in
    let place : RttWalk = walk m realm ipa (level - 1) in
    let end : IsPlace m proper (number_of m rd) ipa place = place_is m proper (number_of m rd) ipa (level - 1) realm is within (omega arith) in
    let there : place.level ≡ level - 1 = eqb-true _ _ (yes_from _ ok.1.1.1.1.1.1.0) in
    let parent : RmmRttEntry = entry_at m place ipa in
    let g : ℕ = unwrap_or (table_below m parent) 0 in
    let named : table_below m parent ≡ Some g = some_of (table_below m parent) (yes_from _ ok.1.1.1.1.1.1.1.0) in
    let first : RmmRttEntry = entry_in_page (page_in m g) 0 in
    let tests = and_parts (not (is_table first) && is_aligned_above first level) (has_parts (page_in m g) first level 512 0) (yes_from _ ok.1.1.1.1.1.1.1.1.0) in
    let not_table = (and_parts (not (is_table first)) (is_aligned_above first level) tests.0).0 in
    let one_below : place.level + 1 ≡ level = omega arith in
    ⊎_elim
    (λ (free : is_free first ≡ true).
    table_removed m proper (number_of m rd) ipa place end g named first free (first_few (page_in m g)) (parts_free (page_in m g) first level tests.1 free))
    (λ (block : is_free first ≡ false).
    block_folded m proper (number_of m rd) ipa level place end one_below most g (next m proper (number_of m rd) ipa place g end named) (apart m proper (number_of m rd) ipa place end g named)
    (gives m proper (number_of m rd) ipa place end g named ∙ ap (λ (u : Used). Some u) (it m proper (number_of m rd) ipa place end g named))
    (λ k rest. uses-entry m proper (number_of m rd) ipa place (entry_index place.level ipa) k end (entry_index-few place.level ipa) ∙ by_table m (Some (number_of m rd)) place.level k parent g named rest)
    first refl (not-true _ not_table) block tests.1)
    (cases_Bool (is_free first))
