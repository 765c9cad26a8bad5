-- Proofs that a walk's top is at the next live entry or at the table's end, and that no live entry is between the
-- walk's address and the top.
use Rattle.std.proofs.Common.{◌≡◌, ◌≢◌, ℕ, zero, suc, ◌+◌, ◌-◌, ◌*◌, ◌/◌, ◌%◌, ◌^◌, ◌<◌, ◌≤◌, ◌⊎◌, inl, inr, ◌==◌, true, false, List, Option, Some, None, refl, sym, ap, subst, ◌∙◌, ⊎_elim, arith}
use Rattle.std.specs.Option.{option_map_or}
use Rattle.std.proofs.lemmas.Bool.{both_ways, cases_Bool, cases_eq, cases_lt, cond_both, cond-true, cond-false, eq-eqb, ne_eqb}
use Rattle.rmm_model.specs.declared.entry.RmmRttEntry.{RmmRttEntry}
use Rattle.rmm_model.specs.declared.entry.RmmRttEntry.TheVariants.{Unassigned, Assigned, Table, UnassignedNs, AssignedNs}
use Rattle.rmm_model.specs.declared.granule.RmmGranuleState.TheVariants.{Rd}
use Rattle.rmm_model.specs.declared.realm.RmmRealm.{RmmRealm}
use Rattle.rmm_model.specs.declared.realm.RttWalk.{RttWalk}
use Rattle.rmm_model.specs.Entry.{is_live}
use Rattle.rmm_model.specs.Level.{entry_size, entry_index, start_table_index}
use Rattle.rmm_model.specs.Machine.{Machine, granule_at, page_in}
use Rattle.rmm_model.specs.Table.{entry_in_page, first_live, first_live_from}
use Rattle.rmm_model.specs.Walk.{entry_at, table_below, walk_from, start_of, walk, top_at, top}
use Rattle.rmm_laws.specs.Role.{IsLinked}
use Rattle.rmm_laws.specs.Walk.{end_of, IsAtLive, IsPassed}
use Rattle.rmm_laws.proofs.Along.{stops}
use Rattle.rmm_laws.proofs.Serving.{level_cases, few_at}
use Rattle.rmm_laws.proofs.Walks.{walk_ends, entry_index-few}

-- ---- the first live entry of a table

pub first_live-dead : (page : List ℕ) (count i j : ℕ) → i ≤ j → j < first_live page count i → is_live (entry_in_page page j) ≡ false
unfolding first_live
first_live-dead page zero i j low high = absurd (omega arith)
first_live-dead page (suc count) i j low high =
    ⊎_elim
    (λ (live : is_live (entry_in_page page i) ≡ true).
    let here : first_live page (suc count) i ≡ i = cond-true (is_live (entry_in_page page i)) i (first_live page count (i + 1)) live in
    let below : j < i = subst (λ (n : ℕ). j < n) here high in
    absurd (omega arith))
    (λ (dead : is_live (entry_in_page page i) ≡ false).
    let rest : first_live page (suc count) i ≡ first_live page count (i + 1) = cond-false (is_live (entry_in_page page i)) i (first_live page count (i + 1)) dead in
    ⊎_elim
    (λ (same : j ≡ i). ap (λ (k : ℕ). is_live (entry_in_page page k)) same ∙ dead)
    (λ (other : j ≢ i). first_live-dead page count (i + 1) j (omega arith) (subst (λ (n : ℕ). j < n) rest high))
    (cases_eq j i))
    (cases_Bool (is_live (entry_in_page page i)))

pub first_live-most : (page : List ℕ) (count i : ℕ) → (i ≤ first_live page count i) × (first_live page count i ≤ i + count)
unfolding first_live
first_live-most page zero i = (omega arith, omega arith)
first_live-most page (suc count) i =
    cond_both (is_live (entry_in_page page i)) i (first_live page count (i + 1)) (λ (n : ℕ). (i ≤ n) × (n ≤ i + suc count)) (λ live. (omega arith, omega arith))
    (λ dead. let rest = first_live-most page count (i + 1) in let low = rest.0 in let high = rest.1 in (omega arith, omega arith))

pub first_live-live : (page : List ℕ) (count i : ℕ) → (is_live (entry_in_page page (first_live page count i)) ≡ true) ⊎ (first_live page count i ≡ i + count)
unfolding first_live
first_live-live page zero i = inr (omega arith)
first_live-live page (suc count) i =
    cond_both (is_live (entry_in_page page i)) i (first_live page count (i + 1)) (λ (n : ℕ). (is_live (entry_in_page page n) ≡ true) ⊎ (n ≡ i + suc count)) (λ live. inl live)
    (λ dead. ⊎_elim (λ (live : is_live (entry_in_page page (first_live page count (i + 1))) ≡ true). inl live) (λ (end : first_live page count (i + 1) ≡ i + 1 + count). inr (omega arith)) (first_live-live page count (i + 1)))

-- ---- addresses in one table

-- An address from `ipa` on and before the entry at index `live` is covered by the same table as `ipa`. The address's
-- index is at least that of `ipa`, and below `live`. The index 512 is the table's end.
before_live : (l : ℕ) → l ≤ 3 → (ipa x live : ℕ) → ipa ≤ x → x < (ipa / entry_size l + (live - entry_index l ipa)) * entry_size l → live ≤ 512 → entry_index l ipa ≤ live
    → (entry_index l ipa ≤ entry_index l x) × (entry_index l x < live) × (x / entry_size l / 512 ≡ ipa / entry_size l / 512)
unfolding entry_size entry_index
before_live l few =
    level_cases
    (λ (k : ℕ). (ipa x live : ℕ) → ipa ≤ x → x < (ipa / entry_size k + (live - entry_index k ipa)) * entry_size k → live ≤ 512 → entry_index k ipa ≤ live
    → (entry_index k ipa ≤ entry_index k x) × (entry_index k x < live) × (x / entry_size k / 512 ≡ ipa / entry_size k / 512))
    (λ ipa x live from to most least. (omega arith, omega arith, omega arith))
    (λ ipa x live from to most least. (omega arith, omega arith, omega arith))
    (λ ipa x live from to most least. (omega arith, omega arith, omega arith))
    (λ ipa x live from to most least. (omega arith, omega arith, omega arith))
    l few

-- two addresses that one table covers are in the same entry at each level above the level of the table
above_same : (p l x ipa : ℕ) → p < l → l ≤ 3 → x / entry_size l / 512 ≡ ipa / entry_size l / 512 → x / entry_size p ≡ ipa / entry_size p
unfolding entry_size
above_same zero (suc zero) x ipa below few same = omega arith
above_same zero (suc (suc zero)) x ipa below few same = omega arith
above_same zero (suc (suc (suc zero))) x ipa below few same = omega arith
above_same (suc zero) (suc (suc zero)) x ipa below few same = omega arith
above_same (suc zero) (suc (suc (suc zero))) x ipa below few same = omega arith
above_same (suc (suc zero)) (suc (suc (suc zero))) x ipa below few same = omega arith
above_same p l x ipa below few same = absurd (omega arith)

-- ---- walks of addresses in one table

pub dead_below : (m : Machine) (entry : RmmRttEntry) → is_live entry ≡ false → table_below m entry ≡ None
dead_below m (Unassigned ripas) dead = refl
dead_below m UnassignedNs dead = refl
dead_below m (Table address) dead = absurd (cc)
dead_below m (Assigned ripas address) dead = refl
dead_below m (AssignedNs desc) dead = refl

module _ (m : Machine) (ipa x : ℕ) where
  abbrev child : RttWalk → ℕ → RttWalk
  child place table = record { table = table; level = place.level + 1 }

  -- a walk from a place ends at the level of the place or deeper, if a walk from each table below ends at the level of
  -- that table or deeper
  down_at : (levels : ℕ) (place : RttWalk) (o : Option ℕ) → ((table : ℕ) → place.level + 1 ≤ (walk_from m ipa levels (child place table)).level)
      → place.level ≤ (option_map_or (λ (table : ℕ). walk_from m ipa levels (child place table)) o place).level
  down_at levels place (Some table) rest = let far = rest table in omega arith
  down_at levels place None rest = omega arith

  pub down : (levels : ℕ) (place : RttWalk) → place.level ≤ (walk_from m ipa levels place).level
  unfolding walk_from
  down zero place = omega arith
  down (suc levels) place = down_at levels place (table_below m (entry_at m place ipa)) (λ table. down levels (child place table))

  -- If the walks of `x` and `ipa` from the table below a place end together, so do their walks from the place. The
  -- indices of `x` and `ipa` above the end agree, and the entry of `x` at the end leads to no table.
  follows_at : (levels more : ℕ) (place : RttWalk) (o : Option ℕ) → table_below m (entry_at m place ipa) ≡ o
      → ((p : ℕ) → p < (option_map_or (λ (table : ℕ). walk_from m ipa levels (child place table)) o place).level → entry_index p x ≡ entry_index p ipa)
      → table_below m (entry_at m (option_map_or (λ (table : ℕ). walk_from m ipa levels (child place table)) o place) x) ≡ None
      → ((table : ℕ) → ((p : ℕ) → p < (walk_from m ipa levels (child place table)).level → entry_index p x ≡ entry_index p ipa) → table_below m (entry_at m (walk_from m ipa levels (child place table)) x) ≡ None
      → walk_from m x more (child place table) ≡ walk_from m ipa levels (child place table))
      → walk_from m x (suc more) place ≡ option_map_or (λ (table : ℕ). walk_from m ipa levels (child place table)) o place
  unfolding walk_from entry_at
  follows_at levels more place (Some table) leads same none rest =
      let far = down levels (child place table) in
      let here : entry_index place.level x ≡ entry_index place.level ipa = same place.level (omega arith) in
      let leads_too : table_below m (entry_in_page (page_in m place.table) (entry_index place.level x)) ≡ Some table = ap (λ (k : ℕ). table_below m (entry_in_page (page_in m place.table) k)) here ∙ leads in
      ap (λ (o : Option ℕ). option_map_or (λ (t : ℕ). walk_from m x more (child place t)) o place) leads_too ∙ rest table same none
  follows_at levels more place None leads same none rest = stops m x (suc more) place none

  follows : (levels more : ℕ) (place : RttWalk) → levels ≤ more → ((p : ℕ) → p < (walk_from m ipa levels place).level → entry_index p x ≡ entry_index p ipa)
      → table_below m (entry_at m (walk_from m ipa levels place) x) ≡ None → walk_from m x more place ≡ walk_from m ipa levels place
  unfolding walk_from
  follows zero more place few same none = stops m x more place none
  follows (suc levels) zero place few same none = absurd (omega arith)
  follows (suc levels) (suc more) place few same none =
      follows_at levels more place (table_below m (entry_at m place ipa)) refl same none (λ table same_below none_there. follows levels more (child place table) (omega arith) same_below none_there)

-- ---- tops

module _ (m : Machine) (found : RttWalk) (ipa : ℕ) (few : found.level ≤ 3) where
  abbrev i : ℕ
  i = entry_index found.level ipa

  abbrev live : ℕ
  live = first_live_from (page_in m found.table) i

  live_most : (i ≤ live) × (live ≤ 512)
  live_most =
      let index = entry_index-few found.level ipa in
      let most = first_live-most (page_in m found.table) (512 - i) i in
      let low = most.0 in
      let high = most.1 in
      (low, omega arith)

  -- the entry of `ipa` is the next live entry, or the top is where the entry at index `live` begins
  top_is : (live ≡ i) ⊎ ((live ≢ i) × (top m found ipa ≡ (ipa / entry_size found.level + (live - i)) * entry_size found.level))
  unfolding top top_at
  top_is = ⊎_elim (λ (same : live ≡ i). inl same) (λ (other : live ≢ i). inr (other, cond-false (live == i) _ _ (ne_eqb live i other))) (cases_eq live i)

  aligned_low : ipa / entry_size found.level * entry_size found.level ≤ ipa
  unfolding entry_size
  aligned_low = level_cases (λ (k : ℕ). ipa / entry_size k * entry_size k ≤ ipa) (omega arith) (omega arith) (omega arith) (omega arith) found.level few

  top_low : live ≡ i → top m found ipa ≤ ipa
  unfolding top top_at
  top_low same =
      subst (λ (t : ℕ). t ≤ ipa) (sym (cond-true (live == i) _ _ (eq-eqb live i same)))
      (cond_both m.settings.aligns_live_top (ipa / entry_size found.level * entry_size found.level) ipa (λ (t : ℕ). t ≤ ipa) (λ sure. aligned_low) (λ never. omega arith))

  -- the entry of an address from `ipa` on and before the top is in the same table, and is not live
  pub before_top : (x : ℕ) → ipa ≤ x → x < top m found ipa → (is_live (entry_at m found x) ≡ false) × (x / entry_size found.level / 512 ≡ ipa / entry_size found.level / 512)
  unfolding entry_at
  before_top x from to =
      ⊎_elim
      (λ (same : live ≡ i). let low = top_low same in absurd (omega arith))
      (λ (further : (live ≢ i) × (top m found ipa ≡ (ipa / entry_size found.level + (live - i)) * entry_size found.level)).
      let most = live_most in
      let there = before_live found.level few ipa x live from (subst (λ (t : ℕ). x < t) further.1 to) most.1 most.0 in
      (first_live-dead (page_in m found.table) (512 - i) i (entry_index found.level x) there.0 there.1, there.2))
      top_is

module _ (m : Machine) (linked : IsLinked m) (rd ipa level : ℕ) (realm : RmmRealm) (is : (granule_at m rd).state ≡ Rd realm) (within : ipa < 2 ^ realm.s2sz) (least : realm.start_level ≤ level) (most : level ≤ 3) where
  abbrev found_here : RttWalk
  found_here = walk m realm ipa level

  few_here : found_here.level ≤ 3
  few_here = few_at m linked rd ipa realm found_here (walk_ends m linked rd ipa realm level is within least).place_is

  -- if the table at the end of a walk serves an address, and its entry for the address leads to no table, the walk of
  -- the address ends there too
  pub same_end : (x : ℕ) → x / entry_size (walk m realm ipa level).level / 512 ≡ ipa / entry_size (walk m realm ipa level).level / 512 → table_below m (entry_at m (walk m realm ipa level) x) ≡ None
      → walk m realm x 3 ≡ walk m realm ipa level
  unfolding walk start_of start_table_index entry_index
  same_end x same none =
      let start : RttWalk = start_of realm ipa in
      let deep : realm.start_level ≤ found_here.level = down m ipa x (level - realm.start_level) start in
      let above : (p : ℕ) → p < found_here.level → x / entry_size p ≡ ipa / entry_size p = λ p below. above_same p found_here.level x ipa below few_here same in
      let same_start : x / entry_size realm.start_level / 512 ≡ ipa / entry_size realm.start_level / 512 =
      ⊎_elim
      (λ (here : realm.start_level ≡ found_here.level). subst (λ (l : ℕ). x / entry_size l / 512 ≡ ipa / entry_size l / 512) (sym here) same)
      (λ (other : realm.start_level ≢ found_here.level). ap (λ (q : ℕ). q / 512) (above realm.start_level (omega arith)))
      (cases_eq realm.start_level found_here.level) in
      let start_is : start_of realm x ≡ start_of realm ipa = ap (λ (k : ℕ). record { table = realm.first_table + k; level = realm.start_level }) same_start in
      ap (walk_from m x (3 - realm.start_level)) start_is
      ∙ follows m ipa x (level - realm.start_level) (3 - realm.start_level) start (omega arith) (λ p below. ap (λ (q : ℕ). q % 512) (above p below)) none

  pub skipped : (x : ℕ) → ipa ≤ x → x < top m (walk m realm ipa level) ipa → IsPassed m realm (walk m realm ipa level) x
  skipped x from to =
      let before = before_top m found_here ipa few_here x from to in
      let same_walk = same_end x before.1 (dead_below m (entry_at m found_here x) before.0) in
      (ap (λ (f : RttWalk). is_live (entry_at m f x)) same_walk ∙ before.0, before.0)

-- ---- where tops are

-- the entry that is `live - entry_index l ipa` entries after the entry of `ipa` has index `live`
further_index : (l : ℕ) → l ≤ 3 → (ipa live : ℕ) → entry_index l ipa ≤ live → live < 512 → entry_index l ((ipa / entry_size l + (live - entry_index l ipa)) * entry_size l) ≡ live
unfolding entry_size entry_index
further_index l few =
    level_cases (λ (k : ℕ). (ipa live : ℕ) → entry_index k ipa ≤ live → live < 512 → entry_index k ((ipa / entry_size k + (live - entry_index k ipa)) * entry_size k) ≡ live)
    (λ ipa live least below. omega arith) (λ ipa live least below. omega arith) (λ ipa live least below. omega arith) (λ ipa live least below. omega arith) l few

further_end : (l : ℕ) → l ≤ 3 → (ipa : ℕ) → (ipa / entry_size l + (512 - entry_index l ipa)) * entry_size l ≡ (ipa / entry_size l / 512 + 1) * (512 * entry_size l)
unfolding entry_size entry_index
further_end l few =
    level_cases (λ (k : ℕ). (ipa : ℕ) → (ipa / entry_size k + (512 - entry_index k ipa)) * entry_size k ≡ (ipa / entry_size k / 512 + 1) * (512 * entry_size k))
    (λ ipa. omega arith) (λ ipa. omega arith) (λ ipa. omega arith) (λ ipa. omega arith) l few

aligned_index : (l : ℕ) → l ≤ 3 → (ipa : ℕ) → entry_index l (ipa / entry_size l * entry_size l) ≡ entry_index l ipa
unfolding entry_size entry_index
aligned_index l few =
    level_cases (λ (k : ℕ). (ipa : ℕ) → entry_index k (ipa / entry_size k * entry_size k) ≡ entry_index k ipa) (λ ipa. omega arith) (λ ipa. omega arith) (λ ipa. omega arith) (λ ipa. omega arith) l few

-- An entry begins at the address `to`, and it is not before the entry of `ipa`.
abbrev IsFrom : ℕ → ℕ → ℕ → Type 0
IsFrom l ipa to = (ipa / entry_size l ≤ to / entry_size l) × (to % entry_size l ≡ 0)

-- The address `to` is before the end of the table that covers `ipa`.
abbrev IsBefore : ℕ → ℕ → ℕ → Type 0
IsBefore l ipa to = to < (ipa / entry_size l / 512 + 1) * (512 * entry_size l)

own_place : (l : ℕ) → l ≤ 3 → (ipa : ℕ) → IsBefore l ipa ipa
unfolding entry_size
own_place l few =
    level_cases (λ (k : ℕ). (ipa : ℕ) → IsBefore k ipa ipa) (λ ipa. omega arith) (λ ipa. omega arith) (λ ipa. omega arith) (λ ipa. omega arith) l few

aligned_place : (l : ℕ) → l ≤ 3 → (ipa : ℕ) → IsFrom l ipa (ipa / entry_size l * entry_size l) × IsBefore l ipa (ipa / entry_size l * entry_size l)
unfolding entry_size
aligned_place l few =
    level_cases (λ (k : ℕ). (ipa : ℕ) → IsFrom k ipa (ipa / entry_size k * entry_size k) × IsBefore k ipa (ipa / entry_size k * entry_size k))
    (λ ipa. ((omega arith, omega arith), omega arith)) (λ ipa. ((omega arith, omega arith), omega arith)) (λ ipa. ((omega arith, omega arith), omega arith)) (λ ipa. ((omega arith, omega arith), omega arith)) l few

further_place : (l : ℕ) → l ≤ 3 → (ipa live : ℕ) → IsFrom l ipa ((ipa / entry_size l + (live - entry_index l ipa)) * entry_size l)
unfolding entry_size
further_place l few =
    level_cases (λ (k : ℕ). (ipa live : ℕ) → IsFrom k ipa ((ipa / entry_size k + (live - entry_index k ipa)) * entry_size k))
    (λ ipa live. (omega arith, omega arith)) (λ ipa live. (omega arith, omega arith)) (λ ipa live. (omega arith, omega arith)) (λ ipa live. (omega arith, omega arith)) l few

further_before : (l : ℕ) → l ≤ 3 → (ipa live : ℕ) → live < 512 → IsBefore l ipa ((ipa / entry_size l + (live - entry_index l ipa)) * entry_size l)
unfolding entry_size entry_index
further_before l few =
    level_cases (λ (k : ℕ). (ipa live : ℕ) → live < 512 → IsBefore k ipa ((ipa / entry_size k + (live - entry_index k ipa)) * entry_size k))
    (λ ipa live below. omega arith) (λ ipa live below. omega arith) (λ ipa live below. omega arith) (λ ipa live below. omega arith) l few

-- an address at or before `ipa`, but not in an earlier entry, has the same index as `ipa`
same_index : (l : ℕ) → l ≤ 3 → (ipa to : ℕ) → to ≤ ipa → ipa / entry_size l ≤ to / entry_size l → entry_index l ipa ≡ entry_index l to
unfolding entry_size entry_index
same_index l few =
    level_cases (λ (k : ℕ). (ipa to : ℕ) → to ≤ ipa → ipa / entry_size k ≤ to / entry_size k → entry_index k ipa ≡ entry_index k to)
    (λ ipa to least low. omega arith) (λ ipa to least low. omega arith) (λ ipa to least low. omega arith) (λ ipa to least low. omega arith) l few

module _ (m : Machine) (found : RttWalk) (ipa : ℕ) (few : found.level ≤ 3) where
  abbrev at : ℕ
  at = entry_index found.level ipa

  abbrev next_live : ℕ
  next_live = first_live_from (page_in m found.table) at

  end_or_live : (is_live (entry_in_page (page_in m found.table) next_live) ≡ true) ⊎ (next_live ≡ 512)
  end_or_live =
      let index = entry_index-few found.level ipa in
      ⊎_elim
      (λ (live : is_live (entry_in_page (page_in m found.table) next_live) ≡ true). inl live)
      (λ (end : next_live ≡ at + (512 - at)). inr (end ∙ omega arith))
      (first_live-live (page_in m found.table) (512 - at) at)

  -- an address at the index of the next live entry has a live entry
  live_there : (to : ℕ) → entry_index found.level to ≡ next_live → is_live (entry_in_page (page_in m found.table) next_live) ≡ true → is_live (entry_at m found to) ≡ true
  unfolding entry_at
  live_there to index is = ap (λ (k : ℕ). is_live (entry_in_page (page_in m found.table) k)) index ∙ is

  pub met : IsAtLive m found ipa (top m found ipa)
  unfolding top top_at
  met =
      let index = entry_index-few found.level ipa in
      let most = live_most m found ipa few in
      let low = most.0 in
      let high = most.1 in
      ⊎_elim
      (λ (same : next_live ≡ at).
      let is : is_live (entry_in_page (page_in m found.table) next_live) ≡ true =
      ⊎_elim (λ (live : is_live (entry_in_page (page_in m found.table) next_live) ≡ true). live) (λ (end : next_live ≡ 512). absurd (omega arith)) end_or_live in
      subst (IsAtLive m found ipa) (sym (cond-true (next_live == at) _ _ (eq-eqb next_live at same)))
      (cond_both m.settings.aligns_live_top (ipa / entry_size found.level * entry_size found.level) ipa (IsAtLive m found ipa)
      (λ sure.
      let place = aligned_place found.level few ipa in
      let there = live_there (ipa / entry_size found.level * entry_size found.level) (aligned_index found.level few ipa ∙ sym same) is in
      record { is = inl (there, place.1); low = place.0.0; begins = inr place.0.1 })
      (λ never. record { is = inl (live_there ipa (sym same) is, own_place found.level few ipa); low = omega arith; begins = inl refl })))
      (λ (other : next_live ≢ at).
      let to : ℕ = (ipa / entry_size found.level + (next_live - at)) * entry_size found.level in
      let place = further_place found.level few ipa next_live in
      subst (IsAtLive m found ipa) (sym (cond-false (next_live == at) _ _ (ne_eqb next_live at other)))
      (⊎_elim
      (λ (last : next_live ≡ 512). record {
        is = inr (ap (λ (n : ℕ). (ipa / entry_size found.level + (n - at)) * entry_size found.level) last ∙ further_end found.level few ipa);
        low = place.0;
        begins = inr place.1;
      })
      (λ (inner : next_live ≢ 512).
      let is : is_live (entry_in_page (page_in m found.table) next_live) ≡ true =
      ⊎_elim (λ (live : is_live (entry_in_page (page_in m found.table) next_live) ≡ true). live) (λ (end : next_live ≡ 512). absurd (inner end)) end_or_live in
      let there = live_there to (further_index found.level few ipa next_live low (omega arith)) is in
      record { is = inl (there, further_before found.level few ipa next_live (omega arith)); low = place.0; begins = inr place.1 })
      (cases_eq next_live 512)))
      (cases_eq next_live at)

-- if the entry of an address is not live, each top that satisfies `IsAtLive` is above the address
pub after_dead : (m : Machine) (found : RttWalk) (ipa to : ℕ) → found.level ≤ 3 → is_live (entry_at m found ipa) ≡ false → IsAtLive m found ipa to → ipa < to
unfolding entry_at
after_dead m found ipa to few dead met =
    ⊎_elim
    (λ (it : (is_live (entry_at m found to) ≡ true) × (to < end_of found ipa)).
    ⊎_elim
    (λ (further : ipa < to). further)
    (λ (least : to ≤ ipa).
    let index = same_index found.level few ipa to least met.low in
    absurd (both_ways (is_live (entry_at m found to)) (ap (λ (k : ℕ). is_live (entry_in_page (page_in m found.table) k)) (sym index) ∙ dead) it.0))
    (cases_lt ipa to))
    (λ (end : to ≡ end_of found ipa). subst (λ (t : ℕ). ipa < t) (sym end) (own_place found.level few ipa))
    met.is
