-- Proofs that no live entry is between the address given to RTT_DESTROY, DATA_DESTROY or RTT_UNMAP_UNPROTECTED and the
-- top that the command returns.
use Rattle.std.proofs.Common.{◌≡◌, ◌≢◌, ℕ, zero, suc, ◌+◌, ◌-◌, ◌^◌, ◌<◌, ◌≤◌, false, true, List, length, Option, Some, None, unwrap_or, refl, sym, ap, subst, ◌∙◌, arith}
use Rattle.std.specs.Option.{option_map_or}
use Rattle.std.specs.Prelude.{nat_le}
use Rattle.std.proofs.lemmas.Bool.{and_parts, cond_both, eqb-true, leb-true, ltb-true}
use Rattle.std.proofs.lemmas.List.{length-set}
use Rattle.granule_addr.specs.Page.{zero_page}
use Rattle.rmi_abi.specs.declared.call.Call.{Call}
use Rattle.rmi_abi.specs.declared.call.Call.TheVariants.{RttDestroy, RttUnmapUnprotected, DataDestroy}
use Rattle.rmi_abi.specs.declared.registers.SmcResult.{SmcResult}
use Rattle.rmi_abi.specs.declared.word.Word.TheVariants.{Success}
use Rattle.rmm_model.specs.declared.entry.RmmRttEntry.{RmmRttEntry}
use Rattle.rmm_model.specs.declared.entry.RmmRttEntry.TheVariants.{Unassigned, UnassignedNs}
use Rattle.rmm_model.specs.declared.granule.RmmGranule.{RmmGranule}
use Rattle.rmm_model.specs.declared.granule.RmmGranuleState.TheVariants.{Delegated, Rd, Data, Rtt}
use Rattle.rmm_model.specs.declared.realm.RmmRealm.{RmmRealm}
use Rattle.rmm_model.specs.declared.realm.RttWalk.{RttWalk}
use Rattle.rmm_model.specs.Call.{command_of, performed}
use Rattle.rmm_model.specs.Entry.{is_live, ripas_in}
use Rattle.rmm_model.specs.Granule.{of_no_realm}
use Rattle.rmm_model.specs.Level.{entry_index}
use Rattle.rmm_model.specs.Machine.{Machine, granule_at, page_in, number_of, state_at, with_granule, with_blank}
use Rattle.rmm_model.specs.Realm.{is_in_space, is_protected}
use Rattle.rmm_model.specs.Table.{entry_in_page}
use Rattle.rmm_model.specs.Walk.{entry_at, with_entry, table_below, memory_below, walk_from, start_of, walk, top}
use Rattle.rmm_model.specs.Command.DataDestroy.{data_destroy, left_ripas}
use Rattle.rmm_model.specs.Command.Operand.{realm_at, is_level}
use Rattle.rmm_model.specs.Command.RttDestroy.{rtt_destroy, left_entry}
use Rattle.rmm_model.specs.Command.RttUnmapUnprotected.{rtt_unmap_unprotected}
use Rattle.rmm_laws.specs.Proper.{IsProper}
use Rattle.rmm_laws.specs.Role.{IsLinked}
use Rattle.rmm_laws.specs.Walk.{IsNextTop}
use Rattle.rmm_laws.proofs.Entries.{entry-same}
use Rattle.rmm_laws.proofs.Freed.{none_succeeds, succeeded}
use Rattle.rmm_laws.proofs.Mapped.{entry_then}
use Rattle.rmm_laws.proofs.Mappings.{served, place_is, protected_within, unprotected_within, some_of, data_gone, host_unmapped}
use Rattle.rmm_laws.proofs.Mistakes.{below_same}
use Rattle.rmm_laws.proofs.Ordering.{memory_is}
use Rattle.rmm_laws.proofs.Passed.{Passed, yes_from, realm_of-some}
use Rattle.rmm_laws.proofs.Serving.{few_at}
use Rattle.rmm_laws.proofs.Tables.{free_left, table_gone}
use Rattle.rmm_laws.proofs.Tops.{after_dead, dead_below, down, met, skipped}
use Rattle.rmm_laws.proofs.Walks.{IsPlace, next, start_is, entry_index-few, walk_ends}
use Rattle.rmm_laws.proofs.Writes.{granule_at-other, page_in-other, taken_inside}

-- ---- walks of a machine in which the tables above the end are the same

module _ (m n : Machine) (linked : IsLinked m) (rd ipa : ℕ) where
  abbrev child : RttWalk → ℕ → RttWalk
  child place table = record { table = table; level = place.level + 1 }

  -- each entry on the walk above a level leads to the same table in both machines, or to none in both
  abbrev SameAbove : ℕ → Type 0
  SameAbove level = (p : RttWalk) → IsPlace m linked rd ipa p → p.level < level → table_below n (entry_at n p ipa) ≡ table_below m (entry_at m p ipa)

  still_at : (levels : ℕ) (place : RttWalk) (o : Option ℕ) → table_below m (entry_at m place ipa) ≡ o → IsPlace m linked rd ipa place
      → SameAbove (option_map_or (λ (table : ℕ). walk_from m ipa levels (child place table)) o place).level
      → table_below n (entry_at n (option_map_or (λ (table : ℕ). walk_from m ipa levels (child place table)) o place) ipa) ≡ None
      → ((table : ℕ) → IsPlace m linked rd ipa (child place table) → SameAbove (walk_from m ipa levels (child place table)).level
      → table_below n (entry_at n (walk_from m ipa levels (child place table)) ipa) ≡ None → walk_from n ipa levels (child place table) ≡ walk_from m ipa levels (child place table))
      → walk_from n ipa (suc levels) place ≡ option_map_or (λ (table : ℕ). walk_from m ipa levels (child place table)) o place
  unfolding walk_from
  still_at levels place (Some table) leads is same none rest =
      let far = down m ipa ipa levels (child place table) in
      let here : table_below n (entry_at n place ipa) ≡ Some table = same place is (omega arith) ∙ leads in
      ap (λ (o : Option ℕ). option_map_or (λ (t : ℕ). walk_from n ipa levels (child place t)) o place) here ∙ rest table (next m linked rd ipa place table is leads) same none
  still_at levels place None leads is same none rest = ap (λ (o : Option ℕ). option_map_or (λ (t : ℕ). walk_from n ipa levels (child place t)) o place) none

  still : (levels : ℕ) (place : RttWalk) → IsPlace m linked rd ipa place → SameAbove (walk_from m ipa levels place).level → table_below n (entry_at n (walk_from m ipa levels place) ipa) ≡ None
      → walk_from n ipa levels place ≡ walk_from m ipa levels place
  unfolding walk_from
  still zero place is same none = refl
  still (suc levels) place is same none =
      still_at levels place (table_below m (entry_at m place ipa)) refl is same none (λ table there same_below none_there. still levels (child place table) there same_below none_there)

-- ---- the top of the end of a walk, after a call

module _ (m n : Machine) (proper : IsProper m) (rd ipa level : ℕ) (realm : RmmRealm) (is : (granule_at m rd).state ≡ Rd realm) (within : ipa < 2 ^ realm.s2sz) (least : realm.start_level ≤ level) (most : level ≤ 3)
    (settings : n.settings ≡ m.settings) (count : length n.granules ≡ length m.granules)
    (beside : (p : ℕ) → (granule_at m p).state ≡ Rtt → proper.linked.level p < (walk m realm ipa level).level → page_in n p ≡ page_in m p)
    (dead : is_live (entry_at n (walk m realm ipa level) ipa) ≡ false) where
  walk_then : walk n realm ipa level ≡ walk m realm ipa level
  unfolding walk entry_at
  walk_then =
      still m n proper.linked rd ipa (level - realm.start_level) (start_of realm ipa) (start_is m proper.linked rd ipa realm is within)
      (λ p at above.
      let table : (granule_at m p.table).state ≡ Rtt = ap (λ (r : RmmGranule). r.state) at.table in
      let same = beside p.table table (subst (λ (l : ℕ). l < (walk m realm ipa level).level) (sym at.level) above) in
      ap (λ (page : List ℕ). table_below n (entry_in_page page (entry_index p.level ipa))) same ∙ below_same m n (entry_in_page (page_in m p.table) (entry_index p.level ipa)) settings count)
      (dead_below n (entry_at n (walk m realm ipa level) ipa) dead)

  pub given : IsLinked n → (granule_at n rd).state ≡ Rd realm → IsNextTop n realm (walk n realm ipa level) ipa (top n (walk m realm ipa level) ipa)
  given linked is_then =
      let few : (walk n realm ipa level).level ≤ 3 = few_at n linked rd ipa realm (walk n realm ipa level) (walk_ends n linked rd ipa realm level is_then within least).place_is in
      let at_live = met n (walk n realm ipa level) ipa few in
      subst (λ (f : RttWalk). IsNextTop n realm (walk n realm ipa level) ipa (top n f ipa)) walk_then
      (record {
        further = after_dead n (walk n realm ipa level) ipa (top n (walk n realm ipa level) ipa) few (ap (λ (f : RttWalk). is_live (entry_at n f ipa)) walk_then ∙ dead) at_live;
        met = at_live;
        skipped = λ x from to. skipped n linked rd ipa level realm is_then within least most x from to;
      })

-- ---- commands

-- the entry at the end of a walk is not live, if it equals an entry `left` that is not live
left_at : (n : Machine) (found : RttWalk) (ipa : ℕ) (left : RmmRttEntry) → entry_in_page (page_in n found.table) (entry_index found.level ipa) ≡ left → is_live left ≡ false → is_live (entry_at n found ipa) ≡ false
unfolding entry_at
left_at n found ipa left is dead = ap is_live is ∙ dead

left_dead : (realm : RmmRealm) (ipa : ℕ) → is_live (left_entry realm ipa) ≡ false
left_dead realm ipa = cond_both (is_protected realm ipa) _ _ (λ (e : RmmRttEntry). is_live e ≡ false) (λ sure. refl) (λ never. refl)

-- if a call succeeds, `P` holds of its result, provided that `P` holds of the command's answer and machine once all
-- checks pass
finished : (P : SmcResult × Machine → Type 0) (call : Call) (m n : Machine) (answer : SmcResult) → none_succeeds (command_of call m).checks ≡ true → performed call m ≡ (answer, n) → answer.word ≡ Success
    → (Passed (command_of call m).checks → P ((command_of call m).answer, (command_of call m).machine)) → P (answer, n)
finished P call m n answer none is success then_do =
    subst P is (succeeded (P (performed call m)) call m none (ap (λ (p : SmcResult × Machine). p.0.word) is ∙ success) (λ ok now. subst P (sym now) (then_do ok)))

pub data_destroy_top : (m n : Machine) (answer : SmcResult) (rd ipa : ℕ) → IsProper m → performed (DataDestroy rd ipa) m ≡ (answer, n) → answer.word ≡ Success
    → IsNextTop n (realm_at m rd) (walk n (realm_at m rd) ipa 3) ipa answer.x2
unfolding data_destroy
data_destroy_top m n answer rd ipa proper is success =
    finished (λ (p : SmcResult × Machine). IsNextTop p.1 (realm_at m rd) (walk p.1 (realm_at m rd) ipa 3) ipa p.0.x2) (DataDestroy rd ipa) m n answer refl is success
    (λ ok.
    let owner : ℕ = number_of m rd in
    let realm : RmmRealm = realm_at m rd in
    let is = realm_of-some (state_at m rd) ok.1.1.0 in
    let within = protected_within realm ipa (yes_from _ ok.1.1.1.1.0) in
    let least = (served m owner realm proper.linked is).level in
    let found : RttWalk = walk m realm ipa 3 in
    let reaches : found.level ≡ 3 = eqb-true _ _ (yes_from _ ok.1.1.1.1.1.0) in
    let entry : RmmRttEntry = entry_at m found ipa in
    let g : ℕ = unwrap_or (memory_below m entry) 0 in
    let left : RmmRttEntry = Unassigned (left_ripas (ripas_in entry)) in
    let n : Machine = with_blank (with_entry m found ipa left) g Delegated in
    let memory = memory_is m proper.linked rd ipa is within reaches g (some_of (memory_below m entry) (yes_from _ ok.1.1.1.1.1.1.0)) in
    let state : (granule_at m g).state ≡ Data = ap (λ (r : RmmGranule). r.state) memory in
    let inside : g < length m.granules = taken_inside m g (λ free. cc) in
    let end : IsPlace m proper.linked owner ipa found = place_is m proper.linked owner ipa 3 realm is within least in
    let not_table : (p : ℕ) → (granule_at m p).state ≡ Rtt → p ≢ g = λ p table same. (let s : (granule_at m p).state ≡ (granule_at m g).state = ap (λ (h : ℕ). (granule_at m h).state) same in cc) in
    let apart : found.table ≢ g = not_table found.table (ap (λ (r : RmmGranule). r.state) end.table) in
    let not_rd : owner ≢ g = λ same. (let s : (granule_at m owner).state ≡ (granule_at m g).state = ap (λ (h : ℕ). (granule_at m h).state) same in cc) in
    (given m n proper owner ipa 3 realm is within least (omega arith) refl (length-set m.granules g (of_no_realm Delegated))
    (λ p table above.
    let other : p ≢ found.table = λ same. (let levels : proper.linked.level p ≡ proper.linked.level found.table = ap proper.linked.level same in let here = end.level in omega arith) in
    page_in-other (with_granule (with_entry m found ipa left) g (of_no_realm Delegated)) g p zero_page (not_table p table) ∙ page_in-other m found.table p _ other)
    (left_at n found ipa left (entry_then m proper.linked owner ipa found end g left inside apart (omega arith)) refl)
    (data_gone rd ipa m proper.linked ok)
    (ap (λ (r : RmmGranule). r.state) (granule_at-other (with_entry m found ipa left) g owner (of_no_realm Delegated) not_rd) ∙ is)))

pub rtt_destroy_top : (m n : Machine) (answer : SmcResult) (rd ipa level : ℕ) → IsProper m → performed (RttDestroy rd ipa level) m ≡ (answer, n) → answer.word ≡ Success
    → IsNextTop n (realm_at m rd) (walk n (realm_at m rd) ipa (level - 1)) ipa answer.x2
unfolding rtt_destroy
rtt_destroy_top m n answer rd ipa level proper is success =
    finished (λ (p : SmcResult × Machine). IsNextTop p.1 (realm_at m rd) (walk p.1 (realm_at m rd) ipa (level - 1)) ipa p.0.x2) (RttDestroy rd ipa level) m n answer refl is success
    (λ ok.
    let owner : ℕ = number_of m rd in
    let realm : RmmRealm = realm_at m rd in
    let is = realm_of-some (state_at m rd) ok.1.1.0 in
    let levels = and_parts (nat_le (realm.start_level + 1) level) (nat_le level 3) (yes_from _ ok.1.1.1.0) in
    let low : realm.start_level + 1 ≤ level = leb-true _ _ levels.0 in
    let high : level ≤ 3 = leb-true _ _ levels.1 in
    let within : ipa < 2 ^ realm.s2sz = ltb-true _ _ (yes_from (is_in_space realm ipa) ok.1.1.1.1.1.0) in
    let least : realm.start_level ≤ level - 1 = omega arith in
    let found : RttWalk = walk m realm ipa (level - 1) in
    let entry : RmmRttEntry = entry_at m found ipa in
    let g : ℕ = unwrap_or (table_below m entry) 0 in
    let left : RmmRttEntry = left_entry realm ipa in
    let n : Machine = with_blank (with_entry m found ipa left) g Delegated in
    let end : IsPlace m proper.linked owner ipa found = place_is m proper.linked owner ipa (level - 1) realm is within least in
    let below = next m proper.linked owner ipa found g end (some_of (table_below m entry) (yes_from _ ok.1.1.1.1.1.1.1.0)) in
    let state : (granule_at m g).state ≡ Rtt = ap (λ (r : RmmGranule). r.state) below.table in
    let deeper : proper.linked.level g ≡ found.level + 1 = below.level in
    let inside : g < length m.granules = taken_inside m g (λ free. cc) in
    let apart : found.table ≢ g = λ same. (let same_level : proper.linked.level found.table ≡ proper.linked.level g = ap proper.linked.level same in let here = end.level in omega arith) in
    let not_rd : owner ≢ g = λ same. (let s : (granule_at m owner).state ≡ (granule_at m g).state = ap (λ (h : ℕ). (granule_at m h).state) same in cc) in
    let free = free_left realm ipa in
    (given m n proper owner ipa (level - 1) realm is within least (omega arith) refl (length-set m.granules g (of_no_realm Delegated))
    (λ p table above.
    let other : p ≢ found.table = λ same. (let same_level : proper.linked.level p ≡ proper.linked.level found.table = ap proper.linked.level same in let here = end.level in omega arith) in
    let not_g : p ≢ g = λ same. (let same_level : proper.linked.level p ≡ proper.linked.level g = ap proper.linked.level same in omega arith) in
    page_in-other (with_granule (with_entry m found ipa left) g (of_no_realm Delegated)) g p zero_page not_g ∙ page_in-other m found.table p _ other)
    (left_at n found ipa left (entry_then m proper.linked owner ipa found end g left inside apart free.1) (left_dead realm ipa))
    (table_gone rd ipa level m proper.linked ok)
    (ap (λ (r : RmmGranule). r.state) (granule_at-other (with_entry m found ipa left) g owner (of_no_realm Delegated) not_rd) ∙ is)))

pub unmap_top : (m n : Machine) (answer : SmcResult) (rd ipa level : ℕ) → IsProper m → performed (RttUnmapUnprotected rd ipa level) m ≡ (answer, n) → answer.word ≡ Success
    → IsNextTop n (realm_at m rd) (walk n (realm_at m rd) ipa level) ipa answer.x1
unfolding rtt_unmap_unprotected
unmap_top m n answer rd ipa level proper is success =
    finished (λ (p : SmcResult × Machine). IsNextTop p.1 (realm_at m rd) (walk p.1 (realm_at m rd) ipa level) ipa p.0.x1) (RttUnmapUnprotected rd ipa level) m n answer refl is success
    (λ ok.
    let owner : ℕ = number_of m rd in
    let realm : RmmRealm = realm_at m rd in
    let is = realm_of-some (state_at m rd) ok.1.1.0 in
    let levels = and_parts (nat_le m.settings.block_level level) (is_level realm.start_level level) (yes_from _ ok.1.1.1.0) in
    let bounds = and_parts (nat_le realm.start_level level) (nat_le level 3) levels.1 in
    let least : realm.start_level ≤ level = leb-true _ _ bounds.0 in
    let most : level ≤ 3 = leb-true _ _ bounds.1 in
    let within = unprotected_within realm ipa (yes_from _ ok.1.1.1.1.1.0) in
    let found : RttWalk = walk m realm ipa level in
    let n : Machine = with_entry m found ipa UnassignedNs in
    let end : IsPlace m proper.linked owner ipa found = place_is m proper.linked owner ipa level realm is within least in
    let table_is : (granule_at m found.table).state ≡ Rtt = ap (λ (r : RmmGranule). r.state) end.table in
    let inside : found.table < length m.granules = taken_inside m found.table (λ free. cc) in
    (given m n proper owner ipa level realm is within least most refl refl
    (λ p table above.
    let other : p ≢ found.table = λ same. (let same_level : proper.linked.level p ≡ proper.linked.level found.table = ap proper.linked.level same in let here = end.level in omega arith) in
    page_in-other m found.table p _ other)
    (left_at n found ipa UnassignedNs (entry-same m found.table (entry_index found.level ipa) UnassignedNs proper.linked.sound inside (entry_index-few found.level ipa) (omega arith)) refl)
    (host_unmapped rd ipa level m proper.linked ok) is))
