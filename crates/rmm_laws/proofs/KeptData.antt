-- Proofs that each DATA granule is unchanged or DELEGATED after a call other than RMI_REC_ENTER.
use Rattle.std.proofs.Common.{◌≡◌, ◌≢◌, ℕ, ◌+◌, ◌-◌, ◌^◌, ◌<◌, ◌≤◌, ◌⊎◌, inl, inr, Bool, true, false, List, length, Option, Some, None, unwrap_or, refl, sym, ap, ◌∙◌, ⊎_elim, arith}
use Rattle.std.specs.Prelude.{nat_le, nat_lt}
use Rattle.std.proofs.lemmas.Bool.{cases_eq, and_parts, leb-true, ltb-true}
use Rattle.granule_addr.specs.Page.{zero_page}
use Rattle.rmi_abi.specs.declared.call.Call.{Call}
use Rattle.rmi_abi.specs.declared.call.Call.TheVariants.{Version, Features, GranuleDelegate, GranuleUndelegate, RealmCreate, RealmActivate, RealmDestroy, RecAuxCount, RecCreate, RecDestroy, RecEnter, PsciComplete}
use Rattle.rmi_abi.specs.declared.call.Call.TheVariants.{RttReadEntry, RttCreate, RttDestroy, RttFold, RttMapUnprotected, RttUnmapUnprotected, RttInitRipas, RttSetRipas, DataCreate, DataCreateUnknown, DataDestroy}
use Rattle.rmm_model.specs.declared.granule.RmmGranule.{RmmGranule}
use Rattle.rmm_model.specs.declared.granule.RmmGranuleState.{RmmGranuleState}
use Rattle.rmm_model.specs.declared.granule.RmmGranuleState.TheVariants.{Delegated, Data, Rd, Rtt}
use Rattle.rmm_model.specs.declared.realm.RmmRealm.{RmmRealm}
use Rattle.rmm_model.specs.declared.realm.RttWalk.{RttWalk}
use Rattle.rmm_model.specs.declared.rec.RipasRequest.{RipasRequest}
use Rattle.rmm_model.specs.Call.{command_of}
use Rattle.rmm_model.specs.Entry.{ripas_in}
use Rattle.rmm_model.specs.declared.entry.RmmRipas.TheVariants.{Ram}
use Rattle.rmm_model.specs.declared.entry.RmmRttEntry.{RmmRttEntry}
use Rattle.rmm_model.specs.declared.entry.RmmRttEntry.TheVariants.{Unassigned, Assigned}
use Rattle.rmm_model.specs.Granule.{is_delegated, of_no_realm, of_realm}
use Rattle.rmm_model.specs.Machine.{Machine, granule_at, page_in, number_of, state_at, with_blank, with_granule, with_page}
use Rattle.rmm_model.specs.Realm.{is_in_space}
use Rattle.rmm_model.specs.Table.{entry_in_page, children_page}
use Rattle.rmm_model.specs.Walk.{entry_at, table_below, memory_below, walk, with_entry}
use Rattle.rmm_model.specs.Command.DataCreate.{data_create, source_checks, target_checks}
use Rattle.rmm_model.specs.Command.DataCreateUnknown.{data_create_unknown}
use Rattle.rmm_model.specs.Command.DataDestroy.{data_destroy, left_ripas}
use Rattle.rmm_model.specs.Command.Operand.{realm_at, rec_at, is_level}
use Rattle.rmm_model.specs.Command.RealmActivate.{realm_activate}
use Rattle.rmm_model.specs.Command.RealmDestroy.{realm_destroy, is_realm_live, has_live_table}
use Rattle.rmm_model.specs.Command.RecAuxCount.{rec_aux_count}
use Rattle.rmm_model.specs.Command.RipasRange.{change_count, with_ripas, with_ripas_from}
use Rattle.rmm_model.specs.Command.RttCreate.{rtt_create}
use Rattle.rmm_model.specs.Command.RttDestroy.{rtt_destroy, left_entry}
use Rattle.rmm_model.specs.Command.RttFold.{rtt_fold}
use Rattle.rmm_model.specs.Command.RttInitRipas.{rtt_init_ripas, range_checks, init_changeable}
use Rattle.rmm_model.specs.Command.RttMapUnprotected.{rtt_map_unprotected}
use Rattle.rmm_model.specs.Command.RttReadEntry.{rtt_read_entry}
use Rattle.rmm_model.specs.Command.RttSetRipas.{rtt_set_ripas, ripas_request_checks, set_changeable, is_rec_of}
use Rattle.rmm_model.specs.Command.RttUnmapUnprotected.{rtt_unmap_unprotected}
use Rattle.rmm_laws.specs.Apart.{named_realm, IsOfRealm, IsSameAt, IsSpare}
use Rattle.rmm_laws.specs.Proper.{IsProper}
use Rattle.rmm_laws.proofs.LeftAlone.{touches_host, completed_beside}
use Rattle.rmm_laws.proofs.Mappings.{served, place_is, place_table, protected_within, unprotected_within, owned_protected, some_of}
use Rattle.rmm_laws.proofs.Passed.{Passed, yes_from, is_delegated-true, realm_of-some, rec_of-some}
use Rattle.rmm_laws.proofs.Realms.{or_none, start_is, was_realm}
use Rattle.rmm_laws.proofs.RecLives.{rec_created_some}
use Rattle.rmm_laws.proofs.RecsGone.{destroyed_some}
use Rattle.rmm_laws.proofs.SameTables.{KeepsSome, some_granule, some_page, some_old, some_both}
use Rattle.rmm_laws.proofs.Touching.{Touches, IsMine, IsFree, free_spare}
use Rattle.rmm_laws.proofs.Walks.{IsPlace, next}
use Rattle.rmm_laws.proofs.Writes.{granule_at-same, granule_at-other, page_in-same, page_in-other, taken_inside}

abbrev IsData : RmmGranuleState → Type 0
IsData s = s ≡ Data

-- each data page is as it was, or its granule is DELEGATED
abbrev pub KeepsData : Machine → Machine → Type 0
KeepsData m n = (g : ℕ) → (granule_at m g).state ≡ Data → IsSameAt m n g ⊎ ((granule_at n g).state ≡ Delegated)

all : (m : Machine) → KeepsSome IsData m m
all m g is = (refl, refl)

left : (m n : Machine) → KeepsSome IsData m n → KeepsData m n
left m n kept g is = inl (kept g is)

no_table : (m : Machine) (t : ℕ) → (granule_at m t).state ≡ Rtt → IsData (granule_at m t).state → ⊥
no_table m t table data_is = cc

-- an UNDELEGATED or DELEGATED granule is not DATA
pub spare_apart : (m : Machine) (g : ℕ) → IsSpare m g → (granule_at m g).state ≡ Data → ⊥
spare_apart m g (inl free) is = cc
spare_apart m g (inr free) is = cc

by_none : (host : Bool) (m n : Machine) → Touches host m n None → KeepsData m n
by_none host m n touches g is =
    ⊎_elim
    (λ (same : IsSameAt m n g). inl same)
    (λ (mine : IsMine host m None g). absurd (⊎_elim (λ (ours : IsOfRealm m None g). ours) (λ (free : IsFree host m g). spare_apart m g (free_spare host m g free) is) mine))
    (touches.each g)

-- ---- realms

gone_data : (of : ℕ) (m : Machine) → IsProper m → Passed (realm_destroy of m).checks → KeepsData m (realm_destroy of m).machine
unfolding realm_destroy is_realm_live
gone_data of m proper ok g is =
    let realm : RmmRealm = realm_at m of in
    let r : ℕ = number_of m of in
    let there = realm_of-some (state_at m of) ok.1.1.0 in
    let dead = (or_none (nat_lt 0 realm.rec_count) (has_live_table m realm.first_table realm.table_count) ok.1.1.1.0).1 in
    let other : g ≢ r = λ same. (let states : (granule_at m g).state ≡ (granule_at m r).state = ap (λ (y : ℕ). (granule_at m y).state) same in cc) in
    let same = (was_realm m proper.linked r realm there dead).beside g other (λ i lt at. (
    let table : (granule_at m g).state ≡ Rtt = ap (λ (y : ℕ). (granule_at m y).state) at ∙ ap (λ (c : RmmGranule). c.state) (start_is m proper.linked r realm there dead i lt).0 in
    cc)) in
    inl (sym same.0, sym same.1)

-- ---- tables

-- writing a DELEGATED granule and the page of a table leaves each data page as it was
page_data : (m : Machine) (t g : ℕ) (kept : RmmGranule) (content page : List ℕ) → (granule_at m t).state ≡ Rtt → (granule_at m g).state ≡ Delegated → KeepsSome IsData m (with_page (with_page (with_granule m g kept) g content) t page)
page_data m t g kept content page table free =
    let k : Machine = with_page (with_granule m g kept) g content in
    some_old IsData m k (with_page k t page) t (no_table m t table) (some_both IsData m m g kept content (λ it. cc) (all m)) (λ h other. (refl, page_in-other k t h page other))

made_data : (rd rtt ipa level : ℕ) (m : Machine) → IsProper m → Passed (rtt_create rd rtt ipa level m).checks → KeepsSome IsData m (rtt_create rd rtt ipa level m).machine
unfolding rtt_create
made_data rd rtt ipa level m proper ok =
    let realm : RmmRealm = realm_at m rd in
    let r : ℕ = number_of m rd in
    let t : ℕ = number_of m rtt in
    let is = realm_of-some (state_at m rd) ok.1.1.1.1.1.0 in
    let free = is_delegated-true (state_at m rtt) (yes_from (is_delegated (state_at m rtt)) ok.1.1.0) in
    let levels = and_parts (nat_le (realm.start_level + 1) level) (nat_le level 3) (yes_from _ ok.1.1.1.1.1.1.0) in
    let least : realm.start_level + 1 ≤ level = leb-true _ _ levels.0 in
    let within : ipa < 2 ^ realm.s2sz = ltb-true _ _ (yes_from (is_in_space realm ipa) ok.1.1.1.1.1.1.1.1.0) in
    let found : RttWalk = walk m realm ipa (level - 1) in
    let table = place_table m proper.linked r ipa (level - 1) realm is within (omega arith) in
    page_data m found.table t (of_realm r Rtt) (children_page (entry_at m found ipa) level) _ table free

-- replacing a table by an entry leaves each data page as it was
taken_data : (m : Machine) (rd ipa level g : ℕ) (e : RmmRttEntry) → IsProper m → (granule_at m (number_of m rd)).state ≡ Rd (realm_at m rd) → ipa < 2 ^ (realm_at m rd).s2sz → (realm_at m rd).start_level ≤ level
    → table_below m (entry_at m (walk m (realm_at m rd) ipa level) ipa) ≡ Some g → KeepsSome IsData m (with_blank (with_entry m (walk m (realm_at m rd) ipa level) ipa e) g Delegated)
taken_data m rd ipa level g e proper is within least named =
    let realm : RmmRealm = realm_at m rd in
    let r : ℕ = number_of m rd in
    let found : RttWalk = walk m realm ipa level in
    let end : IsPlace m proper.linked r ipa found = place_is m proper.linked r ipa level realm is within least in
    let below = next m proper.linked r ipa found g end named in
    some_both IsData m (with_entry m found ipa e) g (of_no_realm Delegated) zero_page (no_table m g (ap (λ (c : RmmGranule). c.state) below.table))
    (some_page IsData m m found.table _ (no_table m found.table (ap (λ (c : RmmGranule). c.state) end.table)) (all m))

destroyed_data : (rd ipa level : ℕ) (m : Machine) → IsProper m → Passed (rtt_destroy rd ipa level m).checks → KeepsSome IsData m (rtt_destroy rd ipa level m).machine
unfolding rtt_destroy
destroyed_data rd ipa level m proper ok =
    let realm : RmmRealm = realm_at m rd in
    let least : realm.start_level + 1 ≤ level = leb-true _ _ (and_parts (nat_le (realm.start_level + 1) level) (nat_le level 3) (yes_from _ ok.1.1.1.0)).0 in
    let within : ipa < 2 ^ realm.s2sz = ltb-true _ _ (yes_from (is_in_space realm ipa) ok.1.1.1.1.1.0) in
    let below : Option ℕ = table_below m (entry_at m (walk m realm ipa (level - 1)) ipa) in
    taken_data m rd ipa (level - 1) (unwrap_or below 0) (left_entry realm ipa) proper (realm_of-some (state_at m rd) ok.1.1.0) within (omega arith) (some_of below (yes_from _ ok.1.1.1.1.1.1.1.0))

folded_data : (rd ipa level : ℕ) (m : Machine) → IsProper m → Passed (rtt_fold rd ipa level m).checks → KeepsSome IsData m (rtt_fold rd ipa level m).machine
unfolding rtt_fold
folded_data rd ipa level m proper ok =
    let realm : RmmRealm = realm_at m rd in
    let least : realm.start_level + 1 ≤ level = leb-true _ _ (and_parts (nat_le (realm.start_level + 1) level) (nat_le level 3) (yes_from _ ok.1.1.1.0)).0 in
    let within : ipa < 2 ^ realm.s2sz = ltb-true _ _ (yes_from (is_in_space realm ipa) ok.1.1.1.1.1.0) in
    let below : Option ℕ = table_below m (entry_at m (walk m realm ipa (level - 1)) ipa) in
    taken_data m rd ipa (level - 1) (unwrap_or below 0) (entry_in_page (page_in m (unwrap_or below 0)) 0) proper (realm_of-some (state_at m rd) ok.1.1.0) within (omega arith) (some_of below (yes_from _ ok.1.1.1.1.1.1.1.0))

-- ---- entries

mapped_data : (rd ipa level desc : ℕ) (m : Machine) → IsProper m → Passed (rtt_map_unprotected rd ipa level desc m).checks → KeepsSome IsData m (rtt_map_unprotected rd ipa level desc m).machine
unfolding rtt_map_unprotected
mapped_data rd ipa level desc m proper ok =
    let realm : RmmRealm = realm_at m rd in
    let is = realm_of-some (state_at m rd) ok.1.1.0 in
    let levels = and_parts (nat_le m.settings.block_level level) (is_level realm.start_level level) (yes_from _ ok.1.1.1.0) in
    let least = leb-true _ _ (and_parts (nat_le realm.start_level level) (nat_le level 3) levels.1).0 in
    let within = unprotected_within realm ipa (yes_from _ ok.1.1.1.1.1.0) in
    let t : ℕ = (walk m realm ipa level).table in
    some_page IsData m m t _ (no_table m t (place_table m proper.linked (number_of m rd) ipa level realm is within least)) (all m)

unmapped_data : (rd ipa level : ℕ) (m : Machine) → IsProper m → Passed (rtt_unmap_unprotected rd ipa level m).checks → KeepsSome IsData m (rtt_unmap_unprotected rd ipa level m).machine
unfolding rtt_unmap_unprotected
unmapped_data rd ipa level m proper ok =
    let realm : RmmRealm = realm_at m rd in
    let is = realm_of-some (state_at m rd) ok.1.1.0 in
    let levels = and_parts (nat_le m.settings.block_level level) (is_level realm.start_level level) (yes_from _ ok.1.1.1.0) in
    let least = leb-true _ _ (and_parts (nat_le realm.start_level level) (nat_le level 3) levels.1).0 in
    let within = unprotected_within realm ipa (yes_from _ ok.1.1.1.1.1.0) in
    let t : ℕ = (walk m realm ipa level).table in
    some_page IsData m m t _ (no_table m t (place_table m proper.linked (number_of m rd) ipa level realm is within least)) (all m)

inited_data : (rd base top : ℕ) (m : Machine) → IsProper m → Passed (rtt_init_ripas rd base top m).checks → KeepsSome IsData m (rtt_init_ripas rd base top m).machine
unfolding rtt_init_ripas range_checks with_ripas_from
inited_data rd base top m proper ok =
    let realm : RmmRealm = realm_at m rd in
    let r : ℕ = number_of m rd in
    let is = realm_of-some (state_at m rd) ok.1.1.1.0 in
    let within = protected_within realm base (yes_from _ ok.1.1.1.1.1.1.0) in
    let found : RttWalk = walk m realm base 3 in
    let table = place_table m proper.linked r base 3 realm is within (served m r realm proper.linked is).level in
    let k : Machine = with_ripas m found base Ram (change_count m (init_changeable m.settings) found base top) in
    some_granule IsData m k r _ (λ (it : (granule_at m r).state ≡ Data). cc) (some_page IsData m m found.table _ (no_table m found.table table) (all m))

set_data : (rd rec base top : ℕ) (m : Machine) → IsProper m → Passed (rtt_set_ripas rd rec base top m).checks → KeepsSome IsData m (rtt_set_ripas rd rec base top m).machine
unfolding rtt_set_ripas ripas_request_checks with_ripas_from
set_data rd rec base top m proper ok =
    let realm : RmmRealm = realm_at m rd in
    let r : ℕ = number_of m rd in
    let is = realm_of-some (state_at m rd) ok.1.1.1.0 in
    let asking = rec_of-some (state_at m rec) ok.1.1.1.1.1.1.0 in
    let within = protected_within realm base (owned_protected realm (is_rec_of m rd rec) _ (nat_le top base) base ok.1.1.1.1.1.1.1.1.1.0 ok.0 (yes_from _ ok.1.1.1.1.1.1.1.1.1.1.1.0)) in
    let found : RttWalk = walk m realm base 3 in
    let table = place_table m proper.linked r base 3 realm is within (served m r realm proper.linked is).level in
    let asked : RipasRequest = (rec_at m rec).ripas in
    let k : Machine = with_ripas m found base asked.ripas (change_count m (set_changeable asked) found base top) in
    some_granule IsData m k (number_of m rec) _ (λ (it : (granule_at m (number_of m rec)).state ≡ Data). cc) (some_page IsData m m found.table _ (no_table m found.table table) (all m))

-- ---- memory

-- a DELEGATED granule that is given attributes and bytes still has these bytes after the page of a table is written
pub page_content : (m : Machine) (t g : ℕ) (kept : RmmGranule) (content page : List ℕ) → IsProper m → (granule_at m t).state ≡ Rtt → (granule_at m g).state ≡ Delegated
    → page_in (with_page (with_page (with_granule m g kept) g content) t page) g ≡ content
page_content m t g kept content page proper table free =
    let marked : Machine = with_granule m g kept in
    let apart : g ≢ t = λ same. (let states : (granule_at m g).state ≡ (granule_at m t).state = ap (λ (x : ℕ). (granule_at m x).state) same in cc) in
    let inside : g < length m.granules = taken_inside m g (λ none. cc) in
    let pages = proper.linked.sound.pages in
    page_in-other (with_page marked g content) t g page apart ∙ page_in-same marked g content (omega arith)

created_data : (rd page ipa source flags : ℕ) (m : Machine) → IsProper m → Passed (data_create rd page ipa source flags m).checks → KeepsSome IsData m (data_create rd page ipa source flags m).machine
unfolding data_create source_checks target_checks
created_data rd page ipa source flags m proper ok =
    let realm : RmmRealm = realm_at m rd in
    let r : ℕ = number_of m rd in
    let is = realm_of-some (state_at m rd) ok.1.1.1.1.1.1.1.1.1.0 in
    let free = is_delegated-true (state_at m page) (yes_from (is_delegated (state_at m page)) ok.1.1.1.1.1.1.0) in
    let within = protected_within realm ipa (yes_from _ ok.1.1.1.1.1.1.1.1.1.1.1.0) in
    let found : RttWalk = walk m realm ipa 3 in
    let table = place_table m proper.linked r ipa 3 realm is within (served m r realm proper.linked is).level in
    let g : ℕ = number_of m page in
    let content : List ℕ = page_in m (number_of m source) in
    let k : Machine = with_entry (with_page (with_granule m g (of_realm r Data)) g content) found ipa (Assigned Ram page) in
    some_old IsData m k (data_create rd page ipa source flags m).machine r (λ (it : (granule_at m r).state ≡ Data). cc) (page_data m found.table g (of_realm r Data) content _ table free)
    (λ h other. (granule_at-other k r h _ other, refl))

unknown_data : (rd page ipa : ℕ) (m : Machine) → IsProper m → Passed (data_create_unknown rd page ipa m).checks → KeepsSome IsData m (data_create_unknown rd page ipa m).machine
unfolding data_create_unknown
unknown_data rd page ipa m proper ok =
    let realm : RmmRealm = realm_at m rd in
    let r : ℕ = number_of m rd in
    let is = realm_of-some (state_at m rd) ok.1.1.1.1.1.0 in
    let free = is_delegated-true (state_at m page) (yes_from (is_delegated (state_at m page)) ok.1.1.0) in
    let within = protected_within realm ipa (yes_from _ ok.1.1.1.1.1.1.1.0) in
    let t : ℕ = (walk m realm ipa 3).table in
    let table = place_table m proper.linked r ipa 3 realm is within (served m r realm proper.linked is).level in
    page_data m t (number_of m page) (of_realm r Data) zero_page _ table free

-- RMI_DATA_DESTROY leaves each data page as it was, or makes it DELEGATED
left_data : (rd ipa : ℕ) (m : Machine) → IsProper m → Passed (data_destroy rd ipa m).checks → KeepsData m (data_destroy rd ipa m).machine
unfolding data_destroy
left_data rd ipa m proper ok g is =
    let realm : RmmRealm = realm_at m rd in
    let r : ℕ = number_of m rd in
    let there = realm_of-some (state_at m rd) ok.1.1.0 in
    let within = protected_within realm ipa (yes_from _ ok.1.1.1.1.0) in
    let found : RttWalk = walk m realm ipa 3 in
    let x : ℕ = unwrap_or (memory_below m (entry_at m found ipa)) 0 in
    let table = place_table m proper.linked r ipa 3 realm there within (served m r realm proper.linked there).level in
    let k : Machine = with_entry m found ipa (Unassigned (left_ripas (ripas_in (entry_at m found ipa)))) in
    let same = some_page IsData m m found.table _ (no_table m found.table table) (all m) g is in
    ⊎_elim
    (λ (here : g ≡ x).
    let inside : x < length m.granules = taken_inside m x (λ free. (let state : (granule_at m x).state ≡ Data = ap (λ (y : ℕ). (granule_at m y).state) (sym here) ∙ is in cc)) in
    inr (ap (λ (y : ℕ). (granule_at (with_granule k x (of_no_realm Delegated)) y).state) here ∙ ap (λ (c : RmmGranule). c.state) (granule_at-same k x (of_no_realm Delegated) inside)))
    (λ (other : g ≢ x).
    inl (granule_at-other k x g (of_no_realm Delegated) other ∙ same.0, page_in-other (with_granule k x (of_no_realm Delegated)) x g zero_page other ∙ same.1))
    (cases_eq g x)

-- ---- each call

-- a call enters no REC
abbrev pub is_no_entry : Call → Bool
is_no_entry (RecEnter rec run) = false
is_no_entry _ = true

pub data_after : (call : Call) (m : Machine) → IsProper m → is_no_entry call ≡ true → Passed (command_of call m).checks → Touches (touches_host call) m (command_of call m).machine (named_realm m call) → KeepsData m (command_of call m).machine
unfolding realm_activate rec_aux_count rtt_read_entry
data_after (Version requested) m proper enters ok touches = by_none false m _ touches
data_after (Features index) m proper enters ok touches = by_none false m _ touches
data_after (GranuleDelegate address) m proper enters ok touches = by_none true m _ touches
data_after (GranuleUndelegate address) m proper enters ok touches = by_none false m _ touches
data_after (RealmCreate of params) m proper enters ok touches = by_none false m _ touches
data_after (RealmActivate of) m proper enters ok touches =
    left m (realm_activate of m).machine (some_granule IsData m m (number_of m of) _ (λ it. (let is = realm_of-some (state_at m of) ok.1.1.0 in cc)) (all m))
data_after (RealmDestroy of) m proper enters ok touches = gone_data of m proper ok
data_after (RecAuxCount of) m proper enters ok touches = left m m (all m)
data_after (RttReadEntry of ipa level) m proper enters ok touches = left m m (all m)
data_after (RecCreate of rec params) m proper enters ok touches = left m (command_of (RecCreate of rec params) m).machine (rec_created_some of rec params m proper ok IsData (λ r is. cc) (λ is. cc))
data_after (RecDestroy rec) m proper enters ok touches = left m (command_of (RecDestroy rec) m).machine (destroyed_some rec m proper ok IsData (λ r is. cc) (λ r is. cc) (λ is. cc))
data_after (RecEnter rec run) m proper enters ok touches = absurd (cc)
data_after (PsciComplete calling target status) m proper enters ok touches = λ g is. inl (completed_beside calling target status m g ok (λ rec there. cc))
data_after (RttCreate of rtt ipa level) m proper enters ok touches = left m (command_of (RttCreate of rtt ipa level) m).machine (made_data of rtt ipa level m proper ok)
data_after (RttDestroy of ipa level) m proper enters ok touches = left m (command_of (RttDestroy of ipa level) m).machine (destroyed_data of ipa level m proper ok)
data_after (RttFold of ipa level) m proper enters ok touches = left m (command_of (RttFold of ipa level) m).machine (folded_data of ipa level m proper ok)
data_after (RttMapUnprotected of ipa level desc) m proper enters ok touches = left m (command_of (RttMapUnprotected of ipa level desc) m).machine (mapped_data of ipa level desc m proper ok)
data_after (RttUnmapUnprotected of ipa level) m proper enters ok touches = left m (command_of (RttUnmapUnprotected of ipa level) m).machine (unmapped_data of ipa level m proper ok)
data_after (RttInitRipas of base top) m proper enters ok touches = left m (command_of (RttInitRipas of base top) m).machine (inited_data of base top m proper ok)
data_after (RttSetRipas of rec base top) m proper enters ok touches = left m (command_of (RttSetRipas of rec base top) m).machine (set_data of rec base top m proper ok)
data_after (DataCreate of page ipa source flags) m proper enters ok touches = left m (command_of (DataCreate of page ipa source flags) m).machine (created_data of page ipa source flags m proper ok)
data_after (DataCreateUnknown of page ipa) m proper enters ok touches = left m (command_of (DataCreateUnknown of page ipa) m).machine (unknown_data of page ipa m proper ok)
data_after (DataDestroy of ipa) m proper enters ok touches = left_data of ipa m proper ok
