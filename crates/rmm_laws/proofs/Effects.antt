-- Proofs that successful calls have their specified effects on the states and RIMs of realms, and on the bytes of new
-- pages of data.
use Rattle.std.proofs.Common.{◌≡◌, ◌≢◌, ℕ, zero, suc, ◌<◌, Bool, true, false, List, length, Option, Some, None, refl, sym, ap, subst, ◌∙◌}
use Rattle.std.specs.Prelude.{is_some}
use Rattle.std.proofs.lemmas.List.{length-set, get_or-set_same}
use Rattle.rmi_abi.specs.declared.call.Call.{Call}
use Rattle.rmi_abi.specs.declared.call.Call.TheVariants.{DataCreate, DataDestroy, RealmActivate, RealmCreate, RecCreate, RecEnter, RttInitRipas}
use Rattle.rmi_abi.specs.declared.registers.SmcResult.{SmcResult}
use Rattle.rmi_abi.specs.declared.word.Word.TheVariants.{Success}
use Rattle.rmi_abi.specs.RecParams.{is_runnable_in, mpidr_in}
use Rattle.rmi_abi.specs.RecRun.{flags_in}
use Rattle.rmm_model.specs.declared.entry.RmmRttEntry.{RmmRttEntry}
use Rattle.rmm_model.specs.declared.entry.RmmRttEntry.TheVariants.{Assigned}
use Rattle.rmm_model.specs.declared.entry.RmmRipas.{RmmRipas}
use Rattle.rmm_model.specs.declared.granule.RmmGranule.{RmmGranule}
use Rattle.rmm_model.specs.declared.granule.RmmGranuleState.{RmmGranuleState}
use Rattle.rmm_model.specs.declared.granule.RmmGranuleState.TheVariants.{Delegated, Data, Rd, Rtt, RecAux, Rec as IsRec}
use Rattle.rmm_model.specs.declared.realm.RmmRealm.{RmmRealm}
use Rattle.rmm_model.specs.declared.realm.RmmRealmState.TheVariants.{New, Active}
use Rattle.rmm_model.specs.declared.realm.RttWalk.{RttWalk}
use Rattle.rmm_model.specs.Call.{performed}
use Rattle.rmm_model.specs.Entry.{descriptor_of}
use Rattle.rmm_model.specs.Granule.{of_no_realm, of_realm, is_delegated, realm_of}
use Rattle.rmm_model.specs.Guest.{rec_in}
use Rattle.rmm_model.specs.Machine.{Machine, granule_at, page_in, number_of, state_at, with_granule, with_page}
use Rattle.rmm_model.specs.Realm.{is_new, with_rim}
use Rattle.rmm_model.specs.Rec.{is_running, new_rec}
use Rattle.rmm_model.specs.Walk.{entry_at, memory_below, walk}
use Rattle.rmm_model.specs.Command.Auxiliary.{with_aux, with_wiped_if, aux_granule}
use Rattle.rmm_model.specs.Command.DataCreate.{data_create, source_checks, target_checks, rim_with_data}
use Rattle.rmm_model.specs.Command.DataDestroy.{data_destroy}
use Rattle.rmm_model.specs.Command.Operand.{realm_at}
use Rattle.rmm_model.specs.Command.RealmActivate.{realm_activate}
use Rattle.rmm_model.specs.Command.RealmCreate.{realm_create, params_checks, params_at, realm_for, with_tables}
use Rattle.rmm_model.specs.Command.RecCreate.{rec_create, aux_checks, number_checks, with_created_rec, with_one_more}
use Rattle.rmm_model.specs.Command.RecEnter.{rec_enter, enter_checks, entered_answer, after_steps, after_entry, realm_by, state_of, is_system_off}
use Rattle.rmm_model.specs.Command.RipasRange.{with_ripas_from}
use Rattle.rmm_model.specs.Command.RttInitRipas.{rtt_init_ripas, range_checks}
use Rattle.rmm_laws.specs.Back.{IsAssignedTo}
use Rattle.rmm_laws.specs.Owner.{is_rd}
use Rattle.rmm_laws.specs.Proper.{IsProper}
use Rattle.rmm_laws.specs.Refusal.{is_refusal}
use Rattle.rmm_laws.specs.State.{IsRealmIn, IsRealmMadeOf, HasRim, IsMeasured, Measures, rim_with_range}
use Rattle.rmm_laws.proofs.Answered.{done_passed}
use Rattle.rmm_laws.proofs.Freed.{succeeded}
use Rattle.rmm_laws.proofs.Guests.{active_if}
use Rattle.rmm_laws.proofs.Mappings.{served, place_is, protected_within}
use Rattle.rmm_laws.proofs.Passed.{yes_from, is_delegated-true, realm_of-some}
use Rattle.rmm_laws.proofs.Realms.{made_count}
use Rattle.rmm_laws.proofs.Running.{entered_left}
use Rattle.rmm_laws.proofs.StateCalls.{new_if}
use Rattle.rmm_laws.proofs.Vmids.{made_vmids}
use Rattle.rmm_laws.proofs.Walks.{IsPlace}
use Rattle.rmm_laws.proofs.Writes.{granule_at-same, page_in-same, page_in-other, taken_inside}

-- ---- states

pub activated_then : (m : Machine) (rd : ℕ) → (performed (RealmActivate rd) m).0.word ≡ Success
    → IsRealmIn m (number_of m rd) New × IsRealmIn (performed (RealmActivate rd) m).1 (number_of m rd) Active
unfolding realm_activate
activated_then m rd success =
    let g : ℕ = number_of m rd in
    succeeded (IsRealmIn m g New × IsRealmIn (performed (RealmActivate rd) m).1 g Active) (RealmActivate rd) m refl success
    (λ ok now.
    let old : RmmRealm = realm_at m rd in
    let new : RmmRealm = record old { state = Active } in
    let is = realm_of-some (state_at m rd) ok.1.1.0 in
    let fresh : old.state ≡ New = new_if old.state (yes_from (is_new old.state) ok.1.1.1.0) in
    let inside : g < length m.granules = taken_inside m g (λ none. cc) in
    subst (λ (p : SmcResult × Machine). IsRealmIn m g New × IsRealmIn p.1 g Active) (sym now)
    ((old, is, fresh), (new, ap (λ (r : RmmGranule). r.state) (granule_at-same m g (of_no_realm (Rd new)) inside), refl)))

-- a realm that is created has what its parameters ask for
pub created_then : (m : Machine) (rd params : ℕ) → (performed (RealmCreate rd params) m).0.word ≡ Success → IsRealmMadeOf m (performed (RealmCreate rd params) m).1 rd params
unfolding realm_create params_checks realm_for
created_then m rd params success =
    let g : ℕ = number_of m rd in
    succeeded (IsRealmMadeOf m (performed (RealmCreate rd params) m).1 rd params) (RealmCreate rd params) m refl success
    (λ ok now.
    let realm : RmmRealm = realm_for m (params_at m params) in
    let tables : Machine = with_tables m g realm realm.table_count in
    let free = is_delegated-true (state_at m rd) (yes_from (is_delegated (state_at m rd)) ok.1.1.1.1.1.1.1.1.1.1.0) in
    let inside : g < length m.granules = taken_inside m g (λ none. cc) in
    let count : length tables.granules ≡ length m.granules = made_count m g realm realm.table_count in
    let flags : tables.vmids ≡ m.vmids = made_vmids m g realm realm.table_count in
    let is : granule_at (with_granule tables g (of_no_realm (Rd realm))) g ≡ of_no_realm (Rd realm) = granule_at-same tables g (of_no_realm (Rd realm)) (subst (λ (c : ℕ). g < c) (sym count) inside) in
    subst (λ (p : SmcResult × Machine). IsRealmMadeOf m p.1 rd params) (sym now) (
      realm,
      is,
      refl,
      refl,
      refl,
      refl,
      refl,
      refl,
      refl,
      refl,
      refl,
      λ has. get_or-set_same tables.vmids realm.vmid true false (subst (λ (l : List Bool). realm.vmid < length l) (sym flags) has),
    ))

-- a granule whose realm is neither NEW nor SYSTEM_OFF is an RD of an ACTIVE realm
active_rd : (s : RmmGranuleState) → is_new (state_of (realm_of s)) ≡ false → is_system_off (state_of (realm_of s)) ≡ false → (realm : RmmRealm) × (s ≡ Rd realm) × (realm.state ≡ Active)
active_rd (Rd realm) not_new not_off = (realm, refl, active_if realm.state not_new not_off)
active_rd _ not_new not_off = absurd (cc)

active_owner : (m : Machine) (owner : Option ℕ) → is_new (state_of (realm_by m owner)) ≡ false → is_system_off (state_of (realm_by m owner)) ≡ false → (rd : ℕ) × (owner ≡ Some rd) × IsRealmIn m rd Active
active_owner m (Some rd) not_new not_off = (rd, refl, active_rd (granule_at m rd).state not_new not_off)
active_owner m None not_new not_off = absurd (cc)

pub entered_then : (m : Machine) (rec run : ℕ) → is_refusal (performed (RecEnter rec run) m).0.word ≡ false → (rd : ℕ) × ((granule_at m (number_of m rec)).owner ≡ Some rd) × IsRealmIn m rd Active
unfolding rec_enter enter_checks
entered_then m rec run done =
    let ok = done_passed (RecEnter rec run) m done in
    active_owner m (granule_at m (number_of m rec)).owner ok.1.1.1.1.1.1.0 ok.1.1.1.1.1.1.1.0

leaves_if : (leaves : Bool) → (entered_answer leaves).word ≡ Success → leaves ≡ true
leaves_if true is = refl
leaves_if false is = absurd (cc)

pub left_then : (m : Machine) (rec run : ℕ) → (performed (RecEnter rec run) m).0.word ≡ Success → is_running (rec_in (performed (RecEnter rec run) m).1 (number_of m rec)).state ≡ false
unfolding rec_enter enter_checks
left_then m rec run success =
    let g : ℕ = number_of m rec in
    let flags : ℕ = flags_in (page_in m (number_of m run)) in
    succeeded (is_running (rec_in (performed (RecEnter rec run) m).1 g).state ≡ false) (RecEnter rec run) m refl success
    (λ ok now.
    subst (λ (p : SmcResult × Machine). is_running (rec_in p.1 g).state ≡ false) (sym now)
    (entered_left rec run m ok (leaves_if (after_steps (after_entry m g run flags) g flags 16).0 (sym (ap (λ (p : SmcResult × Machine). p.0.word) now) ∙ success))))

-- ---- RIMs

abbrev HasMeasured : Machine → Machine → Call → ℕ → Type 0
HasMeasured m n call rd = (rim : List ℕ) × HasRim n rd rim × IsMeasured m (Some call) rd rim

-- writing the RD of a realm to a granule makes the granule the RD of a realm with the same RIM
has_rim : (k : Machine) (g : ℕ) (realm : RmmRealm) → g < length k.granules → HasRim (with_granule k g (of_no_realm (Rd realm))) g realm.rim
has_rim k g realm inside = (realm, ap (λ (r : RmmGranule). r.state) (granule_at-same k g (of_no_realm (Rd realm)) inside), refl)

create_measures : (m : Machine) (rd params : ℕ) → (performed (RealmCreate rd params) m).0.word ≡ Success → HasMeasured m (performed (RealmCreate rd params) m).1 (RealmCreate rd params) (number_of m rd)
unfolding realm_create params_checks
create_measures m rd params success =
    let g : ℕ = number_of m rd in
    succeeded (HasMeasured m (performed (RealmCreate rd params) m).1 (RealmCreate rd params) g) (RealmCreate rd params) m refl success
    (λ ok now.
    let realm : RmmRealm = realm_for m (params_at m params) in
    let tables : Machine = with_tables m g realm realm.table_count in
    let free = is_delegated-true (state_at m rd) (yes_from (is_delegated (state_at m rd)) ok.1.1.1.1.1.1.1.1.1.1.0) in
    let inside : g < length m.granules = taken_inside m g (λ none. cc) in
    let count : length tables.granules ≡ length m.granules = made_count m g realm realm.table_count in
    subst (λ (p : SmcResult × Machine). HasMeasured m p.1 (RealmCreate rd params) g) (sym now)
    (realm.rim, has_rim tables g realm (subst (λ (c : ℕ). g < c) (sym count) inside), (refl, ap is_rd free, refl)))

data_measures : (m : Machine) (rd page ipa source flags : ℕ) → (performed (DataCreate rd page ipa source flags) m).0.word ≡ Success
    → HasMeasured m (performed (DataCreate rd page ipa source flags) m).1 (DataCreate rd page ipa source flags) (number_of m rd)
unfolding data_create source_checks target_checks
data_measures m rd page ipa source flags success =
    let g : ℕ = number_of m rd in
    succeeded (HasMeasured m (performed (DataCreate rd page ipa source flags) m).1 (DataCreate rd page ipa source flags) g) (DataCreate rd page ipa source flags) m refl success
    (λ ok now.
    let realm : RmmRealm = realm_at m rd in
    let rim : List ℕ = rim_with_data realm ipa flags (page_in m (number_of m source)) in
    let marked : Machine = with_granule m (number_of m page) (of_realm g Data) in
    let is = realm_of-some (state_at m rd) ok.1.1.1.1.1.1.1.1.1.0 in
    let fresh : realm.state ≡ New = new_if realm.state (yes_from (is_new realm.state) ok.1.1.1.1.1.1.1.1.1.1.1.1.0) in
    let inside : g < length m.granules = taken_inside m g (λ none. cc) in
    let count : length marked.granules ≡ length m.granules = length-set m.granules (number_of m page) (of_realm g Data) in
    subst (λ (p : SmcResult × Machine). HasMeasured m p.1 (DataCreate rd page ipa source flags) g) (sym now)
    (rim, has_rim marked g (with_rim realm rim) (subst (λ (c : ℕ). g < c) (sym count) inside), (refl, (realm, is, fresh), refl)))

ripas_measures : (m : Machine) (rd base top : ℕ) → (performed (RttInitRipas rd base top) m).0.word ≡ Success
    → HasMeasured m (performed (RttInitRipas rd base top) m).1 (RttInitRipas rd base top) (number_of m rd)
unfolding rtt_init_ripas range_checks with_ripas_from
ripas_measures m rd base top success =
    let g : ℕ = number_of m rd in
    succeeded (HasMeasured m (performed (RttInitRipas rd base top) m).1 (RttInitRipas rd base top) g) (RttInitRipas rd base top) m refl success
    (λ ok now.
    let realm : RmmRealm = realm_at m rd in
    let rim : List ℕ = rim_with_range m realm base top in
    let is = realm_of-some (state_at m rd) ok.1.1.1.0 in
    let fresh : realm.state ≡ New = new_if realm.state (yes_from (is_new realm.state) ok.1.1.1.1.1.1.1.1.0) in
    let inside : g < length m.granules = taken_inside m g (λ none. cc) in
    subst (λ (p : SmcResult × Machine). HasMeasured m p.1 (RttInitRipas rd base top) g) (sym now)
    (rim, has_rim m g (with_rim realm rim) inside, (refl, (realm, is, fresh), refl)))

wiped_length : (m : Machine) (o : Option ℕ) (r : RmmGranule) → length (with_wiped_if m o r).granules ≡ length m.granules
wiped_length m (Some g) r = length-set m.granules g r
wiped_length m None r = refl

pub aux_length : (m : Machine) (g : ℕ) (r : RmmGranule) (count : ℕ) → length (with_aux m g r count).granules ≡ length m.granules
unfolding with_aux
aux_length m g r zero = refl
aux_length m g r (suc count) = wiped_length (with_aux m g r count) (aux_granule (with_aux m g r count) g count) r ∙ aux_length m g r count

rec_measures : (m : Machine) (rd rec params : ℕ) → (performed (RecCreate rd rec params) m).0.word ≡ Success
    → HasMeasured m (performed (RecCreate rd rec params) m).1 (RecCreate rd rec params) (number_of m rd)
unfolding rec_create aux_checks number_checks
rec_measures m rd rec params success =
    let g : ℕ = number_of m rd in
    succeeded (HasMeasured m (performed (RecCreate rd rec params) m).1 (RecCreate rd rec params) g) (RecCreate rd rec params) m refl success
    (λ ok now.
    let x : ℕ = number_of m rec in
    let realm : RmmRealm = realm_at m rd in
    let page : List ℕ = page_in m (number_of m params) in
    let other : RmmRealm = with_one_more m.settings realm page in
    let made : Machine = with_created_rec m g x page in
    let all : Machine = with_aux made x (of_realm g RecAux) m.settings.aux in
    let is = realm_of-some (state_at m rd) ok.1.1.1.1.1.1.1.1.0 in
    let fresh : realm.state ≡ New = new_if realm.state (yes_from (is_new realm.state) ok.1.1.1.1.1.1.1.1.1.1.1.1.1.1.1.1.0) in
    let inside : g < length m.granules = taken_inside m g (λ none. cc) in
    let count : length all.granules ≡ length m.granules =
    aux_length made x (of_realm g RecAux) m.settings.aux ∙ length-set m.granules x (of_realm g (IsRec (new_rec (is_runnable_in page) (mpidr_in page)))) in
    subst (λ (p : SmcResult × Machine). HasMeasured m p.1 (RecCreate rd rec params) g) (sym now)
    (other.rim, has_rim all g other (subst (λ (c : ℕ). g < c) (sym count) inside), (refl, (realm, is, fresh), refl)))

pub measured_then : (m : Machine) (call : Call) (rd : ℕ) → Measures m call rd → (performed call m).0.word ≡ Success → (rim : List ℕ) × HasRim (performed call m).1 rd rim × IsMeasured m (Some call) rd rim
measured_then m (RealmCreate of params) rd is success = subst (HasMeasured m (performed (RealmCreate of params) m).1 (RealmCreate of params)) (sym is) (create_measures m of params success)
measured_then m (DataCreate of page ipa source flags) rd is success =
    subst (HasMeasured m (performed (DataCreate of page ipa source flags) m).1 (DataCreate of page ipa source flags)) (sym is) (data_measures m of page ipa source flags success)
measured_then m (RttInitRipas of base top) rd is success = subst (HasMeasured m (performed (RttInitRipas of base top) m).1 (RttInitRipas of base top)) (sym is) (ripas_measures m of base top success)
measured_then m (RecCreate of rec params) rd is success = subst (HasMeasured m (performed (RecCreate of rec params) m).1 (RecCreate of rec params)) (sym is) (rec_measures m of rec params success)
measured_then m _ rd is success = absurd is

-- ---- pages of data

pub content_then : (m : Machine) (rd page ipa source flags : ℕ) → IsProper m → (performed (DataCreate rd page ipa source flags) m).0.word ≡ Success
    → page_in (performed (DataCreate rd page ipa source flags) m).1 (number_of m page) ≡ page_in m (number_of m source)
unfolding data_create source_checks target_checks
content_then m rd page ipa source flags proper success =
    let g : ℕ = number_of m page in
    let content : List ℕ = page_in m (number_of m source) in
    succeeded (page_in (performed (DataCreate rd page ipa source flags) m).1 g ≡ content) (DataCreate rd page ipa source flags) m refl success
    (λ ok now.
    let realm : RmmRealm = realm_at m rd in
    let found : RttWalk = walk m realm ipa 3 in
    let marked : Machine = with_granule m g (of_realm (number_of m rd) Data) in
    let is = realm_of-some (state_at m rd) ok.1.1.1.1.1.1.1.1.1.0 in
    let free : (granule_at m g).state ≡ Delegated = is_delegated-true (state_at m page) (yes_from (is_delegated (state_at m page)) ok.1.1.1.1.1.1.0) in
    let within = protected_within realm ipa (yes_from _ ok.1.1.1.1.1.1.1.1.1.1.1.0) in
    let least = (served m (number_of m rd) realm proper.linked is).level in
    let end : IsPlace m proper.linked (number_of m rd) ipa found = place_is m proper.linked (number_of m rd) ipa 3 realm is within least in
    let table : (granule_at m found.table).state ≡ Rtt = ap (λ (r : RmmGranule). r.state) end.table in
    let apart : g ≢ found.table = λ same. (let states : (granule_at m g).state ≡ (granule_at m found.table).state = ap (λ (x : ℕ). (granule_at m x).state) same in cc) in
    let inside : g < length m.granules = taken_inside m g (λ none. cc) in
    let pages : length m.pages ≡ length m.granules = proper.linked.sound.pages in
    subst (λ (p : SmcResult × Machine). page_in p.1 g ≡ content) (sym now)
    (page_in-other (with_page marked g content) found.table g _ apart ∙ page_in-same marked g content (subst (λ (c : ℕ). g < c) (sym pages) inside)))

assigned_if : (m : Machine) (entry : RmmRttEntry) → is_some (memory_below m entry) ≡ true → (ripas : RmmRipas) × (entry ≡ Assigned ripas (descriptor_of entry))
assigned_if m (Assigned ripas address) is = (ripas, refl)
assigned_if m _ is = absurd (cc)

pub page_named : (m : Machine) (rd ipa : ℕ) → (performed (DataDestroy rd ipa) m).0.word ≡ Success → IsAssignedTo m rd ipa (performed (DataDestroy rd ipa) m).0.x1
unfolding data_destroy
page_named m rd ipa success =
    succeeded (IsAssignedTo m rd ipa (performed (DataDestroy rd ipa) m).0.x1) (DataDestroy rd ipa) m refl success
    (λ ok now.
    subst (λ (p : SmcResult × Machine). IsAssignedTo m rd ipa p.0.x1) (sym now) (assigned_if m (entry_at m (walk m (realm_at m rd) ipa 3) ipa) (yes_from _ ok.1.1.1.1.1.1.0)))
