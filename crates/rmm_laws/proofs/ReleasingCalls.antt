-- Proofs that a granule that a call gives to the host is zero, and that only calls that create or destroy realms change
-- which VMIDs are used.
use Rattle.std.proofs.Common.{◌≡◌, ◌≢◌, ℕ, zero, suc, ◌+◌, ◌<◌, inl, inr, Bool, true, false, List, length, Option, Some, None, refl, sym, ap, subst, ◌∙◌, ⊎_elim}
use Rattle.std.proofs.lemmas.Bool.{cases_eq}
use Rattle.granule_addr.specs.Page.{zero_page}
use Rattle.rmi_abi.specs.declared.call.Call.{Call}
use Rattle.rmi_abi.specs.declared.call.Call.TheVariants.{Version, GranuleDelegate, GranuleUndelegate, DataCreateUnknown, DataDestroy, RealmActivate, RealmCreate, RealmDestroy, RecCreate, RecDestroy, RecEnter, PsciComplete, RttCreate, RttDestroy, RttMapUnprotected, RttReadEntry, RttUnmapUnprotected, Features, RttFold, RecAuxCount, DataCreate, RttInitRipas, RttSetRipas}
use Rattle.rmi_abi.specs.declared.registers.Registers.{Registers}
use Rattle.rmi_abi.specs.RecParams.{is_runnable_in, mpidr_in}
use Rattle.rmm_model.specs.declared.granule.RmmGranule.{RmmGranule}
use Rattle.rmm_model.specs.declared.granule.RmmGranuleState.TheVariants.{Undelegated, Delegated, Data, Rd, Rtt, RecAux, Rec as IsRec}
use Rattle.rmm_model.specs.declared.realm.RmmRealm.{RmmRealm}
use Rattle.rmm_model.specs.declared.realm.RmmRealmState.TheVariants.{Active}
use Rattle.rmm_model.specs.declared.rec.RmmRec.{RmmRec}
use Rattle.rmm_model.specs.Call.{command_of, performed, rmi_at}
use Rattle.rmm_model.specs.Granule.{of_no_realm, of_realm, is_delegated, is_undelegated, realm_of}
use Rattle.rmm_model.specs.Machine.{Machine, granule_at, page_in, number_of, state_at, with_granule, with_blank}
use Rattle.rmm_model.specs.Realm.{with_rim}
use Rattle.rmm_model.specs.Rec.{new_rec}
use Rattle.rmm_model.specs.Command.Auxiliary.{with_aux, with_wiped_if, aux_granule}
use Rattle.rmm_model.specs.Command.DataCreate.{data_create, rim_with_data}
use Rattle.rmm_model.specs.Command.DataCreateUnknown.{data_create_unknown}
use Rattle.rmm_model.specs.Command.DataDestroy.{data_destroy}
use Rattle.rmm_model.specs.Command.Features.{features}
use Rattle.rmm_model.specs.Command.GranuleDelegate.{granule_delegate}
use Rattle.rmm_model.specs.Command.GranuleUndelegate.{granule_undelegate}
use Rattle.rmm_model.specs.Command.Operand.{realm_at}
use Rattle.rmm_model.specs.Command.RealmActivate.{realm_activate}
use Rattle.rmm_model.specs.Command.RealmCreate.{realm_create, params_at, realm_for, with_tables}
use Rattle.rmm_model.specs.Command.RealmDestroy.{realm_destroy, without_tables}
use Rattle.rmm_model.specs.Command.PsciComplete.{with_rec}
use Rattle.rmm_model.specs.Command.RecAuxCount.{rec_aux_count}
use Rattle.rmm_model.specs.Command.RecCreate.{rec_create, with_created_rec, with_one_more}
use Rattle.rmm_model.specs.Command.RecDestroy.{rec_destroy, with_one_less, without_rec_of, without_rec}
use Rattle.rmm_model.specs.Command.RipasRange.{with_ripas_from}
use Rattle.rmm_model.specs.Command.RttCreate.{rtt_create}
use Rattle.rmm_model.specs.Command.RttDestroy.{rtt_destroy}
use Rattle.rmm_model.specs.Command.RttFold.{rtt_fold}
use Rattle.rmm_model.specs.Command.RttInitRipas.{rtt_init_ripas}
use Rattle.rmm_model.specs.Command.RttMapUnprotected.{rtt_map_unprotected}
use Rattle.rmm_model.specs.Command.RttReadEntry.{rtt_read_entry}
use Rattle.rmm_model.specs.Command.RttSetRipas.{rtt_set_ripas}
use Rattle.rmm_model.specs.Command.RttUnmapUnprotected.{rtt_unmap_unprotected}
use Rattle.rmm_model.specs.Command.Version.{version}
use Rattle.rmm_laws.specs.Apart.{changes_vmids}
use Rattle.rmm_laws.specs.Back.{IsReleased}
use Rattle.rmm_laws.specs.Proper.{IsProper}
use Rattle.rmm_laws.proofs.Guests.{entered_held, entered_vmids, completed_held, completed_vmids}
use Rattle.rmm_laws.proofs.Passed.{Passed, kept, yes_from, is_delegated-true}
use Rattle.rmm_laws.proofs.Releasing.{Held, held_all, held_granule}
use Rattle.rmm_laws.proofs.Writes.{granule_at-other, page_in-same, taken_inside}

-- ---- writes one after another

held_made : (m : Machine) (rd : ℕ) (realm : RmmRealm) (k : ℕ) → Held m (with_tables m rd realm k)
unfolding with_tables
held_made m rd realm zero = held_all m
held_made m rd realm (suc k) = held_granule m (with_tables m rd realm k) (realm.first_table + k) (of_realm rd Rtt) refl (held_made m rd realm k)

held_cleared : (m : Machine) (realm : RmmRealm) (k : ℕ) → Held m (without_tables m realm k)
unfolding without_tables
held_cleared m realm zero = held_all m
held_cleared m realm (suc k) = held_granule m (without_tables m realm k) (realm.first_table + k) (of_no_realm Delegated) refl (held_cleared m realm k)

held_wiped : (m k : Machine) (o : Option ℕ) (r : RmmGranule) → is_undelegated r.state ≡ false → Held m k → Held m (with_wiped_if k o r)
held_wiped m k (Some g) r taken held = held_granule m k g r taken held
held_wiped m k None r taken held = held

held_aux : (m k : Machine) (g : ℕ) (r : RmmGranule) (count : ℕ) → is_undelegated r.state ≡ false → Held m k → Held m (with_aux k g r count)
unfolding with_aux
held_aux m k g r zero taken held = held
held_aux m k g r (suc count) taken held = held_wiped m (with_aux k g r count) (aux_granule (with_aux k g r count) g count) r taken (held_aux m k g r count taken held)

held_less_of : (m : Machine) (rd : ℕ) (o : Option RmmRealm) → Held m (without_rec_of m rd o)
held_less_of m rd (Some realm) = held_granule m m rd (of_no_realm (Rd (with_one_less realm))) refl (held_all m)
held_less_of m rd None = held_all m

held_less : (m : Machine) (o : Option ℕ) → Held m (without_rec m o)
held_less m (Some rd) = held_less_of m rd (realm_of (granule_at m rd).state)
held_less m None = held_all m

held_realm : (m k : Machine) (x : ℕ) (realm : RmmRealm) → Held m k → Held m (with_granule k x (of_no_realm (Rd realm)))
held_realm m k x realm held = held_granule m k x (of_no_realm (Rd realm)) refl held

held_rec : (m k : Machine) (g : ℕ) (rec : RmmRec) → Held m k → Held m (with_rec k g rec)
held_rec m k g rec held = held_granule m k g (record (granule_at k g) { state = IsRec rec }) refl held

-- ---- calls

-- a call is RMI_GRANULE_UNDELEGATE, which gives the host a granule
abbrev is_release : Call → Bool
is_release (GranuleUndelegate address) = true
is_release _ = false

holds : (call : Call) (m : Machine) → IsProper m → is_release call ≡ false → Passed (command_of call m).checks → Held m (command_of call m).machine
unfolding version features granule_delegate realm_create realm_activate rec_aux_count rtt_read_entry rtt_create rtt_destroy realm_destroy rtt_fold rtt_map_unprotected rtt_unmap_unprotected data_create data_create_unknown data_destroy rtt_init_ripas rtt_set_ripas with_ripas_from rec_create rec_destroy
holds (Version requested) m proper quiet ok = held_all m
holds (Features index) m proper quiet ok = held_all m
holds (GranuleDelegate address) m proper quiet ok = held_granule m m (number_of m address) (of_no_realm Delegated) refl (held_all m)
holds (GranuleUndelegate address) m proper quiet ok = absurd (cc)
holds (RealmCreate rd params) m proper quiet ok =
    let realm : RmmRealm = realm_for m (params_at m params) in
    held_granule m (with_tables m (number_of m rd) realm realm.table_count) (number_of m rd) (of_no_realm (Rd realm)) refl (held_made m (number_of m rd) realm realm.table_count)
holds (RealmActivate rd) m proper quiet ok = held_realm m m (number_of m rd) (record (realm_at m rd) { state = Active }) (held_all m)
holds (RecAuxCount rd) m proper quiet ok = held_all m
holds (RttReadEntry rd ipa level) m proper quiet ok = held_all m
holds (RttCreate rd rtt ipa level) m proper quiet ok = held_granule m m (number_of m rtt) (of_realm (number_of m rd) Rtt) refl (held_all m)
holds (RttDestroy rd ipa level) m proper quiet ok = held_granule m m _ (of_no_realm Delegated) refl (held_all m)
holds (RealmDestroy rd) m proper quiet ok =
    held_granule m (without_tables m (realm_at m rd) (realm_at m rd).table_count) (number_of m rd) (of_no_realm Delegated) refl (held_cleared m (realm_at m rd) (realm_at m rd).table_count)
holds (RttFold rd ipa level) m proper quiet ok = held_granule m m _ (of_no_realm Delegated) refl (held_all m)
holds (RttMapUnprotected rd ipa level descriptor) m proper quiet ok = held_all m
holds (RttUnmapUnprotected rd ipa level) m proper quiet ok = held_all m
holds (DataCreate rd page ipa source flags) m proper quiet ok =
    let realm : RmmRealm = realm_at m rd in
    let rim : List ℕ = rim_with_data realm ipa flags (page_in m (number_of m source)) in
    held_granule m (with_granule m (number_of m page) (of_realm (number_of m rd) Data)) (number_of m rd) (of_no_realm (Rd (with_rim realm rim))) refl
    (held_granule m m (number_of m page) (of_realm (number_of m rd) Data) refl (held_all m))
holds (DataCreateUnknown rd page ipa) m proper quiet ok = held_granule m m (number_of m page) (of_realm (number_of m rd) Data) refl (held_all m)
holds (DataDestroy rd ipa) m proper quiet ok = held_granule m m _ (of_no_realm Delegated) refl (held_all m)
holds (RttInitRipas rd base top) m proper quiet ok = held_realm m m (number_of m rd) _ (held_all m)
holds (RttSetRipas rd rec base top) m proper quiet ok = held_rec m m (number_of m rec) _ (held_all m)
holds (RecCreate rd rec params) m proper quiet ok =
    let x : ℕ = number_of m rec in
    let r : ℕ = number_of m rd in
    let page : List ℕ = page_in m (number_of m params) in
    let made : Machine = with_created_rec m r x page in
    held_granule m (with_aux made x (of_realm r RecAux) m.settings.aux) r (of_no_realm (Rd (with_one_more m.settings (realm_at m rd) page))) refl
    (held_aux m made x (of_realm r RecAux) m.settings.aux refl (held_granule m m x (of_realm r (IsRec (new_rec (is_runnable_in page) (mpidr_in page)))) refl (held_all m)))
holds (RecDestroy rec) m proper quiet ok =
    let g : ℕ = number_of m rec in
    let less : Machine = without_rec m (granule_at m g).owner in
    held_granule m (with_aux less g (of_no_realm Delegated) m.settings.aux) g (of_no_realm Delegated) refl (held_aux m less g (of_no_realm Delegated) m.settings.aux refl (held_less m (granule_at m g).owner))
holds (RecEnter rec run) m proper quiet ok = entered_held rec run m proper ok
holds (PsciComplete calling target status) m proper quiet ok = completed_held calling target status m proper ok

abbrev Releases : Machine → Machine → Type 0
Releases m n = (g : ℕ) → (granule_at n g).state ≡ Undelegated → IsReleased m n g

given : (address : ℕ) (m : Machine) → IsProper m → Passed (granule_undelegate address m).checks → Releases m (granule_undelegate address m).machine
unfolding granule_undelegate
given address m proper ok g is =
    let x : ℕ = number_of m address in
    let free : (granule_at m x).state ≡ Delegated = is_delegated-true (state_at m address) (yes_from (is_delegated (state_at m address)) ok.1.1.0) in
    let inside : x < length m.granules = taken_inside m x (λ none. cc) in
    let pages : length m.pages ≡ length m.granules = proper.linked.sound.pages in
    ⊎_elim
    (λ (here : g ≡ x). inr (
      ap (λ (y : ℕ). (granule_at m y).state) here ∙ free,
      ap (page_in (with_blank m x Undelegated)) here ∙ page_in-same (with_granule m x (of_no_realm Undelegated)) x zero_page (subst (λ (c : ℕ). x < c) (sym pages) inside),
    ))
    (λ (other : g ≢ x). inl (sym (ap (λ (r : RmmGranule). r.state) (granule_at-other m x g (of_no_realm Undelegated) other)) ∙ is))
    (cases_eq g x)

releases : (call : Call) (m : Machine) → IsProper m → Passed (command_of call m).checks → Releases m (command_of call m).machine
releases (GranuleUndelegate address) m proper ok g is = given address m proper ok g is
releases call m proper ok g is = inl (holds call m proper refl ok g is)

pub call_releases : (o : Option Call) (r : Registers) (m : Machine) → IsProper m → Releases m (rmi_at o r m).1
unfolding performed
call_releases None r m proper = λ g is. inl is
call_releases (Some call) r m proper = kept (Releases m) (command_of call m) m (λ g is. inl is) (releases call m proper)

-- ---- VMIDs

wiped_vmids : (m : Machine) (o : Option ℕ) (r : RmmGranule) → (with_wiped_if m o r).vmids ≡ m.vmids
wiped_vmids m (Some g) r = refl
wiped_vmids m None r = refl

aux_vmids : (m : Machine) (g : ℕ) (r : RmmGranule) (count : ℕ) → (with_aux m g r count).vmids ≡ m.vmids
unfolding with_aux
aux_vmids m g r zero = refl
aux_vmids m g r (suc count) = wiped_vmids (with_aux m g r count) (aux_granule (with_aux m g r count) g count) r ∙ aux_vmids m g r count

less_of_vmids : (m : Machine) (rd : ℕ) (o : Option RmmRealm) → (without_rec_of m rd o).vmids ≡ m.vmids
less_of_vmids m rd (Some realm) = refl
less_of_vmids m rd None = refl

less_vmids : (m : Machine) (o : Option ℕ) → (without_rec m o).vmids ≡ m.vmids
less_vmids m (Some rd) = less_of_vmids m rd (realm_of (granule_at m rd).state)
less_vmids m None = refl

same_vmids : (call : Call) (m : Machine) → IsProper m → changes_vmids (Some call) ≡ false → Passed (command_of call m).checks → (command_of call m).machine.vmids ≡ m.vmids
unfolding version features granule_delegate granule_undelegate realm_activate rec_aux_count rtt_read_entry rtt_create rtt_destroy rtt_fold rtt_map_unprotected rtt_unmap_unprotected data_create data_create_unknown data_destroy rtt_init_ripas rtt_set_ripas with_ripas_from rec_create rec_destroy
same_vmids (RealmCreate rd params) m proper quiet ok = absurd (cc)
same_vmids (RealmDestroy rd) m proper quiet ok = absurd (cc)
same_vmids (RecCreate rd rec params) m proper quiet ok =
    let x : ℕ = number_of m rec in
    let r : ℕ = number_of m rd in
    aux_vmids (with_created_rec m r x (page_in m (number_of m params))) x (of_realm r RecAux) m.settings.aux
same_vmids (RecDestroy rec) m proper quiet ok =
    let g : ℕ = number_of m rec in
    aux_vmids (without_rec m (granule_at m g).owner) g (of_no_realm Delegated) m.settings.aux ∙ less_vmids m (granule_at m g).owner
same_vmids (RecEnter rec run) m proper quiet ok = entered_vmids rec run m proper ok
same_vmids (PsciComplete calling target status) m proper quiet ok = completed_vmids calling target status m proper ok
same_vmids _ m proper quiet ok = refl

pub call_vmids : (o : Option Call) (r : Registers) (m : Machine) → IsProper m → changes_vmids o ≡ false → (rmi_at o r m).1.vmids ≡ m.vmids
unfolding performed
call_vmids None r m proper quiet = refl
call_vmids (Some call) r m proper quiet = kept (λ (n : Machine). n.vmids ≡ m.vmids) (command_of call m) m refl (same_vmids call m proper quiet)
