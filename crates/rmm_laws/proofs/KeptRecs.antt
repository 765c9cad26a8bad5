-- Proofs that each REC after a call was a REC of the same owner before, unless the call creates the REC.
use Rattle.std.proofs.Common.{◌≡◌, ◌≢◌, ℕ, zero, suc, ◌+◌, ◌*◌, ◌<◌, inl, inr, Bool, true, false, length, List, Option, Some, None, refl, sym, ap, ◌∙◌, ⊎_elim}
use Rattle.std.proofs.lemmas.Bool.{cases_eq}
use Rattle.rmi_abi.specs.declared.call.Call.{Call}
use Rattle.rmi_abi.specs.declared.call.Call.TheVariants.{Version, GranuleDelegate, GranuleUndelegate, DataCreateUnknown, DataDestroy, RealmActivate, RealmCreate, RealmDestroy, RecCreate, RecDestroy, RecEnter, PsciComplete, RttCreate, RttDestroy, RttMapUnprotected, RttReadEntry, RttUnmapUnprotected, Features, RttFold, RecAuxCount, DataCreate, RttInitRipas, RttSetRipas}
use Rattle.rmi_abi.specs.declared.registers.Registers.{Registers}
use Rattle.rmi_abi.specs.RecParams.{is_runnable_in, mpidr_in}
use Rattle.rmm_model.specs.declared.granule.RmmGranule.{RmmGranule}
use Rattle.rmm_model.specs.declared.granule.RmmGranuleState.TheVariants.{Delegated, Undelegated, Data, Rd, Rtt, RecAux, Rec as IsRec}
use Rattle.rmm_model.specs.declared.realm.RmmRealm.{RmmRealm}
use Rattle.rmm_model.specs.declared.realm.RmmRealmState.TheVariants.{Active}
use Rattle.rmm_model.specs.declared.realm.RttWalk.{RttWalk}
use Rattle.rmm_model.specs.declared.rec.RmmRec.{RmmRec}
use Rattle.rmm_model.specs.Call.{command_of, performed, rmi_at}
use Rattle.rmm_model.specs.Granule.{of_no_realm, of_realm, is_delegated, realm_of, rec_of}
use Rattle.rmm_model.specs.Level.{entry_size}
use Rattle.rmm_model.specs.Machine.{Machine, granule_at, page_in, number_of, state_at, with_granule}
use Rattle.rmm_model.specs.Realm.{with_rim}
use Rattle.rmm_model.specs.Rec.{new_rec}
use Rattle.rmm_model.specs.Walk.{walk}
use Rattle.rmm_model.specs.Command.Auxiliary.{with_aux, with_wiped_if, aux_granule}
use Rattle.rmm_model.specs.Command.Operand.{realm_at, rec_at}
use Rattle.rmm_model.specs.Command.RipasRange.{with_ripas, with_ripas_from, change_count}
use Rattle.rmm_model.specs.Command.DataCreate.{data_create, rim_with_data}
use Rattle.rmm_model.specs.Command.DataCreateUnknown.{data_create_unknown}
use Rattle.rmm_model.specs.Command.DataDestroy.{data_destroy}
use Rattle.rmm_model.specs.Command.Features.{features}
use Rattle.rmm_model.specs.Command.GranuleDelegate.{granule_delegate}
use Rattle.rmm_model.specs.Command.GranuleUndelegate.{granule_undelegate}
use Rattle.rmm_model.specs.Command.RealmActivate.{realm_activate}
use Rattle.rmm_model.specs.Command.RealmCreate.{realm_create, params_at, realm_for, with_tables}
use Rattle.rmm_model.specs.Command.RealmDestroy.{realm_destroy, without_tables}
use Rattle.rmm_model.specs.Command.PsciComplete.{psci_complete}
use Rattle.rmm_model.specs.Command.RecAuxCount.{rec_aux_count}
use Rattle.rmm_model.specs.Command.RecCreate.{rec_create, with_created_rec, with_one_more}
use Rattle.rmm_model.specs.Command.RecDestroy.{rec_destroy, with_one_less, without_rec_of, without_rec}
use Rattle.rmm_model.specs.Command.RecEnter.{rec_enter}
use Rattle.rmm_model.specs.Command.RttCreate.{rtt_create}
use Rattle.rmm_model.specs.Command.RttDestroy.{rtt_destroy}
use Rattle.rmm_model.specs.Command.RttFold.{rtt_fold}
use Rattle.rmm_model.specs.Command.RttInitRipas.{rtt_init_ripas, rim_with_ripas, init_changeable}
use Rattle.rmm_model.specs.Command.RttMapUnprotected.{rtt_map_unprotected}
use Rattle.rmm_model.specs.Command.RttReadEntry.{rtt_read_entry}
use Rattle.rmm_model.specs.Command.RttSetRipas.{rtt_set_ripas, ripas_request_checks, set_changeable, with_base}
use Rattle.rmm_model.specs.Command.RttUnmapUnprotected.{rtt_unmap_unprotected}
use Rattle.rmm_model.specs.Command.Version.{version}
use Rattle.rmm_laws.specs.Owner.{KeepsRecs}
use Rattle.rmm_laws.specs.Proper.{IsProper}
use Rattle.rmm_laws.proofs.Guests.{entered_recs, completed_recs}
use Rattle.rmm_laws.proofs.Passed.{Passed, kept, yes_from, is_delegated-true, rec_of-some}
use Rattle.rmm_laws.proofs.RecOwners.{RecsStay, recs_all, recs_plain, recs_rec}
use Rattle.rmm_laws.proofs.Writes.{granule_at-same, granule_at-other, taken_inside}

-- ---- writes one after another

recs_made : (m : Machine) (rd : ℕ) (realm : RmmRealm) (k : ℕ) → RecsStay m (with_tables m rd realm k)
unfolding with_tables
recs_made m rd realm zero = recs_all m
recs_made m rd realm (suc k) = recs_plain m (with_tables m rd realm k) (realm.first_table + k) (of_realm rd Rtt) refl (recs_made m rd realm k)

recs_cleared : (m : Machine) (realm : RmmRealm) (k : ℕ) → RecsStay m (without_tables m realm k)
unfolding without_tables
recs_cleared m realm zero = recs_all m
recs_cleared m realm (suc k) = recs_plain m (without_tables m realm k) (realm.first_table + k) (of_no_realm Delegated) refl (recs_cleared m realm k)

recs_wiped : (m k : Machine) (o : Option ℕ) (r : RmmGranule) → rec_of r.state ≡ None → RecsStay m k → RecsStay m (with_wiped_if k o r)
recs_wiped m k (Some g) r plain beside = recs_plain m k g r plain beside
recs_wiped m k None r plain beside = beside

recs_aux : (m k : Machine) (g : ℕ) (r : RmmGranule) (count : ℕ) → rec_of r.state ≡ None → RecsStay m k → RecsStay m (with_aux k g r count)
unfolding with_aux
recs_aux m k g r zero plain beside = beside
recs_aux m k g r (suc count) plain beside = recs_wiped m (with_aux k g r count) (aux_granule (with_aux k g r count) g count) r plain (recs_aux m k g r count plain beside)

recs_less_of : (m : Machine) (rd : ℕ) (o : Option RmmRealm) → RecsStay m (without_rec_of m rd o)
recs_less_of m rd (Some realm) = recs_plain m m rd (of_no_realm (Rd (with_one_less realm))) refl (recs_all m)
recs_less_of m rd None = recs_all m

recs_less : (m : Machine) (o : Option ℕ) → RecsStay m (without_rec m o)
recs_less m (Some rd) = recs_less_of m rd (realm_of (granule_at m rd).state)
recs_less m None = recs_all m

-- ---- calls that make no REC

abbrev is_quiet : Call → Bool
is_quiet (RecCreate rd rec params) = false
is_quiet (RecEnter rec run) = false
is_quiet (PsciComplete calling target status) = false
is_quiet (RttSetRipas rd rec base top) = false
is_quiet _ = true

quiet : (call : Call) (m : Machine) → is_quiet call ≡ true → RecsStay m (command_of call m).machine
unfolding version features granule_delegate granule_undelegate realm_create realm_activate rec_aux_count rtt_read_entry rtt_create rtt_destroy realm_destroy rtt_fold rtt_map_unprotected rtt_unmap_unprotected data_create data_create_unknown data_destroy rtt_init_ripas with_ripas_from rec_destroy
quiet (Version requested) m is = recs_all m
quiet (Features index) m is = recs_all m
quiet (GranuleDelegate address) m is = recs_plain m m (number_of m address) (of_no_realm Delegated) refl (recs_all m)
quiet (GranuleUndelegate address) m is = recs_plain m m (number_of m address) (of_no_realm Undelegated) refl (recs_all m)
quiet (RealmCreate rd params) m is =
    let realm : RmmRealm = realm_for m (params_at m params) in
    recs_plain m (with_tables m (number_of m rd) realm realm.table_count) (number_of m rd) (of_no_realm (Rd realm)) refl (recs_made m (number_of m rd) realm realm.table_count)
quiet (RealmActivate rd) m is = recs_plain m m (number_of m rd) (of_no_realm (Rd (record (realm_at m rd) { state = Active }))) refl (recs_all m)
quiet (RecAuxCount rd) m is = recs_all m
quiet (RttReadEntry rd ipa level) m is = recs_all m
quiet (RttCreate rd rtt ipa level) m is = recs_plain m m (number_of m rtt) (of_realm (number_of m rd) Rtt) refl (recs_all m)
quiet (RttDestroy rd ipa level) m is = recs_plain m m _ (of_no_realm Delegated) refl (recs_all m)
quiet (RealmDestroy rd) m is =
    recs_plain m (without_tables m (realm_at m rd) (realm_at m rd).table_count) (number_of m rd) (of_no_realm Delegated) refl (recs_cleared m (realm_at m rd) (realm_at m rd).table_count)
quiet (RttFold rd ipa level) m is = recs_plain m m _ (of_no_realm Delegated) refl (recs_all m)
quiet (RttMapUnprotected rd ipa level descriptor) m is = recs_all m
quiet (RttUnmapUnprotected rd ipa level) m is = recs_all m
quiet (DataCreate rd page ipa source flags) m is =
    let realm : RmmRealm = realm_at m rd in
    let rim : List ℕ = rim_with_data realm ipa flags (page_in m (number_of m source)) in
    let mapped : Machine = with_granule m (number_of m page) (of_realm (number_of m rd) Data) in
    recs_plain m mapped (number_of m rd) (of_no_realm (Rd (with_rim realm rim))) refl
    (recs_plain m m (number_of m page) (of_realm (number_of m rd) Data) refl (recs_all m))
quiet (DataCreateUnknown rd page ipa) m is = recs_plain m m (number_of m page) (of_realm (number_of m rd) Data) refl (recs_all m)
quiet (DataDestroy rd ipa) m is = recs_plain m m _ (of_no_realm Delegated) refl (recs_all m)
quiet (RttInitRipas rd base top) m is =
    let realm : RmmRealm = realm_at m rd in
    let found : RttWalk = walk m realm base 3 in
    let count : ℕ = change_count m (init_changeable m.settings) found base top in
    let rim : List ℕ = rim_with_ripas realm.hash realm.rim (entry_size found.level) base count in
    recs_plain m m (number_of m rd) (of_no_realm (Rd (with_rim realm rim))) refl (recs_all m)
quiet (RecDestroy rec) m is =
    let g : ℕ = number_of m rec in
    let less : Machine = without_rec m (granule_at m g).owner in
    recs_plain m (with_aux less g (of_no_realm Delegated) m.settings.aux) g (of_no_realm Delegated) refl
    (recs_aux m less g (of_no_realm Delegated) m.settings.aux refl (recs_less m (granule_at m g).owner))
quiet _ m is = absurd (cc)

stays : (m n : Machine) (call : Option Call) → RecsStay m n → KeepsRecs m call n
stays m n call stay g rec is = inl (stay g rec is)

-- after an RMI_REC_CREATE that passes its checks, each REC was a REC of the same owner before, or is the new REC of the
-- given realm
created : (rd rec params : ℕ) (m : Machine) → Passed (rec_create rd rec params m).checks → KeepsRecs m (Some (RecCreate rd rec params)) (rec_create rd rec params m).machine
unfolding rec_create
created rd rec params m ok g new is =
    let x : ℕ = number_of m rec in
    let r : ℕ = number_of m rd in
    let page : List ℕ = page_in m (number_of m params) in
    let made : Machine = with_created_rec m r x page in
    let all : Machine = with_aux made x (of_realm r RecAux) m.settings.aux in
    let kept : RmmGranule = of_realm r (IsRec (new_rec (is_runnable_in page) (mpidr_in page))) in
    let free = is_delegated-true (state_at m rec) (yes_from (is_delegated (state_at m rec)) ok.1.1.1.1.1.0) in
    let inside : x < length m.granules = taken_inside m x (λ none. cc) in
    let stay : RecsStay made (rec_create rd rec params m).machine =
    recs_plain made all r (of_no_realm (Rd (with_one_more m.settings (realm_at m rd) page))) refl (recs_aux made made x (of_realm r RecAux) m.settings.aux refl (recs_all made)) in
    let old = stay g new is in
    ⊎_elim
    (λ (here : g ≡ x). inr (here, sym old.2 ∙ ap (λ (y : ℕ). (granule_at made y).owner) here ∙ ap (λ (c : RmmGranule). c.owner) (granule_at-same m x kept inside)))
    (λ (other : g ≢ x).
    let same : granule_at made g ≡ granule_at m g = granule_at-other m x g kept other in
    inl (old.0, sym (ap (λ (c : RmmGranule). c.state) same) ∙ old.1, sym (ap (λ (c : RmmGranule). c.owner) same) ∙ old.2))
    (cases_eq g x)

changed : (rd rec base top : ℕ) (m : Machine) → Passed (rtt_set_ripas rd rec base top m).checks → RecsStay m (rtt_set_ripas rd rec base top m).machine
unfolding rtt_set_ripas ripas_request_checks with_ripas_from
changed rd rec base top m ok =
    let asking : RmmRec = rec_at m rec in
    let found : RttWalk = walk m (realm_at m rd) base 3 in
    let count : ℕ = change_count m (set_changeable asking.ripas) found base top in
    recs_rec m (with_ripas m found base asking.ripas.ripas count) (number_of m rec) (with_base asking (base + count * entry_size found.level)) asking
    (rec_of-some (state_at m rec) ok.1.1.1.1.1.1.0) (recs_all m)

after : (call : Call) (m : Machine) → IsProper m → Passed (command_of call m).checks → KeepsRecs m (Some call) (command_of call m).machine
after (RecCreate rd rec params) m proper ok = created rd rec params m ok
after (RttSetRipas rd rec base top) m proper ok = stays m (rtt_set_ripas rd rec base top m).machine (Some (RttSetRipas rd rec base top)) (changed rd rec base top m ok)
after (RecEnter rec run) m proper ok = stays m (rec_enter rec run m).machine (Some (RecEnter rec run)) (entered_recs rec run m proper ok)
after (PsciComplete calling target status) m proper ok = stays m (psci_complete calling target status m).machine (Some (PsciComplete calling target status)) (completed_recs calling target status m proper ok)
after call m proper ok = stays m (command_of call m).machine (Some call) (quiet call m refl)

pub call_recs : (o : Option Call) (r : Registers) (m : Machine) → IsProper m → KeepsRecs m o (rmi_at o r m).1
unfolding performed
call_recs None r m proper = stays m m None (recs_all m)
call_recs (Some call) r m proper = kept (KeepsRecs m (Some call)) (command_of call m) m (stays m m (Some call) (recs_all m)) (after call m proper)
