-- Proofs that calls, interrupts and the queueing of guest steps change the states and RIMs of realms only as
-- `KeepsStates` and `KeepsRims` allow.
use Rattle.std.proofs.Common.{◌≡◌, ℕ, zero, suc, ◌+◌, ◌==◌, ◌&&◌, ◌⊎◌, inl, inr, Bool, true, false, not, List, Option, Some, None, refl, sym, ap, subst, ◌∙◌, ⊎_elim}
use Rattle.std.specs.Prelude.{nat_lt}
use Rattle.std.proofs.lemmas.Bool.{cond_both}
use Rattle.rmi_abi.specs.declared.call.Call.{Call}
use Rattle.rmi_abi.specs.declared.call.Call.TheVariants.{Version, GranuleDelegate, GranuleUndelegate, DataCreateUnknown, DataDestroy, RealmActivate, RealmCreate, RealmDestroy, RecCreate, RecDestroy, RecEnter, PsciComplete, RttCreate, RttDestroy, RttMapUnprotected, RttReadEntry, RttUnmapUnprotected, Features, RttFold, RecAuxCount, DataCreate, RttInitRipas, RttSetRipas}
use Rattle.rmi_abi.specs.declared.registers.Registers.{Registers}
use Rattle.rmi_abi.specs.declared.rec_run.RecExit.{RecExit}
use Rattle.rmi_abi.specs.declared.word.Word.{Word as Answer}
use Rattle.rmi_abi.specs.declared.rec_run.ExitReason.TheVariants.{Irq}
use Rattle.rmi_abi.specs.RecRun.{only_reason}
use Rattle.rmi_abi.specs.declared.realm_params.RealmParams.{RealmParams}
use Rattle.rmi_abi.specs.RecParams.{is_runnable_in, mpidr_in}
use Rattle.rmm_model.specs.declared.granule.RmmGranule.{RmmGranule}
use Rattle.rmm_model.specs.declared.granule.RmmGranuleState.TheVariants.{Delegated, Undelegated, Data, Rd, Rtt, RecAux, Rec as IsRec}
use Rattle.rmm_model.specs.declared.realm.RmmRealm.{RmmRealm}
use Rattle.rmm_model.specs.declared.realm.RmmRealmState.{RmmRealmState}
use Rattle.rmm_model.specs.declared.realm.RmmRealmState.TheVariants.{New, Active, SystemOff}
use Rattle.rmm_model.specs.declared.realm.RttWalk.{RttWalk}
use Rattle.rmm_model.specs.declared.rec.LastExit.{LastExit}
use Rattle.rmm_model.specs.declared.rec.LastExit.TheVariants.{Other}
use Rattle.rmm_model.specs.declared.rec.PsciRequest.{PsciRequest}
use Rattle.rmm_model.specs.declared.rec.PsciRequest.TheVariants.{Complete, CpuOn}
use Rattle.rmm_model.specs.declared.rec.RmmRec.{RmmRec}
use Rattle.rmm_model.specs.declared.rec.RmmRecState.TheVariants.{Ready}
use Rattle.rmm_model.specs.declared.step.Queued.{Queued}
use Rattle.rmm_model.specs.declared.step.StepWords.{StepWords}
use Rattle.rmm_model.specs.Call.{command_of, performed, rmi_at}
use Rattle.rmm_model.specs.Granule.{of_no_realm, of_realm, is_delegated, realm_of}
use Rattle.rmm_model.specs.Guest.{rec_in, is_rec_named, with_step, queued}
use Rattle.rmm_model.specs.Machine.{Machine, granule_at, page_in, number_of, state_at, with_granule}
use Rattle.rmm_model.specs.Realm.{is_new, with_rim}
use Rattle.rmm_model.specs.Rec.{new_rec, is_on}
use Rattle.rmm_model.specs.Host.{is_host_page}
use Rattle.rmm_model.specs.Walk.{walk}
use Rattle.rmm_model.specs.Level.{entry_size}
use Rattle.rmm_model.specs.Command.Auxiliary.{with_aux, with_wiped_if, aux_granule}
use Rattle.rmm_model.specs.Command.Operand.{realm_at, rec_at}
use Rattle.rmm_model.specs.Command.RipasRange.{with_ripas_from, change_count}
use Rattle.rmm_model.specs.Command.DataCreate.{data_create, source_checks, target_checks, rim_with_data}
use Rattle.rmm_model.specs.Command.DataCreateUnknown.{data_create_unknown}
use Rattle.rmm_model.specs.Command.DataDestroy.{data_destroy}
use Rattle.rmm_model.specs.Command.Features.{features}
use Rattle.rmm_model.specs.Command.GranuleDelegate.{granule_delegate}
use Rattle.rmm_model.specs.Command.GranuleUndelegate.{granule_undelegate}
use Rattle.rmm_model.specs.Command.RealmActivate.{realm_activate}
use Rattle.rmm_model.specs.Command.RealmCreate.{realm_create, params_checks, params_at, realm_for, with_tables}
use Rattle.rmm_model.specs.Command.RealmDestroy.{realm_destroy, without_tables}
use Rattle.rmm_model.specs.Command.PsciComplete.{psci_complete, psci_result, psci_success, with_rec, with_target}
use Rattle.rmm_model.specs.Command.RecAuxCount.{rec_aux_count}
use Rattle.rmm_model.specs.Command.RecCreate.{rec_create, aux_checks, number_checks, with_created_rec, with_one_more}
use Rattle.rmm_model.specs.Command.RecMeasurement.{rim_with_rec}
use Rattle.rmm_model.specs.Command.RecDestroy.{rec_destroy, with_one_less, without_rec_of, without_rec}
use Rattle.rmm_model.specs.Command.RttCreate.{rtt_create}
use Rattle.rmm_model.specs.Command.RttDestroy.{rtt_destroy}
use Rattle.rmm_model.specs.Command.RttFold.{rtt_fold}
use Rattle.rmm_model.specs.Command.RttInitRipas.{rtt_init_ripas, range_checks, rim_with_ripas, init_changeable}
use Rattle.rmm_model.specs.Command.RttMapUnprotected.{rtt_map_unprotected}
use Rattle.rmm_model.specs.Command.RttReadEntry.{rtt_read_entry}
use Rattle.rmm_model.specs.Command.RttSetRipas.{rtt_set_ripas}
use Rattle.rmm_model.specs.Command.RttUnmapUnprotected.{rtt_unmap_unprotected}
use Rattle.rmm_model.specs.Command.Version.{version}
use Rattle.rmm_model.specs.Command.RecEnter.{with_copied, with_exit_gic, with_exit_words, after_exit, runs_at, interrupted}
use Rattle.rmm_laws.specs.Owner.{is_rd}
use Rattle.rmm_laws.specs.Proper.{IsProper}
use Rattle.rmm_laws.specs.State.{IsRealmIn, HasRim, IsBrought, KeepsStates, KeepsRims, rim_with_range}
use Rattle.rmm_laws.proofs.Guests.{entered_states}
use Rattle.rmm_laws.proofs.Passed.{Passed, kept, yes_from, is_delegated-true, realm_of-some, realm_of-is}
use Rattle.rmm_laws.proofs.States.{IsAsBefore, same_realm, write_back, Stay, stay_all, stay_plain, stay_realm}

keep : (call : Call) (m : Machine) → Stay m (command_of call m).machine → KeepsStates m (Some call) (command_of call m).machine
keep call m stay rd realm is = (let old = stay rd realm is in inl (old.0, old.1, old.2))

keep_rim : (call : Call) (m : Machine) → Stay m (command_of call m).machine → KeepsRims m (Some call) (command_of call m).machine
keep_rim call m stay rd realm is = (let old = stay rd realm is in inl (old.0, old.1, old.3))

-- once a NEW realm's RIM is written, each realm has its old state and RIM, or is that realm, still NEW, with the new
-- RIM
by_rim : (m k : Machine) (x : ℕ) (realm : RmmRealm) (rim : List ℕ) (g : ℕ) (new : RmmRealm) → Stay m k → (granule_at m x).state ≡ Rd realm → realm.state ≡ New
    → (other : RmmRealm) → other.state ≡ realm.state → other.rim ≡ rim → (granule_at (with_granule k x (of_no_realm (Rd other))) g).state ≡ Rd new
    → IsAsBefore m g new ⊎ ((g ≡ x) × IsRealmIn m g New × (new.rim ≡ rim) × (new.state ≡ New))
by_rim m k x realm rim g new stay was fresh other state is_rim is =
    ⊎_elim
    (λ (written : (g ≡ x) × (Rd other ≡ Rd new)).
    let it : new ≡ other = sym (same_realm written.1) in
    inr (
      written.0,
      (realm, ap (λ (y : ℕ). (granule_at m y).state) written.0 ∙ was, fresh),
      ap (λ (r : RmmRealm). r.rim) it ∙ is_rim,
      ap (λ (r : RmmRealm). r.state) it ∙ state ∙ fresh,
    ))
    (λ (before : (granule_at k g).state ≡ Rd new). inl (stay g new before))
    (write_back k x g (of_no_realm (Rd other)) new is)

-- ---- writes one after another

stay_made : (m : Machine) (rd : ℕ) (realm : RmmRealm) (k : ℕ) → Stay m (with_tables m rd realm k)
unfolding with_tables
stay_made m rd realm zero = stay_all m
stay_made m rd realm (suc k) = stay_plain m (with_tables m rd realm k) (realm.first_table + k) (of_realm rd Rtt) refl (stay_made m rd realm k)

stay_cleared : (m : Machine) (realm : RmmRealm) (k : ℕ) → Stay m (without_tables m realm k)
unfolding without_tables
stay_cleared m realm zero = stay_all m
stay_cleared m realm (suc k) = stay_plain m (without_tables m realm k) (realm.first_table + k) (of_no_realm Delegated) refl (stay_cleared m realm k)

stay_wiped : (m k : Machine) (o : Option ℕ) (r : RmmGranule) → is_rd r.state ≡ false → Stay m k → Stay m (with_wiped_if k o r)
stay_wiped m k (Some g) r plain stay = stay_plain m k g r plain stay
stay_wiped m k None r plain stay = stay

stay_aux : (m k : Machine) (g : ℕ) (r : RmmGranule) (count : ℕ) → is_rd r.state ≡ false → Stay m k → Stay m (with_aux k g r count)
unfolding with_aux
stay_aux m k g r zero plain stay = stay
stay_aux m k g r (suc count) plain stay = stay_wiped m (with_aux k g r count) (aux_granule (with_aux k g r count) g count) r plain (stay_aux m k g r count plain stay)

stay_less_of : (m : Machine) (rd : ℕ) (o : Option RmmRealm) → realm_of (granule_at m rd).state ≡ o → Stay m (without_rec_of m rd o)
stay_less_of m rd (Some realm) is = stay_realm m m rd realm (with_one_less realm) refl refl (stay_all m) (realm_of-is (granule_at m rd).state realm is)
stay_less_of m rd None is = stay_all m

stay_less : (m : Machine) (o : Option ℕ) → Stay m (without_rec m o)
stay_less m (Some rd) = stay_less_of m rd (realm_of (granule_at m rd).state) refl
stay_less m None = stay_all m

stay_rec : (m k : Machine) (g : ℕ) (rec : RmmRec) → Stay m k → Stay m (with_rec k g rec)
stay_rec m k g rec stay = stay_plain m k g (record (granule_at k g) { state = IsRec rec }) refl stay

stay_target : (m k : Machine) (g : ℕ) (rec : RmmRec) (request : PsciRequest) (begins : Bool) → Stay m k → Stay m (with_target k g rec request begins)
stay_target m k g rec (CpuOn target entry_point context) true stay = stay_rec m k g (record rec { is_runnable = true }) stay
stay_target m k g rec _ begins stay = stay

-- ---- calls

pub new_if : (s : RmmRealmState) → is_new s ≡ true → s ≡ New
new_if New is = refl
new_if _ is = absurd (cc)

-- a call changes no state and no RIM
abbrev is_quiet : Call → Bool
is_quiet (RealmCreate rd params) = false
is_quiet (RealmActivate rd) = false
is_quiet (DataCreate rd page ipa source flags) = false
is_quiet (RttInitRipas rd base top) = false
is_quiet (RecCreate rd rec params) = false
is_quiet (RecEnter rec run) = false
is_quiet _ = true

stays : (call : Call) (m : Machine) → is_quiet call ≡ true → Passed (command_of call m).checks → Stay m (command_of call m).machine
unfolding version features granule_delegate granule_undelegate rec_aux_count rtt_read_entry rtt_create rtt_destroy realm_destroy rtt_fold rtt_map_unprotected rtt_unmap_unprotected data_create_unknown data_destroy rtt_set_ripas with_ripas_from rec_destroy psci_complete
stays (Version requested) m quiet ok = stay_all m
stays (Features index) m quiet ok = stay_all m
stays (GranuleDelegate address) m quiet ok = stay_plain m m (number_of m address) (of_no_realm Delegated) refl (stay_all m)
stays (GranuleUndelegate address) m quiet ok = stay_plain m m (number_of m address) (of_no_realm Undelegated) refl (stay_all m)
stays (RecAuxCount rd) m quiet ok = stay_all m
stays (RttReadEntry rd ipa level) m quiet ok = stay_all m
stays (RttCreate rd rtt ipa level) m quiet ok = stay_plain m m (number_of m rtt) (of_realm (number_of m rd) Rtt) refl (stay_all m)
stays (RttDestroy rd ipa level) m quiet ok = stay_plain m m _ (of_no_realm Delegated) refl (stay_all m)
stays (RealmDestroy rd) m quiet ok =
    stay_plain m (without_tables m (realm_at m rd) (realm_at m rd).table_count) (number_of m rd) (of_no_realm Delegated) refl (stay_cleared m (realm_at m rd) (realm_at m rd).table_count)
stays (RttFold rd ipa level) m quiet ok = stay_plain m m _ (of_no_realm Delegated) refl (stay_all m)
stays (RttMapUnprotected rd ipa level descriptor) m quiet ok = stay_all m
stays (RttUnmapUnprotected rd ipa level) m quiet ok = stay_all m
stays (DataCreateUnknown rd page ipa) m quiet ok = stay_plain m m (number_of m page) (of_realm (number_of m rd) Data) refl (stay_all m)
stays (DataDestroy rd ipa) m quiet ok = stay_plain m m _ (of_no_realm Delegated) refl (stay_all m)
stays (RttSetRipas rd rec base top) m quiet ok = stay_rec m m (number_of m rec) _ (stay_all m)
stays (RecDestroy rec) m quiet ok =
    let g : ℕ = number_of m rec in
    let less : Machine = without_rec m (granule_at m g).owner in
    stay_plain m (with_aux less g (of_no_realm Delegated) m.settings.aux) g (of_no_realm Delegated) refl (stay_aux m less g (of_no_realm Delegated) m.settings.aux refl (stay_less m (granule_at m g).owner))
stays (PsciComplete calling target status) m quiet ok =
    let caller : RmmRec = rec_at m calling in
    let named : RmmRec = rec_at m target in
    let rec : RmmRec = record caller { psci = Complete (psci_result caller.psci (is_on named) status) } in
    let begins : Bool = not (is_on named) && status == psci_success in
    stay_target m (with_rec m (number_of m calling) rec) (number_of m target) named caller.psci begins (stay_rec m m (number_of m calling) rec (stay_all m))
stays _ m quiet ok = absurd (cc)

-- ---- calls that create, activate and measure a realm

created : (rd params : ℕ) (m : Machine) → Passed (realm_create rd params m).checks → (g : ℕ) (new : RmmRealm) → (granule_at (realm_create rd params m).machine g).state ≡ Rd new
    → IsAsBefore m g new ⊎ ((g ≡ number_of m rd) × (is_rd (granule_at m g).state ≡ false) × (new ≡ realm_for m (params_at m params)))
unfolding realm_create params_checks
created rd params m ok g new is =
    let r : ℕ = number_of m rd in
    let realm : RmmRealm = realm_for m (params_at m params) in
    let free = is_delegated-true (state_at m rd) (yes_from (is_delegated (state_at m rd)) ok.1.1.1.1.1.1.1.1.1.1.0) in
    ⊎_elim
    (λ (written : (g ≡ r) × (Rd realm ≡ Rd new)). inr (written.0, ap (λ (x : ℕ). is_rd (granule_at m x).state) written.0 ∙ ap is_rd free, sym (same_realm written.1)))
    (λ (before : (granule_at (with_tables m r realm realm.table_count) g).state ≡ Rd new). inl (stay_made m r realm realm.table_count g new before))
    (write_back (with_tables m r realm realm.table_count) r g (of_no_realm (Rd realm)) new is)

new_state : (m : Machine) (p : RealmParams) → (realm_for m p).state ≡ New
unfolding realm_for
new_state m p = refl

activated : (rd : ℕ) (m : Machine) → Passed (realm_activate rd m).checks → (g : ℕ) (new : RmmRealm) → (granule_at (realm_activate rd m).machine g).state ≡ Rd new
    → IsAsBefore m g new ⊎ ((g ≡ number_of m rd) × IsRealmIn m g New × (new.state ≡ Active) × HasRim m g new.rim)
unfolding realm_activate
activated rd m ok g new is =
    let old : RmmRealm = realm_at m rd in
    let there = realm_of-some (state_at m rd) ok.1.1.0 in
    let was : old.state ≡ New = new_if old.state (yes_from (is_new old.state) ok.1.1.1.0) in
    ⊎_elim
    (λ (written : (g ≡ number_of m rd) × (Rd (record old { state = Active }) ≡ Rd new)).
    let it : new ≡ record old { state = Active } = sym (same_realm written.1) in
    let at : (granule_at m g).state ≡ Rd old = ap (λ (x : ℕ). (granule_at m x).state) written.0 ∙ there in
    inr (written.0, (old, at, was), ap (λ (r : RmmRealm). r.state) it, (old, at, sym (ap (λ (r : RmmRealm). r.rim) it))))
    (λ (before : (granule_at m g).state ≡ Rd new). inl (new, before, refl, refl))
    (write_back m (number_of m rd) g (of_no_realm (Rd (record old { state = Active }))) new is)

-- a realm has its old state and RIM, or is the realm of RD `r`, still NEW, with the given RIM
abbrev IsMore : Machine → ℕ → List ℕ → ℕ → RmmRealm → Type 0
IsMore m r rim g new = IsAsBefore m g new ⊎ ((g ≡ r) × IsRealmIn m g New × (new.rim ≡ rim) × (new.state ≡ New))

more_state : (m : Machine) (r : ℕ) (rim : List ℕ) (g : ℕ) (new : RmmRealm) → IsMore m r rim g new → IsRealmIn m g new.state
more_state m r rim g new (inl old) = (old.0, old.1, old.2)
more_state m r rim g new (inr more) = (more.1.0, more.1.1, more.1.2 ∙ sym more.3)

data_more : (rd page ipa source flags : ℕ) (m : Machine) → Passed (data_create rd page ipa source flags m).checks → (g : ℕ) (new : RmmRealm) → (granule_at (data_create rd page ipa source flags m).machine g).state ≡ Rd new
    → IsMore m (number_of m rd) (rim_with_data (realm_at m rd) ipa flags (page_in m (number_of m source))) g new
unfolding data_create source_checks target_checks
data_more rd page ipa source flags m ok g new is =
    let realm : RmmRealm = realm_at m rd in
    let rim : List ℕ = rim_with_data realm ipa flags (page_in m (number_of m source)) in
    by_rim m (with_granule m (number_of m page) (of_realm (number_of m rd) Data)) (number_of m rd) realm rim g new (stay_plain m m (number_of m page) (of_realm (number_of m rd) Data) refl (stay_all m))
    (realm_of-some (state_at m rd) ok.1.1.1.1.1.1.1.1.1.0) (new_if realm.state (yes_from (is_new realm.state) ok.1.1.1.1.1.1.1.1.1.1.1.1.0)) (with_rim realm rim) refl refl is

ripas_more : (rd base top : ℕ) (m : Machine) → Passed (rtt_init_ripas rd base top m).checks → (g : ℕ) (new : RmmRealm) → (granule_at (rtt_init_ripas rd base top m).machine g).state ≡ Rd new
    → IsMore m (number_of m rd) (rim_with_range m (realm_at m rd) base top) g new
unfolding rtt_init_ripas range_checks with_ripas_from
ripas_more rd base top m ok g new is =
    let realm : RmmRealm = realm_at m rd in
    let found : RttWalk = walk m realm base 3 in
    let count : ℕ = change_count m (init_changeable m.settings) found base top in
    let rim : List ℕ = rim_with_ripas realm.hash realm.rim (entry_size found.level) base count in
    by_rim m m (number_of m rd) realm rim g new (stay_all m) (realm_of-some (state_at m rd) ok.1.1.1.0) (new_if realm.state (yes_from (is_new realm.state) ok.1.1.1.1.1.1.1.1.0)) (with_rim realm rim) refl refl is

rec_more : (rd rec params : ℕ) (m : Machine) → Passed (rec_create rd rec params m).checks → (g : ℕ) (new : RmmRealm) → (granule_at (rec_create rd rec params m).machine g).state ≡ Rd new
    → IsMore m (number_of m rd) (rim_with_rec m.settings (realm_at m rd) (page_in m (number_of m params))) g new
unfolding rec_create aux_checks number_checks
rec_more rd rec params m ok g new is =
    let x : ℕ = number_of m rec in
    let r : ℕ = number_of m rd in
    let realm : RmmRealm = realm_at m rd in
    let page : List ℕ = page_in m (number_of m params) in
    let made : Machine = with_created_rec m r x page in
    by_rim m (with_aux made x (of_realm r RecAux) m.settings.aux) r realm (rim_with_rec m.settings realm page) g new
    (stay_aux m made x (of_realm r RecAux) m.settings.aux refl (stay_plain m m x (of_realm r (IsRec (new_rec (is_runnable_in page) (mpidr_in page)))) refl (stay_all m)))
    (realm_of-some (state_at m rd) ok.1.1.1.1.1.1.1.1.0) (new_if realm.state (yes_from (is_new realm.state) ok.1.1.1.1.1.1.1.1.1.1.1.1.1.1.1.1.0)) (with_one_more m.settings realm page) refl refl is

-- ---- states

after : (call : Call) (m : Machine) → IsProper m → Passed (command_of call m).checks → KeepsStates m (Some call) (command_of call m).machine
after (RealmCreate rd params) m proper ok g new is =
    ⊎_elim
    (λ (old : IsAsBefore m g new). inl (old.0, old.1, old.2))
    (λ (made : (g ≡ number_of m rd) × (is_rd (granule_at m g).state ≡ false) × (new ≡ realm_for m (params_at m params))).
    inr (subst (IsBrought m (Some (RealmCreate rd params)) g) (sym (ap (λ (r : RmmRealm). r.state) made.2 ∙ new_state m (params_at m params))) (made.0, made.1)))
    (created rd params m ok g new is)
after (RealmActivate rd) m proper ok g new is =
    ⊎_elim
    (λ (old : IsAsBefore m g new). inl (old.0, old.1, old.2))
    (λ (now : (g ≡ number_of m rd) × IsRealmIn m g New × (new.state ≡ Active) × HasRim m g new.rim). inr (subst (IsBrought m (Some (RealmActivate rd)) g) (sym now.2) (now.0, now.1)))
    (activated rd m ok g new is)
after (DataCreate rd page ipa source flags) m proper ok g new is = inl (more_state m _ _ g new (data_more rd page ipa source flags m ok g new is))
after (RttInitRipas rd base top) m proper ok g new is = inl (more_state m _ _ g new (ripas_more rd base top m ok g new is))
after (RecCreate rd rec params) m proper ok g new is = inl (more_state m _ _ g new (rec_more rd rec params m ok g new is))
after (RecEnter rec run) m proper ok g new is =
    ⊎_elim
    (λ (old : IsAsBefore m g new). inl (old.0, old.1, old.2))
    (λ (off : (new.state ≡ SystemOff) × ((granule_at m (number_of m rec)).owner ≡ Some g) × IsRealmIn m g Active × HasRim m g new.rim).
    inr (subst (IsBrought m (Some (RecEnter rec run)) g) (sym off.0) (off.1, off.2)))
    (entered_states rec run m proper ok g new is)
after call m proper ok g new is = keep call m (stays call m refl ok) g new is

pub call_states : (o : Option Call) (r : Registers) (m : Machine) → IsProper m → KeepsStates m o (rmi_at o r m).1
unfolding performed
call_states None r m proper = λ rd realm is. inl (realm, is, refl)
call_states (Some call) r m proper = kept (KeepsStates m (Some call)) (command_of call m) m (λ rd realm is. inl (realm, is, refl)) (after call m proper)

-- ---- RIMs

measured : (call : Call) (m : Machine) → IsProper m → Passed (command_of call m).checks → KeepsRims m (Some call) (command_of call m).machine
measured (RealmCreate rd params) m proper ok g new is =
    ⊎_elim
    (λ (old : IsAsBefore m g new). inl (old.0, old.1, old.3))
    (λ (made : (g ≡ number_of m rd) × (is_rd (granule_at m g).state ≡ false) × (new ≡ realm_for m (params_at m params))). inr (made.0, made.1, ap (λ (r : RmmRealm). r.rim) made.2))
    (created rd params m ok g new is)
measured (RealmActivate rd) m proper ok g new is =
    ⊎_elim
    (λ (old : IsAsBefore m g new). inl (old.0, old.1, old.3))
    (λ (now : (g ≡ number_of m rd) × IsRealmIn m g New × (new.state ≡ Active) × HasRim m g new.rim). inl now.3)
    (activated rd m ok g new is)
measured (DataCreate rd page ipa source flags) m proper ok g new is =
    ⊎_elim
    (λ (old : IsAsBefore m g new). inl (old.0, old.1, old.3))
    (λ (more : (g ≡ number_of m rd) × IsRealmIn m g New × (new.rim ≡ rim_with_data (realm_at m rd) ipa flags (page_in m (number_of m source))) × (new.state ≡ New)). inr (more.0, more.1, more.2))
    (data_more rd page ipa source flags m ok g new is)
measured (RttInitRipas rd base top) m proper ok g new is =
    ⊎_elim
    (λ (old : IsAsBefore m g new). inl (old.0, old.1, old.3))
    (λ (more : (g ≡ number_of m rd) × IsRealmIn m g New × (new.rim ≡ rim_with_range m (realm_at m rd) base top) × (new.state ≡ New)). inr (more.0, more.1, more.2))
    (ripas_more rd base top m ok g new is)
measured (RecCreate rd rec params) m proper ok g new is =
    ⊎_elim
    (λ (old : IsAsBefore m g new). inl (old.0, old.1, old.3))
    (λ (more : (g ≡ number_of m rd) × IsRealmIn m g New × (new.rim ≡ rim_with_rec m.settings (realm_at m rd) (page_in m (number_of m params))) × (new.state ≡ New)). inr (more.0, more.1, more.2))
    (rec_more rd rec params m ok g new is)
measured (RecEnter rec run) m proper ok g new is =
    ⊎_elim
    (λ (old : IsAsBefore m g new). inl (old.0, old.1, old.3))
    (λ (off : (new.state ≡ SystemOff) × ((granule_at m (number_of m rec)).owner ≡ Some g) × IsRealmIn m g Active × HasRim m g new.rim). inl off.3)
    (entered_states rec run m proper ok g new is)
measured call m proper ok g new is = keep_rim call m (stays call m refl ok) g new is

pub call_rims : (o : Option Call) (r : Registers) (m : Machine) → IsProper m → KeepsRims m o (rmi_at o r m).1
unfolding performed
call_rims None r m proper = λ rd realm is. inl (realm, is, refl)
call_rims (Some call) r m proper = kept (KeepsRims m (Some call)) (command_of call m) m (λ rd realm is. inl (realm, is, refl)) (measured call m proper)

-- ---- guests

given_states : (m : Machine) (g : ℕ) (w : StepWords) → Stay m (with_step m g w)
unfolding with_step
given_states m g w =
    let rec : RmmRec = rec_in m g in
    stay_rec m m g (record rec { step_count = rec.step_count + 1 }) (stay_all m)

pub queued_states : (m : Machine) (rec : ℕ) (w : StepWords) → Stay m (queued m rec w).1
queued_states m rec w =
    cond_both (is_rec_named m rec) _ _ (λ (p : Queued × Machine). Stay m p.1)
    (λ is. cond_both (nat_lt (rec_in m (number_of m rec)).step_count 16) _ _ (λ (p : Queued × Machine). Stay m p.1) (λ few. given_states m (number_of m rec) w) (λ full. stay_all m))
    (λ never. stay_all m)

exit_states : (m : Machine) (g : ℕ) (exit : RecExit) (last : LastExit) → Stay m (after_exit m g exit last)
unfolding after_exit with_exit_gic with_copied with_exit_words
exit_states m g exit last =
    let rec : RmmRec = record (rec_in m g) { state = Ready; exit = last } in
    let n : Machine = with_rec m g rec in
    let now : Stay m n = stay_rec m m g rec (stay_all m) in
    cond_both (is_host_page n (rec_in m g).run) _ n (Stay m) (λ host. cond_both n.settings.checks_gic _ _ (Stay m) (λ sure. now) (λ never. now)) (λ never. now)

pub interrupt_states : (m : Machine) (rec : ℕ) → Stay m (interrupted m rec).1
unfolding interrupted
interrupt_states m rec =
    cond_both (runs_at m rec) _ _ (λ (p : Option Answer × Machine). Stay m p.1)
    (λ runs. exit_states m (number_of m rec) (only_reason Irq) Other)
    (λ never. stay_all m)
