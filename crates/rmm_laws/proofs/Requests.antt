-- Proofs that calls, interrupts and the queueing of guest steps change the RIPAS requests of RECs only as
-- `KeepsRequests` allows.
use Rattle.std.proofs.Common.{◌≡◌, ◌≢◌, ℕ, zero, suc, ◌+◌, ◌*◌, ◌-◌, ◌%◌, ◌<◌, ◌≤◌, ◌==◌, ◌&&◌, ◌⊎◌, inl, inr, Bool, true, false, length, List, Option, Some, None, Result, Ok, Err, unwrap_or, refl, sym, ap, subst, ◌∙◌, ⊎_elim, arith}
use Rattle.std.specs.Prelude.{not, nat_lt, if◌then◌else◌}
use Rattle.std.proofs.lemmas.Bool.{cases_eq, eqb-true, cond_both}
use Rattle.std.proofs.lemmas.List.{length-set}
use Rattle.rmi_abi.specs.declared.call.Call.{Call}
use Rattle.rmi_abi.specs.declared.call.Call.TheVariants.{Version, GranuleDelegate, GranuleUndelegate, DataCreateUnknown, DataDestroy, RealmActivate, RealmCreate, RealmDestroy, RecCreate, RecDestroy, RecEnter, PsciComplete, RttCreate, RttDestroy, RttMapUnprotected, RttReadEntry, RttUnmapUnprotected, Features, RttFold, RecAuxCount, DataCreate, RttInitRipas, RttSetRipas}
use Rattle.rmi_abi.specs.declared.rec_run.RecExit.{RecExit}
use Rattle.rmi_abi.specs.declared.rec_run.ExitReason.TheVariants.{Irq}
use Rattle.rmi_abi.specs.declared.registers.Registers.{Registers}
use Rattle.rmi_abi.specs.declared.word.Word.{Word as Answer}
use Rattle.rmi_abi.specs.RecParams.{is_runnable_in, mpidr_in}
use Rattle.rmi_abi.specs.RecRun.{flags_in, entry_gpr_in, injects_sea, emulates_mmio, only_reason}
use Rattle.rmm_model.specs.declared.access.AccessSize.{AccessSize}
use Rattle.rmm_model.specs.declared.access.AccessSize.TheVariants.{Byte, Halfword, Word, Doubleword}
use Rattle.rmm_model.specs.declared.granule.RmmGranule.{RmmGranule}
use Rattle.rmm_model.specs.declared.granule.RmmGranuleState.{RmmGranuleState}
use Rattle.rmm_model.specs.declared.granule.RmmGranuleState.TheVariants.{Delegated, Undelegated, Data, Rd, Rtt, RecAux, Rec as IsRec}
use Rattle.rmm_model.specs.declared.realm.RmmRealm.{RmmRealm}
use Rattle.rmm_model.specs.declared.realm.RmmRealmState.TheVariants.{Active, SystemOff as IsSystemOff}
use Rattle.rmm_model.specs.declared.realm.RttWalk.{RttWalk}
use Rattle.rmm_model.specs.declared.rec.LastExit.{LastExit}
use Rattle.rmm_model.specs.declared.rec.LastExit.TheVariants.{Other, HostCall, RipasChange, EmulatableAbort, UnprotectedAbort, SystemRegister}
use Rattle.rmm_model.specs.declared.rec.PsciRequest.{PsciRequest}
use Rattle.rmm_model.specs.declared.rec.PsciRequest.TheVariants.{None as NoRequest, Complete, CpuOn}
use Rattle.rmm_model.specs.declared.rec.RmmRec.{RmmRec}
use Rattle.rmm_model.specs.declared.rec.RmmRecState.TheVariants.{Ready}
use Rattle.rmm_model.specs.declared.step.GuestStep.{GuestStep}
use Rattle.rmm_model.specs.declared.step.GuestStep.TheVariants.{Write, Read, Fetch, SystemOff, SystemReset}
use Rattle.rmm_model.specs.declared.step.Queued.{Queued}
use Rattle.rmm_model.specs.declared.step.StepOutcome.{StepOutcome}
use Rattle.rmm_model.specs.declared.step.StepOutcome.TheVariants.{Result as IsResult, Exit as IsExit, Spin as Spins}
use Rattle.rmm_model.specs.declared.step.StepResult.{StepResult}
use Rattle.rmm_model.specs.declared.step.StepResult.TheVariants.{Done, Sea, Psci, Returned}
use Rattle.rmm_model.specs.declared.step.StepWords.{StepWords}
use Rattle.rmm_model.specs.Access.{low_bytes, with_two_bytes, with_four_bytes, with_value}
use Rattle.rmm_model.specs.Call.{command_of, performed, rmi_at}
use Rattle.rmm_model.specs.Granule.{of_no_realm, of_realm, is_delegated, realm_of, rec_of}
use Rattle.rmm_model.specs.Guest.{rec_in, is_rec_named, first_step, past_step, with_result, with_step, queued}
use Rattle.rmm_model.specs.Host.{is_host_page}
use Rattle.rmm_model.specs.Level.{entry_size}
use Rattle.rmm_model.specs.Machine.{Machine, granule_at, page_in, number_of, state_at, with_granule}
use Rattle.rmm_model.specs.Realm.{with_rim}
use Rattle.rmm_model.specs.Rec.{no_rec, no_request, new_rec, is_on}
use Rattle.rmm_model.specs.Step.{access, after_write, is_exit, rec_after_exit}
use Rattle.rmm_model.specs.Walk.{walk}
use Rattle.rmm_model.specs.Command.Auxiliary.{with_aux, with_wiped_if, aux_granule}
use Rattle.rmm_model.specs.Command.Operand.{realm_at, rec_at}
use Rattle.rmm_model.specs.Command.RipasRange.{with_ripas_from, change_count}
use Rattle.rmm_model.specs.Command.DataCreate.{data_create, rim_with_data}
use Rattle.rmm_model.specs.Command.DataCreateUnknown.{data_create_unknown}
use Rattle.rmm_model.specs.Command.DataDestroy.{data_destroy}
use Rattle.rmm_model.specs.Command.Features.{features}
use Rattle.rmm_model.specs.Command.GranuleDelegate.{granule_delegate}
use Rattle.rmm_model.specs.Command.GranuleUndelegate.{granule_undelegate}
use Rattle.rmm_model.specs.Command.RealmActivate.{realm_activate}
use Rattle.rmm_model.specs.Command.RealmCreate.{realm_create, params_at, realm_for, with_tables}
use Rattle.rmm_model.specs.Command.RealmDestroy.{realm_destroy, without_tables}
use Rattle.rmm_model.specs.Command.PsciComplete.{psci_complete, psci_result, psci_success, with_rec, with_target}
use Rattle.rmm_model.specs.Command.RecAuxCount.{rec_aux_count}
use Rattle.rmm_model.specs.Command.RecCreate.{rec_create, with_created_rec, with_one_more}
use Rattle.rmm_model.specs.Command.RecDestroy.{rec_destroy, with_one_less, without_rec_of, without_rec}
use Rattle.rmm_model.specs.Command.RecEnter.{rec_enter, owner_realm, with_realm_off, with_system_off, with_copied, with_gprs, with_gic, with_exit_gic, with_exit_words, after_exit, with_step_ended, with_psci_result, ripas_result, emulated, with_host_answer, running_at, after_entry, step_outcome, with_exit_of, after_step, with_step_passed, after_step_in, after_first_step, first_step_outcome, continued, after_steps, runs_at, interrupted}
use Rattle.rmm_model.specs.Command.RttCreate.{rtt_create}
use Rattle.rmm_model.specs.Command.RttDestroy.{rtt_destroy}
use Rattle.rmm_model.specs.Command.RttFold.{rtt_fold}
use Rattle.rmm_model.specs.Command.RttInitRipas.{rtt_init_ripas, rim_with_ripas, init_changeable}
use Rattle.rmm_model.specs.Command.RttMapUnprotected.{rtt_map_unprotected}
use Rattle.rmm_model.specs.Command.RttReadEntry.{rtt_read_entry}
use Rattle.rmm_model.specs.Command.RttSetRipas.{rtt_set_ripas, ripas_request_checks, set_changeable, with_base}
use Rattle.rmm_model.specs.Command.RttUnmapUnprotected.{rtt_unmap_unprotected}
use Rattle.rmm_model.specs.Command.Version.{version}
use Rattle.rmm_laws.specs.Request.{IsRest, KeepsRequests}
use Rattle.rmm_laws.proofs.Passed.{Passed, kept, yes_from, is_delegated-true, some_same}
use Rattle.rmm_laws.proofs.Writes.{granule_at-same, granule_at-other, taken_inside}

pub same_rec : {a b : RmmRec} → IsRec a ≡ IsRec b → a ≡ b
same_rec {a} {b} same = let both : Some a ≡ Some b = ap rec_of same in cc

-- after a granule is written, each REC is in that granule, or was the same REC before
rec_back : (k : Machine) (x g : ℕ) (kept : RmmGranule) (rec : RmmRec) → (granule_at (with_granule k x kept) g).state ≡ IsRec rec → ((g ≡ x) × (kept.state ≡ IsRec rec)) ⊎ ((granule_at k g).state ≡ IsRec rec)
rec_back k x g kept rec is =
    let n : Machine = with_granule k x kept in
    ⊎_elim
    (λ (here : g ≡ x).
    let there : (granule_at n x).state ≡ IsRec rec = subst (λ (y : ℕ). (granule_at n y).state ≡ IsRec rec) here is in
    let within : x < length k.granules = subst (λ (c : ℕ). x < c) (length-set k.granules x kept) (taken_inside n x (λ free. cc)) in
    inl (here, sym (ap (λ (r : RmmGranule). r.state) (granule_at-same k x kept within)) ∙ there))
    (λ (other : g ≢ x). inr (sym (ap (λ (r : RmmGranule). r.state) (granule_at-other k x g kept other)) ∙ is))
    (cases_eq g x)

-- each REC has the same RIPAS request as before, except the REC in granule `but`, if any
abbrev Beside : Machine → Option ℕ → Machine → Type 0
Beside m but n = (g : ℕ) (rec : RmmRec) → (granule_at n g).state ≡ IsRec rec → (but ≡ Some g) ⊎ (rec.ripas ≡ (rec_in m g).ripas)

all_beside : (m : Machine) (but : Option ℕ) → Beside m but m
all_beside m but g rec is = inr (sym (ap (λ (s : RmmGranuleState). (unwrap_or (rec_of s) no_rec).ripas) is))

-- writing a granule that is no REC after the write keeps `Beside`
beside_plain : (m k : Machine) (but : Option ℕ) (x : ℕ) (kept : RmmGranule) → rec_of kept.state ≡ None → Beside m but k → Beside m but (with_granule k x kept)
beside_plain m k but x kept plain beside g rec is =
    ⊎_elim
    (λ (written : (g ≡ x) × (kept.state ≡ IsRec rec)). let some : rec_of kept.state ≡ Some rec = ap rec_of written.1 in absurd (cc))
    (λ (before : (granule_at k g).state ≡ IsRec rec). beside g rec before)
    (rec_back k x g kept rec is)

-- writing a REC with the request that it had before keeps `Beside`
beside_same : (m k : Machine) (but : Option ℕ) (x : ℕ) (kept : RmmGranule) (other : RmmRec) → kept.state ≡ IsRec other → other.ripas ≡ (rec_in m x).ripas → Beside m but k → Beside m but (with_granule k x kept)
beside_same m k but x kept other is_rec same beside g rec is =
    ⊎_elim
    (λ (written : (g ≡ x) × (kept.state ≡ IsRec rec)).
    let it : other ≡ rec = same_rec (sym is_rec ∙ written.1) in
    inr (sym (ap (λ (r : RmmRec). r.ripas) it) ∙ same ∙ ap (λ (y : ℕ). (rec_in m y).ripas) (sym written.0)))
    (λ (before : (granule_at k g).state ≡ IsRec rec). beside g rec before)
    (rec_back k x g kept rec is)

-- writing the REC that `Beside` leaves out keeps `Beside`
beside_but : (m k : Machine) (x : ℕ) (rec : RmmRec) → Beside m (Some x) k → Beside m (Some x) (with_rec k x rec)
beside_but m k x rec beside g new is =
    ⊎_elim
    (λ (written : (g ≡ x) × (IsRec rec ≡ IsRec new)). inl (ap (λ (y : ℕ). Some y) (sym written.0)))
    (λ (before : (granule_at k g).state ≡ IsRec new). beside g new before)
    (rec_back k x g (record (granule_at k x) { state = IsRec rec }) new is)

-- ---- writes one after another

beside_made : (m : Machine) (rd : ℕ) (realm : RmmRealm) (k : ℕ) → Beside m None (with_tables m rd realm k)
unfolding with_tables
beside_made m rd realm zero = all_beside m None
beside_made m rd realm (suc k) = beside_plain m (with_tables m rd realm k) None (realm.first_table + k) (of_realm rd Rtt) refl (beside_made m rd realm k)

beside_cleared : (m : Machine) (realm : RmmRealm) (k : ℕ) → Beside m None (without_tables m realm k)
unfolding without_tables
beside_cleared m realm zero = all_beside m None
beside_cleared m realm (suc k) = beside_plain m (without_tables m realm k) None (realm.first_table + k) (of_no_realm Delegated) refl (beside_cleared m realm k)

beside_wiped : (m k : Machine) (o : Option ℕ) (r : RmmGranule) → rec_of r.state ≡ None → Beside m None k → Beside m None (with_wiped_if k o r)
beside_wiped m k (Some g) r plain beside = beside_plain m k None g r plain beside
beside_wiped m k None r plain beside = beside

beside_aux : (m k : Machine) (g : ℕ) (r : RmmGranule) (count : ℕ) → rec_of r.state ≡ None → Beside m None k → Beside m None (with_aux k g r count)
unfolding with_aux
beside_aux m k g r zero plain beside = beside
beside_aux m k g r (suc count) plain beside = beside_wiped m (with_aux k g r count) (aux_granule (with_aux k g r count) g count) r plain (beside_aux m k g r count plain beside)

beside_less_of : (m : Machine) (rd : ℕ) (o : Option RmmRealm) → Beside m None (without_rec_of m rd o)
beside_less_of m rd (Some realm) = beside_plain m m None rd (of_no_realm (Rd (with_one_less realm))) refl (all_beside m None)
beside_less_of m rd None = all_beside m None

beside_less : (m : Machine) (o : Option ℕ) → Beside m None (without_rec m o)
beside_less m (Some rd) = beside_less_of m rd (realm_of (granule_at m rd).state)
beside_less m None = all_beside m None

beside_target : (m k : Machine) (g : ℕ) (rec : RmmRec) (request : PsciRequest) (begins : Bool) → rec.ripas ≡ (rec_in m g).ripas → Beside m None k → Beside m None (with_target k g rec request begins)
beside_target m k g rec (CpuOn target entry_point context) true same beside =
    beside_same m k None g (record (granule_at k g) { state = IsRec (record rec { is_runnable = true }) }) (record rec { is_runnable = true }) refl same beside
beside_target m k g rec _ begins same beside = beside

-- ---- calls that change no request

abbrev is_quiet : Call → Bool
is_quiet (RecCreate rd rec params) = false
is_quiet (RecEnter rec run) = false
is_quiet (RttSetRipas rd rec base top) = false
is_quiet _ = true

quiet : (call : Call) (m : Machine) → is_quiet call ≡ true → Beside m None (command_of call m).machine
unfolding version features granule_delegate granule_undelegate realm_create realm_activate rec_aux_count rtt_read_entry rtt_create rtt_destroy realm_destroy rtt_fold rtt_map_unprotected rtt_unmap_unprotected data_create data_create_unknown data_destroy rtt_init_ripas with_ripas_from rec_destroy psci_complete
quiet (Version requested) m is = all_beside m None
quiet (Features index) m is = all_beside m None
quiet (GranuleDelegate address) m is = beside_plain m m None (number_of m address) (of_no_realm Delegated) refl (all_beside m None)
quiet (GranuleUndelegate address) m is = beside_plain m m None (number_of m address) (of_no_realm Undelegated) refl (all_beside m None)
quiet (RealmCreate rd params) m is =
    let realm : RmmRealm = realm_for m (params_at m params) in
    beside_plain m (with_tables m (number_of m rd) realm realm.table_count) None (number_of m rd) (of_no_realm (Rd realm)) refl (beside_made m (number_of m rd) realm realm.table_count)
quiet (RealmActivate rd) m is = beside_plain m m None (number_of m rd) (of_no_realm (Rd (record (realm_at m rd) { state = Active }))) refl (all_beside m None)
quiet (RecAuxCount rd) m is = all_beside m None
quiet (RttReadEntry rd ipa level) m is = all_beside m None
quiet (RttCreate rd rtt ipa level) m is = beside_plain m m None (number_of m rtt) (of_realm (number_of m rd) Rtt) refl (all_beside m None)
quiet (RttDestroy rd ipa level) m is = beside_plain m m None _ (of_no_realm Delegated) refl (all_beside m None)
quiet (RealmDestroy rd) m is =
    beside_plain m (without_tables m (realm_at m rd) (realm_at m rd).table_count) None (number_of m rd) (of_no_realm Delegated) refl (beside_cleared m (realm_at m rd) (realm_at m rd).table_count)
quiet (RttFold rd ipa level) m is = beside_plain m m None _ (of_no_realm Delegated) refl (all_beside m None)
quiet (RttMapUnprotected rd ipa level descriptor) m is = all_beside m None
quiet (RttUnmapUnprotected rd ipa level) m is = all_beside m None
quiet (DataCreate rd page ipa source flags) m is =
    let realm : RmmRealm = realm_at m rd in
    let rim : List ℕ = rim_with_data realm ipa flags (page_in m (number_of m source)) in
    let mapped : Machine = with_granule m (number_of m page) (of_realm (number_of m rd) Data) in
    beside_plain m mapped None (number_of m rd) (of_no_realm (Rd (with_rim realm rim))) refl
    (beside_plain m m None (number_of m page) (of_realm (number_of m rd) Data) refl (all_beside m None))
quiet (DataCreateUnknown rd page ipa) m is = beside_plain m m None (number_of m page) (of_realm (number_of m rd) Data) refl (all_beside m None)
quiet (DataDestroy rd ipa) m is = beside_plain m m None _ (of_no_realm Delegated) refl (all_beside m None)
quiet (RttInitRipas rd base top) m is =
    let realm : RmmRealm = realm_at m rd in
    let found : RttWalk = walk m realm base 3 in
    let count : ℕ = change_count m (init_changeable m.settings) found base top in
    let rim : List ℕ = rim_with_ripas realm.hash realm.rim (entry_size found.level) base count in
    beside_plain m m None (number_of m rd) (of_no_realm (Rd (with_rim realm rim))) refl (all_beside m None)
quiet (RecDestroy rec) m is =
    let g : ℕ = number_of m rec in
    let less : Machine = without_rec m (granule_at m g).owner in
    beside_plain m (with_aux less g (of_no_realm Delegated) m.settings.aux) None g (of_no_realm Delegated) refl
    (beside_aux m less g (of_no_realm Delegated) m.settings.aux refl (beside_less m (granule_at m g).owner))
quiet (PsciComplete calling target status) m is =
    let g : ℕ = number_of m calling in
    let caller : RmmRec = rec_at m calling in
    let named : RmmRec = rec_at m target in
    let rec : RmmRec = record caller { psci = Complete (psci_result caller.psci (is_on named) status) } in
    let begins : Bool = not (is_on named) && status == psci_success in
    beside_target m (with_rec m g rec) (number_of m target) named caller.psci begins refl
    (beside_same m m None g (record (granule_at m g) { state = IsRec rec }) rec refl refl (all_beside m None))
quiet _ m is = absurd (cc)

-- ---- calls on RECs

-- RMI_REC_CREATE keeps the RIPAS request of each REC; the new REC has no request, like a granule without a REC
created : (rd rec params : ℕ) (m : Machine) → Passed (rec_create rd rec params m).checks → Beside m None (rec_create rd rec params m).machine
unfolding rec_create
created rd rec params m ok =
    let x : ℕ = number_of m rec in
    let r : ℕ = number_of m rd in
    let page : List ℕ = page_in m (number_of m params) in
    let made : Machine = with_created_rec m r x page in
    let new : RmmRec = new_rec (is_runnable_in page) (mpidr_in page) in
    let free = is_delegated-true (state_at m rec) (yes_from (is_delegated (state_at m rec)) ok.1.1.1.1.1.0) in
    let none : (rec_in m x).ripas ≡ no_rec.ripas = ap (λ (s : RmmGranuleState). (unwrap_or (rec_of s) no_rec).ripas) free in
    beside_plain m (with_aux made x (of_realm r RecAux) m.settings.aux) None r (of_no_realm (Rd (with_one_more m.settings (realm_at m rd) page))) refl
    (beside_aux m made x (of_realm r RecAux) m.settings.aux refl (beside_same m m None x (of_realm r (IsRec new)) new refl (sym none) (all_beside m None)))

-- RMI_RTT_SET_RIPAS changes only the request of its REC, and only to the rest of the old request
changed : (rd rec base top : ℕ) (m : Machine) → Passed (rtt_set_ripas rd rec base top m).checks → KeepsRequests m (Some (RttSetRipas rd rec base top)) (rtt_set_ripas rd rec base top m).machine
unfolding rtt_set_ripas ripas_request_checks with_ripas_from
changed rd rec base top m ok g new is =
    let x : ℕ = number_of m rec in
    let asking : RmmRec = rec_at m rec in
    let found : RttWalk = walk m (realm_at m rd) base 3 in
    let size : ℕ = change_count m (set_changeable asking.ripas) found base top * entry_size found.level in
    let begins : base ≡ asking.ripas.base = eqb-true base asking.ripas.base (yes_from (base == asking.ripas.base) ok.1.1.1.1.1.1.1.1.1.1.0) in
    let later : asking.ripas.base ≤ base + size = subst (λ (b : ℕ). b ≤ base + size) begins (omega arith) in
    ⊎_elim
    (λ (written : (g ≡ x) × (IsRec (with_base asking (base + size)) ≡ IsRec new)).
    let it : with_base asking (base + size) ≡ new = same_rec written.1 in
    inr (
      written.0,
      subst (λ (y : ℕ). IsRest new.ripas (rec_in m y).ripas) (sym written.0) (subst (λ (r : RmmRec). IsRest r.ripas asking.ripas) it (later, refl)),
    ))
    (λ (before : (granule_at m g).state ≡ IsRec new). inl (sym (ap (λ (s : RmmGranuleState). (unwrap_or (rec_of s) no_rec).ripas) before)))
    (rec_back m x g (record (granule_at m x) { state = IsRec (with_base asking (base + size)) }) new is)

-- ---- RECs beside one that is entered

module _ (o : Machine) (g : ℕ) where
  abbrev B : Machine → Type 0
  B m = Beside o (Some g) m

  b_result : (m : Machine) (r : StepResult) → B m → B (with_result m g r)
  unfolding with_result
  b_result m r b = (let rec : RmmRec = rec_in m g in beside_but o m g (record rec { result_count = (rec.result_count % 32 + 1) % 32 }) b)

  b_past : (m : Machine) → B m → B (past_step m g)
  unfolding past_step
  b_past m b = (let rec : RmmRec = rec_in m g in beside_but o m g (record rec { first_step = (rec.first_step % 16 + 1) % 16; step_count = rec.step_count - 1 }) b)

  b_ended : (m : Machine) (r : StepResult) → B m → B (with_step_ended m g r)
  b_ended m r b = b_result (past_step m g) r (b_past m b)

  b_psci : (m : Machine) (request : PsciRequest) → B m → B (with_psci_result m g request)
  b_psci m (Complete value) b = (let rec : RmmRec = record (rec_in m g) { psci = NoRequest } in b_result (with_rec m g rec) (Psci value) (beside_but o m g rec b))
  b_psci m _ b = b

  b_gprs : (m : Machine) (page : ℕ) → B m → B (with_gprs m g page)
  unfolding with_copied
  b_gprs m page b = b

  b_gic : (m : Machine) (page : ℕ) → B m → B (with_gic m g page)
  unfolding with_gic with_copied
  b_gic m page b = cond_both m.settings.checks_gic _ m B (λ sure. b) (λ never. b)

  b_answer : (m : Machine) (page flags : ℕ) (last : LastExit) → B m → B (with_host_answer m g last page flags)
  b_answer m page flags RipasChange b =
      let rec : RmmRec = record (rec_in m g) { ripas = no_request } in
      b_result (with_rec m g rec) (ripas_result (rec_in m g).ripas flags) (beside_but o m g rec b)
  b_answer m page flags HostCall b = b_result (with_gprs m g page) (Returned (entry_gpr_in (page_in m page) 0)) (b_gprs m page b)
  b_answer m page flags SystemRegister b = b_result m Done b
  b_answer m page flags UnprotectedAbort b = cond_both (injects_sea flags) (with_step_ended m g Sea) m B (λ sure. b_ended m Sea b) (λ never. b)
  b_answer m page flags EmulatableAbort b =
      let answer : StepResult = emulated (first_step m g) (entry_gpr_in (page_in m page) 0) in
      cond_both (injects_sea flags) (with_step_ended m g Sea) (if emulates_mmio flags then with_step_ended m g answer else m) B (λ sure. b_ended m Sea b)
      (λ never. cond_both (emulates_mmio flags) (with_step_ended m g answer) m B (λ also. b_ended m answer b) (λ neither. b))
  b_answer m page flags Other b = b_psci m (rec_in m g).psci b

  b_entry : (m : Machine) (address flags : ℕ) → B m → B (after_entry m g address flags)
  unfolding after_entry
  b_entry m address flags b =
      let page : ℕ = number_of m address in
      let k : Machine = with_rec m g (running_at (rec_in m g) address) in
      b_answer (with_gic k g page) page flags (rec_in m g).exit (b_gic k page (beside_but o m g (running_at (rec_in m g) address) b))

  b_exit : (m : Machine) (exit : RecExit) (last : LastExit) → B m → B (after_exit m g exit last)
  unfolding after_exit with_exit_gic with_copied with_exit_words
  b_exit m exit last b =
      let rec : RmmRec = record (rec_in m g) { state = Ready; exit = last } in
      let n : Machine = with_rec m g rec in
      let now : B n = beside_but o m g rec b in
      cond_both (is_host_page n (rec_in m g).run) _ n B (λ host. cond_both n.settings.checks_gic _ _ B (λ sure. now) (λ never. now)) (λ never. now)

  b_value : (m : Machine) (h ipa value : ℕ) (size : AccessSize) → B m → B (with_value m h size ipa value)
  unfolding with_value with_two_bytes with_four_bytes
  b_value m h ipa value Byte b = b
  b_value m h ipa value Halfword b = b
  b_value m h ipa value Word b = b
  b_value m h ipa value Doubleword b = b

  b_write : (m : Machine) (ipa value : ℕ) (size : AccessSize) (came : Result ℕ StepOutcome) → B m → B (after_write m ipa size value came)
  b_write m ipa value size (Ok h) b = b_value m h ipa value size b
  b_write m ipa value size (Err outcome) b = b

  b_off_at : (m : Machine) (rd : ℕ) (there : Option RmmRealm) → B m → B (with_realm_off m rd there)
  b_off_at m rd (Some realm) b = beside_plain o m (Some g) rd (of_no_realm (Rd (record realm { state = IsSystemOff }))) refl b
  b_off_at m rd None b = b

  b_off : (m : Machine) (owner : Option ℕ) → B m → B (with_system_off m owner)
  b_off m (Some rd) b = b_off_at m rd (realm_of (granule_at m rd).state) b
  b_off m None b = b

  b_exit_of : (m : Machine) (step : GuestStep) (exits : Bool) → B m → B (with_exit_of m g step exits)
  b_exit_of m step true b = beside_but o m g (rec_after_exit (rec_in m g) step) b
  b_exit_of m step false b = b

  b_step : (m : Machine) (realm : RmmRealm) (step : GuestStep) (outcome : StepOutcome) → B m → B (after_step m realm g step outcome)
  unfolding after_step
  b_step m realm (Write ipa value size) outcome b = b_write m ipa value size (access m realm ipa true size (low_bytes size value)) b
  b_step m realm (Read ipa size) outcome b = b
  b_step m realm (Fetch ipa) outcome b = b
  b_step m realm SystemOff outcome b = b_off m (granule_at m g).owner b
  b_step m realm SystemReset outcome b = b_off m (granule_at m g).owner b
  b_step m realm step outcome b = b_exit_of m step (is_exit outcome) b

  b_passed : (m : Machine) (outcome : StepOutcome) → B m → B (with_step_passed m g outcome)
  b_passed m (IsResult r) b = b_ended m r b
  b_passed m (IsExit exit last) b = cond_both _ m _ B (λ sure. b) (λ never. b_past m b)
  b_passed m Spins b = b_past m b

  b_step_in : (m : Machine) (flags : ℕ) (there : Option RmmRealm) → B m → B (after_step_in m there g flags)
  b_step_in m flags (Some realm) b =
      let outcome : StepOutcome = step_outcome m realm g flags (first_step m g) in
      b_passed (after_step m realm g (first_step m g) outcome) outcome (b_step m realm (first_step m g) outcome b)
  b_step_in m flags None b = b

  b_first : (m : Machine) (flags : ℕ) → B m → B (after_first_step m g flags)
  unfolding after_first_step
  b_first m flags b = cond_both ((rec_in m g).step_count == 0) m _ B (λ none. b) (λ some. b_step_in m flags (owner_realm m g) b)

  b_continued : (m : Machine) (outcome : StepOutcome) (rest : Bool × Machine) → B m → B rest.1 → B (continued outcome m g rest).1
  b_continued m (IsResult r) rest b more = more
  b_continued m (IsExit exit last) rest b more = b_exit m exit last b
  b_continued m Spins rest b more = b

  b_steps : (count flags : ℕ) (m : Machine) → B m → B (after_steps m g flags count).1
  unfolding after_steps
  b_steps zero flags m b = b_exit m (only_reason Irq) Other b
  b_steps (suc count) flags m b =
      let next : Machine = after_first_step m g flags in
      let now : B next = b_first m flags b in
      b_continued next (first_step_outcome m g flags) (after_steps next g flags count) now (b_steps count flags next now)

entered : (rec run : ℕ) (m : Machine) → Beside m (Some (number_of m rec)) (rec_enter rec run m).machine
unfolding rec_enter
entered rec run m =
    let g : ℕ = number_of m rec in
    let flags : ℕ = flags_in (page_in m (number_of m run)) in
    b_steps m g 16 flags (after_entry m g run flags) (b_entry m g m run flags (all_beside m (Some g)))

-- ---- all calls

from_none : (m n : Machine) (call : Option Call) → Beside m None n → KeepsRequests m call n
from_none m n call beside g rec is = ⊎_elim (λ (never : None ≡ Some g). absurd (cc)) (λ (same : rec.ripas ≡ (rec_in m g).ripas). inl same) (beside g rec is)

after : (call : Call) (m : Machine) → Passed (command_of call m).checks → KeepsRequests m (Some call) (command_of call m).machine
after (RecCreate rd rec params) m ok = from_none m (rec_create rd rec params m).machine (Some (RecCreate rd rec params)) (created rd rec params m ok)
after (RttSetRipas rd rec base top) m ok = changed rd rec base top m ok
after (RecEnter rec run) m ok = λ g new is. ⊎_elim
    (λ (it : Some (number_of m rec) ≡ Some g). inr (sym (some_same it)))
    (λ (same : new.ripas ≡ (rec_in m g).ripas). inl same)
    (entered rec run m g new is)
after call m ok = from_none m (command_of call m).machine (Some call) (quiet call m refl)

pub call_requests : (o : Option Call) (r : Registers) (m : Machine) → KeepsRequests m o (rmi_at o r m).1
unfolding performed
call_requests None r m = from_none m m None (all_beside m None)
call_requests (Some call) r m = kept (KeepsRequests m (Some call)) (command_of call m) m (from_none m m (Some call) (all_beside m None)) (after call m)

-- ---- guests

given : (m : Machine) (g : ℕ) (w : StepWords) → Beside m None (with_step m g w)
unfolding with_step
given m g w =
    let rec : RmmRec = rec_in m g in
    beside_same m m None g (record (granule_at m g) { state = IsRec (record rec { step_count = rec.step_count + 1 }) }) (record rec { step_count = rec.step_count + 1 }) refl refl (all_beside m None)

pub queued_requests : (m : Machine) (rec : ℕ) (w : StepWords) → KeepsRequests m None (queued m rec w).1
queued_requests m rec w =
    from_none m (queued m rec w).1 None (cond_both (is_rec_named m rec) _ _ (λ (p : Queued × Machine). Beside m None p.1)
    (λ is. cond_both (nat_lt (rec_in m (number_of m rec)).step_count 16) _ _ (λ (p : Queued × Machine). Beside m None p.1) (λ few. given m (number_of m rec) w) (λ full. all_beside m None))
    (λ never. all_beside m None))

left : (m : Machine) (g : ℕ) (exit : RecExit) (last : LastExit) → Beside m None (after_exit m g exit last)
unfolding after_exit with_exit_gic with_copied with_exit_words
left m g exit last =
    let rec : RmmRec = record (rec_in m g) { state = Ready; exit = last } in
    let n : Machine = with_rec m g rec in
    let now : Beside m None n = beside_same m m None g (record (granule_at m g) { state = IsRec rec }) rec refl refl (all_beside m None) in
    cond_both (is_host_page n (rec_in m g).run) _ n (Beside m None) (λ host. cond_both n.settings.checks_gic _ _ (Beside m None) (λ sure. now) (λ never. now)) (λ never. now)

pub left_requests : (m : Machine) (g : ℕ) (exit : RecExit) (last : LastExit) → KeepsRequests m None (after_exit m g exit last)
left_requests m g exit last = from_none m (after_exit m g exit last) None (left m g exit last)

pub interrupt_requests : (m : Machine) (rec : ℕ) → KeepsRequests m None (interrupted m rec).1
unfolding interrupted
interrupt_requests m rec =
    from_none m (interrupted m rec).1 None (cond_both (runs_at m rec) _ _ (λ (p : Option Answer × Machine). Beside m None p.1)
    (λ runs. left m (number_of m rec) (only_reason Irq) Other)
    (λ never. all_beside m None))
