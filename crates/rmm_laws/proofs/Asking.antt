-- Proofs that entering a REC clears or keeps its RIPAS request, and that a guest step keeps or replaces the request.
use Rattle.std.proofs.Common.{◌≡◌, ◌≢◌, ℕ, ◌+◌, ◌-◌, ◌*◌, ◌%◌, ◌<◌, ◌≤◌, ◌==◌, ◌⊎◌, inl, inr, Bool, true, false, length, Option, Some, None, Result, Ok, Err, unwrap_or, refl, sym, ap, subst, ◌∙◌, ⊎_elim}
use Rattle.std.specs.Prelude.{if◌then◌else◌}
use Rattle.std.proofs.lemmas.Bool.{cases_lt, cond_both}
use Rattle.std.proofs.lemmas.List.{length-set, get_or_past}
use Rattle.rmi_abi.specs.RecRun.{entry_gpr_in, injects_sea, emulates_mmio}
use Rattle.rmm_model.specs.declared.access.AccessSize.{AccessSize}
use Rattle.rmm_model.specs.declared.access.AccessSize.TheVariants.{Byte, Halfword, Word, Doubleword}
use Rattle.rmm_model.specs.declared.granule.RmmGranule.{RmmGranule}
use Rattle.rmm_model.specs.declared.granule.RmmGranuleState.{RmmGranuleState}
use Rattle.rmm_model.specs.declared.granule.RmmGranuleState.TheVariants.{Undelegated, Rec as IsRec}
use Rattle.rmm_model.specs.declared.realm.RmmRealm.{RmmRealm}
use Rattle.rmm_model.specs.declared.rec.LastExit.{LastExit}
use Rattle.rmm_model.specs.declared.rec.LastExit.TheVariants.{Other, HostCall, RipasChange, EmulatableAbort, UnprotectedAbort, SystemRegister}
use Rattle.rmm_model.specs.declared.rec.PsciRequest.{PsciRequest}
use Rattle.rmm_model.specs.declared.rec.PsciRequest.TheVariants.{None as NoRequest, Complete}
use Rattle.rmm_model.specs.declared.rec.RipasRequest.{RipasRequest}
use Rattle.rmm_model.specs.declared.rec.RmmRec.{RmmRec}
use Rattle.rmm_model.specs.declared.step.GuestStep.{GuestStep}
use Rattle.rmm_model.specs.declared.step.GuestStep.TheVariants.{Write, Read, Fetch, SetRipas, SystemOff, SystemReset}
use Rattle.rmm_model.specs.declared.step.StepOutcome.{StepOutcome}
use Rattle.rmm_model.specs.declared.step.StepOutcome.TheVariants.{Result as IsResult, Exit as IsExit, Spin as Spins}
use Rattle.rmm_model.specs.declared.step.StepResult.{StepResult}
use Rattle.rmm_model.specs.declared.step.StepResult.TheVariants.{Done, Sea, Psci, RsiErrorInput, Returned}
use Rattle.rmm_model.specs.Access.{low_bytes, with_two_bytes, with_four_bytes, with_value}
use Rattle.rmm_model.specs.Granule.{of_no_realm, realm_of, rec_of}
use Rattle.rmm_model.specs.Guest.{rec_in, first_step, past_step, result_code, result_value, with_result}
use Rattle.rmm_model.specs.Machine.{Machine, granule_at, page_in, number_of, with_word}
use Rattle.rmm_model.specs.Rec.{no_rec, no_request}
use Rattle.rmm_model.specs.Step.{access, after_write, is_exit, is_ripas_range, ripas_exit, rec_after_exit}
use Rattle.rmm_model.specs.Command.PsciComplete.{with_rec}
use Rattle.rmm_model.specs.Command.RecEnter.{owner_realm, with_realm_off, with_system_off, with_copied, with_gprs, with_gic, with_step_ended, with_psci_result, ripas_result, emulated, with_host_answer, running_at, after_entry, step_outcome, with_exit_of, after_step, with_step_passed, after_step_in, after_first_step}
use Rattle.rmm_laws.specs.Request.{IsAskedFor}
use Rattle.rmm_laws.proofs.Passed.{realm_of-is}
use Rattle.rmm_laws.proofs.Requests.{same_rec}
use Rattle.rmm_laws.proofs.Writes.{granule_at-same, granule_at-other, taken_inside}

-- ---- a REC of whose request something holds

module _ (g : ℕ) (P : RipasRequest → Type 0) where
  abbrev Asks : Machine → Type 0
  Asks m = (rec : RmmRec) × ((granule_at m g).state ≡ IsRec rec) × P rec.ripas

  asks_inside : (m : Machine) → Asks m → g < length m.granules
  asks_inside m asks = let is = asks.1 in taken_inside m g (λ free. cc)

  asks_in : (m : Machine) → Asks m → P (rec_in m g).ripas
  asks_in m asks = subst P (sym (ap (λ (s : RmmGranuleState). (unwrap_or (rec_of s) no_rec).ripas) asks.1)) asks.2

  asks_rec : (m : Machine) (rec : RmmRec) → g < length m.granules → P rec.ripas → Asks (with_rec m g rec)
  asks_rec m rec inside holds = (rec, ap (λ (r : RmmGranule). r.state) (granule_at-same m g (record (granule_at m g) { state = IsRec rec }) inside), holds)

  asks_result : (m : Machine) (r : StepResult) → Asks m → Asks (with_result m g r)
  unfolding with_result
  asks_result m r asks =
      let rec : RmmRec = rec_in m g in
      let place : ℕ = rec.result_count % 32 in
      let a : Machine = with_word m g (128 + 2 * place) (result_code r) in
      let b : Machine = with_word a g (128 + 2 * place + 1) (result_value r) in
      asks_rec b (record rec { result_count = (place + 1) % 32 }) (asks_inside m asks) (asks_in m asks)

  asks_past : (m : Machine) → Asks m → Asks (past_step m g)
  unfolding past_step
  asks_past m asks =
      let rec : RmmRec = rec_in m g in
      asks_rec m (record rec { first_step = (rec.first_step % 16 + 1) % 16; step_count = rec.step_count - 1 }) (asks_inside m asks) (asks_in m asks)

  asks_ended : (m : Machine) (r : StepResult) → Asks m → Asks (with_step_ended m g r)
  asks_ended m r asks = asks_result (past_step m g) r (asks_past m asks)

  asks_gic : (m : Machine) (page : ℕ) → Asks m → Asks (with_gic m g page)
  unfolding with_gic with_copied
  asks_gic m page asks = cond_both m.settings.checks_gic _ m Asks (λ sure. asks) (λ never. asks)

  -- ---- steps

  asks_value : (m : Machine) (h ipa value : ℕ) (size : AccessSize) → Asks m → Asks (with_value m h size ipa value)
  unfolding with_value with_two_bytes with_four_bytes
  asks_value m h ipa value Byte asks = asks
  asks_value m h ipa value Halfword asks = asks
  asks_value m h ipa value Word asks = asks
  asks_value m h ipa value Doubleword asks = asks

  asks_write : (m : Machine) (ipa value : ℕ) (size : AccessSize) (came : Result ℕ StepOutcome) → Asks m → Asks (after_write m ipa size value came)
  asks_write m ipa value size (Ok h) asks = asks_value m h ipa value size asks
  asks_write m ipa value size (Err outcome) asks = asks

  asks_off_at : (m : Machine) (rd : ℕ) (there : Option RmmRealm) → realm_of (granule_at m rd).state ≡ there → Asks m → Asks (with_realm_off m rd there)
  asks_off_at m rd (Some realm) is asks =
      let rd_is = realm_of-is (granule_at m rd).state realm is in
      let rec_is = asks.1 in
      let apart : g ≢ rd = λ same. (let states : (granule_at m g).state ≡ (granule_at m rd).state = ap (λ (x : ℕ). (granule_at m x).state) same in cc) in
      (asks.0, ap (λ (r : RmmGranule). r.state) (granule_at-other m rd g _ apart) ∙ asks.1, asks.2)
  asks_off_at m rd None is asks = asks

  asks_off : (m : Machine) (owner : Option ℕ) → Asks m → Asks (with_system_off m owner)
  asks_off m (Some rd) asks = asks_off_at m rd (realm_of (granule_at m rd).state) refl asks
  asks_off m None asks = asks

  asks_exit_of : (m : Machine) (step : GuestStep) (exits : Bool) → (rec_after_exit (rec_in m g) step).ripas ≡ (rec_in m g).ripas → Asks m → Asks (with_exit_of m g step exits)
  asks_exit_of m step true same asks = asks_rec m (rec_after_exit (rec_in m g) step) (asks_inside m asks) (subst P (sym same) (asks_in m asks))
  asks_exit_of m step false same asks = asks

  asks_passed : (m : Machine) (outcome : StepOutcome) → Asks m → Asks (with_step_passed m g outcome)
  asks_passed m (IsResult r) asks = asks_ended m r asks
  asks_passed m (IsExit exit last) asks = cond_both _ m _ Asks (λ sure. asks) (λ never. asks_past m asks)
  asks_passed m Spins asks = asks_past m asks

-- if `Asks g P m` holds and `rec` is the REC in granule `g`, then `P` holds of the RIPAS request of `rec`
holds_of : (g : ℕ) (P : RipasRequest → Type 0) (m : Machine) (rec : RmmRec) → Asks g P m → (granule_at m g).state ≡ IsRec rec → P rec.ripas
holds_of g P m rec asks is = subst (λ (r : RmmRec). P r.ripas) (same_rec (sym asks.1 ∙ is)) asks.2

-- ---- entries

left_for_ripas : (s : RmmGranuleState) → (unwrap_or (rec_of s) no_rec).exit ≡ RipasChange → s ≡ IsRec (unwrap_or (rec_of s) no_rec)
left_for_ripas (IsRec rec) is = refl
left_for_ripas _ is = absurd (cc)

abbrev Any : RipasRequest → Type 0
Any asked = Unit {0}

abbrev IsNone : RipasRequest → Type 0
IsNone asked = asked ≡ no_request

-- a REC whose last exit requested a RIPAS change has no request once it is entered
pub nothing_asked : (m : Machine) (g address flags : ℕ) (rec : RmmRec) → (rec_in m g).exit ≡ RipasChange → (granule_at (after_entry m g address flags) g).state ≡ IsRec rec → rec.ripas ≡ no_request
unfolding after_entry
nothing_asked m g address flags rec left is =
    let page : ℕ = number_of m address in
    let there = left_for_ripas (granule_at m g).state left in
    let inside : g < length m.granules = taken_inside m g (λ free. cc) in
    let k : Machine = with_gic (with_rec m g (running_at (rec_in m g) address)) g page in
    let runs : Asks g Any k = asks_gic g Any (with_rec m g (running_at (rec_in m g) address)) page (asks_rec g Any m (running_at (rec_in m g) address) inside tt) in
    let cleared : RmmRec = record (rec_in k g) { ripas = no_request } in
    let answered : Asks g IsNone (with_host_answer k g RipasChange page flags) =
    asks_result g IsNone (with_rec k g cleared) (ripas_result (rec_in k g).ripas flags) (asks_rec g IsNone k cleared (asks_inside g Any k runs) refl) in
    holds_of g IsNone (with_host_answer k g (rec_in m g).exit page flags) rec
    (subst (λ (last : LastExit). Asks g IsNone (with_host_answer k g last page flags)) (sym left) answered) is

-- The writes by which the REC in granule `g` is entered keep the REC's RIPAS request, if the last exit was no RIPAS
-- change. If no REC is in `g`, the request is taken from `no_rec`.
module _ (g : ℕ) (asked : RipasRequest) where
  abbrev Tells : Machine → Type 0
  Tells m = (rec_in m g).ripas ≡ asked

  tells_rec : (m : Machine) (rec : RmmRec) → Tells m → rec.ripas ≡ asked → Tells (with_rec m g rec)
  tells_rec m rec tells same =
      let kept : RmmGranule = record (granule_at m g) { state = IsRec rec } in
      ⊎_elim
      (λ (inside : g < length m.granules). ap (λ (c : RmmGranule). (unwrap_or (rec_of c.state) no_rec).ripas) (granule_at-same m g kept inside) ∙ same)
      (λ (past : length m.granules ≤ g).
      let after : length (with_rec m g rec).granules ≤ g = subst (λ (n : ℕ). n ≤ g) (sym (length-set m.granules g kept)) past in
      ap (λ (c : RmmGranule). (unwrap_or (rec_of c.state) no_rec).ripas)
      (get_or_past (with_rec m g rec).granules g (of_no_realm Undelegated) after ∙ sym (get_or_past m.granules g (of_no_realm Undelegated) past))
      ∙ tells)
      (cases_lt g (length m.granules))

  tells_result : (m : Machine) (r : StepResult) → Tells m → Tells (with_result m g r)
  unfolding with_result
  tells_result m r tells =
      let rec : RmmRec = rec_in m g in
      let place : ℕ = rec.result_count % 32 in
      let a : Machine = with_word m g (128 + 2 * place) (result_code r) in
      let b : Machine = with_word a g (128 + 2 * place + 1) (result_value r) in
      tells_rec b (record rec { result_count = (place + 1) % 32 }) tells tells

  tells_past : (m : Machine) → Tells m → Tells (past_step m g)
  unfolding past_step
  tells_past m tells = (let rec : RmmRec = rec_in m g in tells_rec m (record rec { first_step = (rec.first_step % 16 + 1) % 16; step_count = rec.step_count - 1 }) tells tells)

  tells_ended : (m : Machine) (r : StepResult) → Tells m → Tells (with_step_ended m g r)
  tells_ended m r tells = tells_result (past_step m g) r (tells_past m tells)

  tells_psci : (m : Machine) (request : PsciRequest) → Tells m → Tells (with_psci_result m g request)
  tells_psci m (Complete value) tells =
      let rec : RmmRec = record (rec_in m g) { psci = NoRequest } in
      tells_result (with_rec m g rec) (Psci value) (tells_rec m rec tells tells)
  tells_psci m _ tells = tells

  tells_gprs : (m : Machine) (page : ℕ) → Tells m → Tells (with_gprs m g page)
  unfolding with_copied
  tells_gprs m page tells = tells

  tells_gic : (m : Machine) (page : ℕ) → Tells m → Tells (with_gic m g page)
  unfolding with_gic with_copied
  tells_gic m page tells = cond_both m.settings.checks_gic _ m Tells (λ sure. tells) (λ never. tells)

  tells_answer : (m : Machine) (page flags : ℕ) (last : LastExit) → last ≢ RipasChange → Tells m → Tells (with_host_answer m g last page flags)
  tells_answer m page flags RipasChange other tells = absurd (other refl)
  tells_answer m page flags HostCall other tells = tells_result (with_gprs m g page) (Returned (entry_gpr_in (page_in m page) 0)) (tells_gprs m page tells)
  tells_answer m page flags SystemRegister other tells = tells_result m Done tells
  tells_answer m page flags UnprotectedAbort other tells = cond_both (injects_sea flags) (with_step_ended m g Sea) m Tells (λ sure. tells_ended m Sea tells) (λ never. tells)
  tells_answer m page flags EmulatableAbort other tells =
      let answer : StepResult = emulated (first_step m g) (entry_gpr_in (page_in m page) 0) in
      cond_both (injects_sea flags) (with_step_ended m g Sea) (if emulates_mmio flags then with_step_ended m g answer else m) Tells (λ sure. tells_ended m Sea tells)
      (λ never. cond_both (emulates_mmio flags) (with_step_ended m g answer) m Tells (λ also. tells_ended m answer tells) (λ neither. tells))
  tells_answer m page flags Other other tells = tells_psci m (rec_in m g).psci tells

pub request_kept : (m : Machine) (g address flags : ℕ) (rec : RmmRec) → (rec_in m g).exit ≢ RipasChange → (granule_at (after_entry m g address flags) g).state ≡ IsRec rec → rec.ripas ≡ (rec_in m g).ripas
unfolding after_entry
request_kept m g address flags rec other is =
    let page : ℕ = number_of m address in
    let asked : RipasRequest = (rec_in m g).ripas in
    let runs : Machine = with_rec m g (running_at (rec_in m g) address) in
    let k : Machine = with_gic runs g page in
    let tells : Tells g asked k = tells_gic g asked runs page (tells_rec g asked m (running_at (rec_in m g) address) refl refl) in
    let answered : Tells g asked (with_host_answer k g (rec_in m g).exit page flags) = tells_answer g asked k page flags (rec_in m g).exit other tells in
    sym (ap (λ (s : RmmGranuleState). (unwrap_or (rec_of s) no_rec).ripas) is) ∙ answered

-- ---- the first step

module _ (m : Machine) (g : ℕ) where
  abbrev IsSaid : RipasRequest → Type 0
  IsSaid asked = (asked ≡ (rec_in m g).ripas) ⊎ IsAskedFor m g asked

  abbrev Says : Machine → Type 0
  Says n = Asks g IsSaid n

  said_step : (realm : RmmRealm) (flags : ℕ) (step : GuestStep) → owner_realm m g ≡ Some realm → first_step m g ≡ step → Says m → Says (after_step m realm g step (step_outcome m realm g flags step))
  unfolding after_step step_outcome
  said_step realm flags (Write ipa value size) owner is says = asks_write g IsSaid m ipa value size (access m realm ipa true size (low_bytes size value)) says
  said_step realm flags (Read ipa size) owner is says = says
  said_step realm flags (Fetch ipa) owner is says = says
  said_step realm flags SystemOff owner is says = asks_off g IsSaid m (granule_at m g).owner says
  said_step realm flags SystemReset owner is says = asks_off g IsSaid m (granule_at m g).owner says
  said_step realm flags (SetRipas base top ripas more) owner is says =
      cond_both (is_ripas_range realm base top ripas) (ripas_exit base top ripas) (IsResult RsiErrorInput)
      (λ (outcome : StepOutcome). Says (with_exit_of m g (SetRipas base top ripas more) (is_exit outcome)))
      (λ sure.
      asks_rec g IsSaid m (rec_after_exit (rec_in m g) (SetRipas base top ripas more)) (asks_inside g IsSaid m says)
      (inr (base, top, ripas, more, realm, is, owner, sure, refl)))
      (λ never. says)
  said_step realm flags step owner is says = asks_exit_of g IsSaid m step (is_exit (step_outcome m realm g flags step)) refl says

  said_in : (flags : ℕ) (there : Option RmmRealm) → owner_realm m g ≡ there → Says m → Says (after_step_in m there g flags)
  said_in flags (Some realm) owner says =
      let outcome : StepOutcome = step_outcome m realm g flags (first_step m g) in
      asks_passed g IsSaid (after_step m realm g (first_step m g) outcome) outcome (said_step realm flags (first_step m g) owner refl says)
  said_in flags None owner says = says

  is_at_first : (rec : RmmRec) → (granule_at m g).state ≡ IsRec rec → Says m
  is_at_first rec is = (rec, is, inl (sym (ap (λ (s : RmmGranuleState). (unwrap_or (rec_of s) no_rec).ripas) is)))

with_steps : (s : RmmGranuleState) → ((unwrap_or (rec_of s) no_rec).step_count == 0) ≡ false → s ≡ IsRec (unwrap_or (rec_of s) no_rec)
with_steps (IsRec rec) some = refl
with_steps _ some = absurd (cc)

-- after a step of its guest, a REC has the RIPAS request that it had before, or the one that the step asks for
pub asked_by_step : (m : Machine) (g flags : ℕ) (rec : RmmRec) → (granule_at (after_first_step m g flags) g).state ≡ IsRec rec → (rec.ripas ≡ (rec_in m g).ripas) ⊎ IsAskedFor m g rec.ripas
unfolding after_first_step
asked_by_step m g flags rec =
    cond_both ((rec_in m g).step_count == 0) m (after_step_in m (owner_realm m g) g flags)
    (λ (n : Machine). (granule_at n g).state ≡ IsRec rec → (rec.ripas ≡ (rec_in m g).ripas) ⊎ IsAskedFor m g rec.ripas)
    (λ none is. holds_of g (IsSaid m g) m rec (is_at_first m g rec is) is)
    (λ some is.
    let at_first = is_at_first m g (rec_in m g) (with_steps (granule_at m g).state some) in
    holds_of g (IsSaid m g) (after_step_in m (owner_realm m g) g flags) rec (said_in m g flags (owner_realm m g) refl at_first) is)
