-- Proofs that the bytes at protected addresses stay the same at a REC's entry, at its exit, and at guest steps that do
-- not write.
use Rattle.std.proofs.Common.{◌≡◌, ◌≢◌, ℕ, ◌+◌, ◌*◌, ◌%◌, ◌==◌, Bool, true, false, Option, Some, None, refl, sym, ap, ◌∙◌}
use Rattle.std.proofs.lemmas.Bool.{cond_both}
use Rattle.std.specs.Prelude.{if◌then◌else◌}
use Rattle.rmi_abi.specs.declared.rec_run.RecExit.{RecExit}
use Rattle.rmi_abi.specs.RecRun.{entry_gpr_in, emulates_mmio, injects_sea}
use Rattle.rmm_model.specs.declared.granule.RmmGranuleState.{RmmGranuleState}
use Rattle.rmm_model.specs.declared.granule.RmmGranuleState.TheVariants.{Data, Rec as IsRec}
use Rattle.rmm_model.specs.declared.realm.RmmRealm.{RmmRealm}
use Rattle.rmm_model.specs.declared.rec.LastExit.{LastExit}
use Rattle.rmm_model.specs.declared.rec.LastExit.TheVariants.{Other, HostCall, RipasChange, EmulatableAbort, UnprotectedAbort, SystemRegister}
use Rattle.rmm_model.specs.declared.rec.PsciRequest.{PsciRequest}
use Rattle.rmm_model.specs.declared.rec.PsciRequest.TheVariants.{Complete}
use Rattle.rmm_model.specs.declared.rec.RmmRec.{RmmRec}
use Rattle.rmm_model.specs.declared.step.GuestStep.{GuestStep}
use Rattle.rmm_model.specs.declared.step.GuestStep.TheVariants.{Write, Read, Fetch, SystemOff, SystemReset}
use Rattle.rmm_model.specs.declared.step.StepOutcome.{StepOutcome}
use Rattle.rmm_model.specs.declared.step.StepOutcome.TheVariants.{Result as IsResult, Exit as IsExit, Spin as Spins}
use Rattle.rmm_model.specs.declared.step.StepResult.{StepResult}
use Rattle.rmm_model.specs.declared.step.StepResult.TheVariants.{Sea}
use Rattle.rmm_model.specs.Granule.{realm_of}
use Rattle.rmm_model.specs.Guest.{rec_in, first_step, past_step, with_result, result_code, result_value}
use Rattle.rmm_model.specs.Machine.{Machine, granule_at, page_in, number_of, with_word}
use Rattle.rmm_model.specs.Step.{is_exit}
use Rattle.rmm_model.specs.Command.PsciComplete.{with_rec}
use Rattle.rmm_model.specs.Command.RecEnter.{owner_realm, with_realm_off, with_system_off, with_copied, with_gprs, with_gic, after_exit, with_step_ended, with_psci_result, emulated, with_host_answer, after_entry, step_outcome, with_exit_of, after_step, with_step_passed, after_step_in, after_first_step}
use Rattle.rmm_laws.specs.Apart.{IsSameAt}
use Rattle.rmm_laws.specs.Guest.{is_write}
use Rattle.rmm_laws.specs.Location.{KeepsContents}
use Rattle.rmm_laws.specs.Proper.{IsProperRun}
use Rattle.rmm_laws.proofs.Aside.{same_page, same_granule, exit_at}
use Rattle.rmm_laws.proofs.Contents.{none_contents}
use Rattle.rmm_laws.proofs.Guests.{entry_then, step_then, exit_then}
use Rattle.rmm_laws.proofs.LocationTables.{going_locations}
use Rattle.rmm_laws.proofs.Recs.{IsGoing}

-- ---- granules beside a REC that is entered

module _ (o : Machine) (x g : ℕ) (other : x ≢ g) where
  by_rec : (m : Machine) (rec : RmmRec) → IsSameAt o m x → IsSameAt o (with_rec m g rec) x
  by_rec m rec same = same_granule o x m g _ other same

  by_result : (m : Machine) (r : StepResult) → IsSameAt o m x → IsSameAt o (with_result m g r) x
  unfolding with_result
  by_result m r same =
      let place : ℕ = (rec_in m g).result_count % 32 in
      let code : Machine = with_word m g (128 + 2 * place) (result_code r) in
      let value : Machine = with_word code g (128 + 2 * place + 1) (result_value r) in
      same_granule o x value g _ other (same_page o x code g _ other (same_page o x m g _ other same))

  by_past : (m : Machine) → IsSameAt o m x → IsSameAt o (past_step m g) x
  unfolding past_step
  by_past m same = same_granule o x m g _ other same

  by_ended : (m : Machine) (r : StepResult) → IsSameAt o m x → IsSameAt o (with_step_ended m g r) x
  by_ended m r same = by_result (past_step m g) r (by_past m same)

  by_gprs : (page : ℕ) (m : Machine) → IsSameAt o m x → IsSameAt o (with_gprs m g page) x
  unfolding with_copied
  by_gprs page m same = same_page o x m g _ other same

  by_gic : (page : ℕ) (m : Machine) → IsSameAt o m x → IsSameAt o (with_gic m g page) x
  unfolding with_gic with_copied
  by_gic page m same = cond_both m.settings.checks_gic _ m (λ (n : Machine). IsSameAt o n x) (λ sure. same_page o x m g _ other same) (λ never. same)

  by_psci : (m : Machine) (request : PsciRequest) → IsSameAt o m x → IsSameAt o (with_psci_result m g request) x
  by_psci m (Complete value) same = by_result _ _ (by_rec m _ same)
  by_psci m _ same = same

  by_answer : (page flags : ℕ) (m : Machine) (last : LastExit) → IsSameAt o m x → IsSameAt o (with_host_answer m g last page flags) x
  by_answer page flags m RipasChange same = by_result _ _ (by_rec m _ same)
  by_answer page flags m HostCall same = by_result _ _ (by_gprs page m same)
  by_answer page flags m SystemRegister same = by_result m _ same
  by_answer page flags m UnprotectedAbort same = cond_both (injects_sea flags) (with_step_ended m g Sea) m (λ (n : Machine). IsSameAt o n x) (λ sure. by_ended m Sea same) (λ never. same)
  by_answer page flags m EmulatableAbort same =
      let answer : StepResult = emulated (first_step m g) (entry_gpr_in (page_in m page) 0) in
      cond_both (injects_sea flags) (with_step_ended m g Sea) (if emulates_mmio flags then with_step_ended m g answer else m) (λ (n : Machine). IsSameAt o n x)
      (λ sure. by_ended m Sea same)
      (λ never. cond_both (emulates_mmio flags) (with_step_ended m g answer) m (λ (n : Machine). IsSameAt o n x) (λ also. by_ended m answer same) (λ neither. same))
  by_answer page flags m Other same = by_psci m (rec_in m g).psci same

  by_entry : (address flags : ℕ) (m : Machine) → IsSameAt o m x → IsSameAt o (after_entry m g address flags) x
  unfolding after_entry
  by_entry address flags m same = by_answer (number_of m address) flags _ (rec_in m g).exit (by_gic (number_of m address) _ (by_rec m _ same))

  pub by_passed : (m : Machine) (outcome : StepOutcome) → IsSameAt o m x → IsSameAt o (with_step_passed m g outcome) x
  by_passed m (IsResult r) same = by_ended m r same
  by_passed m (IsExit exit last) same = cond_both _ m _ (λ (n : Machine). IsSameAt o n x) (λ sure. same) (λ never. by_past m same)
  by_passed m Spins same = by_past m same

  by_exit_of : (m : Machine) (step : GuestStep) (exits : Bool) → IsSameAt o m x → IsSameAt o (with_exit_of m g step exits) x
  by_exit_of m step true same = by_rec m _ same
  by_exit_of m step false same = same

-- ---- pages of data

-- switching off a realm leaves each DATA granule as it was
off_at : (m : Machine) (x rd : ℕ) (there : Option RmmRealm) → (granule_at m x).state ≡ Data → realm_of (granule_at m rd).state ≡ there → IsSameAt m (with_realm_off m rd there) x
off_at m x rd (Some realm) its is = same_granule m x m rd _ (λ same. (let none : realm_of (granule_at m rd).state ≡ None = ap (λ (y : ℕ). realm_of (granule_at m y).state) (sym same) ∙ ap (λ (s : RmmGranuleState). realm_of s) its in cc)) (refl, refl)
off_at m x rd None its is = (refl, refl)

system_off_at : (m : Machine) (x : ℕ) (owner : Option ℕ) → (granule_at m x).state ≡ Data → IsSameAt m (with_system_off m owner) x
system_off_at m x (Some rd) its = off_at m x rd (realm_of (granule_at m rd).state) its refl
system_off_at m x None its = (refl, refl)

step_at : (m : Machine) (realm : RmmRealm) (x g : ℕ) (step : GuestStep) (outcome : StepOutcome) → x ≢ g → (granule_at m x).state ≡ Data → is_write step ≡ false → IsSameAt m (after_step m realm g step outcome) x
unfolding after_step
step_at m realm x g (Write ipa value size) outcome other its none = absurd (cc)
step_at m realm x g (Read ipa size) outcome other its none = (refl, refl)
step_at m realm x g (Fetch ipa) outcome other its none = (refl, refl)
step_at m realm x g SystemOff outcome other its none = system_off_at m x (granule_at m g).owner its
step_at m realm x g SystemReset outcome other its none = system_off_at m x (granule_at m g).owner its
step_at m realm x g step outcome other its none = by_exit_of m x g other m step (is_exit outcome) (refl, refl)

step_in_at : (m : Machine) (there : Option RmmRealm) (x g flags : ℕ) → x ≢ g → (granule_at m x).state ≡ Data → is_write (first_step m g) ≡ false → IsSameAt m (after_step_in m there g flags) x
step_in_at m (Some realm) x g flags other its none =
    let outcome : StepOutcome = step_outcome m realm g flags (first_step m g) in
    by_passed m x g other (after_step m realm g (first_step m g) outcome) outcome (step_at m realm x g (first_step m g) outcome other its none)
step_in_at m None x g flags other its none = (refl, refl)

first_step_at : (m : Machine) (x g flags : ℕ) → x ≢ g → (granule_at m x).state ≡ Data → is_write (first_step m g) ≡ false → IsSameAt m (after_first_step m g flags) x
unfolding after_first_step
first_step_at m x g flags other its none = cond_both ((rec_in m g).step_count == 0) m _ (λ (n : Machine). IsSameAt m n x) (λ no. (refl, refl)) (λ some. step_in_at m (owner_realm m g) x g flags other its none)

-- ---- the bytes

module _ (m : Machine) (g : ℕ) (run : IsProperRun m g) where
  pub not_rec : (x : ℕ) → (granule_at m x).state ≡ Data → x ≢ g
  not_rec x its same =
      let rec_is : (granule_at m g).state ≡ IsRec run.1 = run.2 in
      let states : (granule_at m x).state ≡ (granule_at m g).state = ap (λ (y : ℕ). (granule_at m y).state) same in
      cc

  abbrev KeepsIfPages : Machine → Type 0
  KeepsIfPages n = ((x : ℕ) → (granule_at m x).state ≡ Data → IsSameAt m n x) → KeepsContents m None n

  going_contents : (w : ℕ) (n : Machine) → IsGoing m w g n → KeepsIfPages n
  going_contents w n going pages =
      none_contents m n run.0 (record { linked = going.proper; ordered = going.ordered }) going.touches.settings going.touches.count going.lasts
      (going_locations m run.0 w g n going) pages

  pub entered_contents : (address flags : ℕ) → KeepsContents m None (after_entry m g address flags)
  entered_contents address flags = entry_then m g run KeepsIfPages going_contents address flags (λ x its. by_entry m x g (not_rec x its) address flags m (refl, refl))

  pub stepped_contents : (flags : ℕ) → is_write (first_step m g) ≡ false → KeepsContents m None (after_first_step m g flags)
  stepped_contents flags none = step_then m g run KeepsIfPages going_contents flags (λ x its. first_step_at m x g flags (not_rec x its) its none)

  pub left_contents : (exit : RecExit) (last : LastExit) → KeepsContents m None (after_exit m g exit last)
  left_contents exit last = exit_then m g run KeepsIfPages going_contents exit last (λ x its. exit_at m g x exit last (not_rec x its) (λ free. cc))
