-- Proofs that a REC is RUNNING from its entry until its exit.
use Rattle.std.proofs.Common.{◌≡◌, ◌≢◌, ℕ, zero, suc, ◌+◌, ◌-◌, ◌*◌, ◌%◌, ◌<◌, ◌==◌, Bool, true, false, length, Option, Some, None, Result, Ok, Err, unwrap_or, refl, ap, ◌∙◌}
use Rattle.std.specs.Prelude.{if◌then◌else◌}
use Rattle.std.proofs.lemmas.Bool.{cond_both}
use Rattle.rmi_abi.specs.declared.rec_run.RecExit.{RecExit}
use Rattle.rmi_abi.specs.declared.rec_run.ExitReason.TheVariants.{Irq}
use Rattle.rmi_abi.specs.RecRun.{flags_in, entry_gpr_in, injects_sea, emulates_mmio, only_reason}
use Rattle.rmm_model.specs.declared.access.AccessSize.{AccessSize}
use Rattle.rmm_model.specs.declared.access.AccessSize.TheVariants.{Byte, Halfword, Word, Doubleword}
use Rattle.rmm_model.specs.declared.granule.RmmGranule.{RmmGranule}
use Rattle.rmm_model.specs.declared.granule.RmmGranuleState.{RmmGranuleState}
use Rattle.rmm_model.specs.declared.granule.RmmGranuleState.TheVariants.{Rec as IsRec}
use Rattle.rmm_model.specs.declared.realm.RmmRealm.{RmmRealm}
use Rattle.rmm_model.specs.declared.rec.LastExit.{LastExit}
use Rattle.rmm_model.specs.declared.rec.LastExit.TheVariants.{Other, HostCall, RipasChange, EmulatableAbort, UnprotectedAbort, SystemRegister}
use Rattle.rmm_model.specs.declared.rec.PsciRequest.{PsciRequest}
use Rattle.rmm_model.specs.declared.rec.PsciRequest.TheVariants.{None as NoRequest, Complete}
use Rattle.rmm_model.specs.declared.rec.RmmRec.{RmmRec}
use Rattle.rmm_model.specs.declared.rec.RmmRecState.TheVariants.{Ready}
use Rattle.rmm_model.specs.declared.step.GuestStep.{GuestStep}
use Rattle.rmm_model.specs.declared.step.GuestStep.TheVariants.{Write, Read, Fetch, SetRipas, CpuOn, AffinityInfo, CpuOff, CpuSuspend, SystemOff, SystemReset}
use Rattle.rmm_model.specs.declared.step.StepOutcome.{StepOutcome}
use Rattle.rmm_model.specs.declared.step.StepOutcome.TheVariants.{Result as IsResult, Exit as IsExit, Spin as Spins}
use Rattle.rmm_model.specs.declared.step.StepResult.{StepResult}
use Rattle.rmm_model.specs.declared.step.StepResult.TheVariants.{Done, Sea, Psci, Returned}
use Rattle.rmm_model.specs.Access.{low_bytes, with_two_bytes, with_four_bytes, with_value}
use Rattle.rmm_model.specs.Granule.{realm_of, rec_of}
use Rattle.rmm_model.specs.Guest.{rec_in, first_step, past_step, result_code, result_value, with_result}
use Rattle.rmm_model.specs.Host.{is_host_page}
use Rattle.rmm_model.specs.Machine.{Machine, granule_at, page_in, number_of, state_at, with_word}
use Rattle.rmm_model.specs.Rec.{no_rec, no_request, is_running}
use Rattle.rmm_model.specs.Step.{access, after_write, is_exit, rec_after_exit}
use Rattle.rmm_model.specs.Command.PsciComplete.{with_rec}
use Rattle.rmm_model.specs.Command.RecEnter.{rec_enter, owner_realm, with_realm_off, with_system_off, with_copied, with_gprs, with_gic, with_exit_gic, with_exit_words, after_exit, with_step_ended, with_psci_result, ripas_result, emulated, with_host_answer, running_at, after_entry, step_outcome, with_exit_of, after_step, with_step_passed, after_step_in, after_first_step, first_step_outcome, continued, after_steps}
use Rattle.rmm_laws.proofs.Passed.{Passed, realm_of-is, rec_of-some}
use Rattle.rmm_laws.proofs.Writes.{granule_at-same, granule_at-other, taken_inside}

-- a granule is a REC that runs
abbrev pub Runs : Machine → ℕ → Type 0
Runs m g = (rec : RmmRec) × ((granule_at m g).state ≡ IsRec rec) × (is_running rec.state ≡ true)

runs_inside : (m : Machine) (g : ℕ) → Runs m g → g < length m.granules
runs_inside m g run = let is = run.1 in taken_inside m g (λ free. cc)

-- the attributes of a REC that runs have the state RUNNING
pub runs_in : (m : Machine) (g : ℕ) → Runs m g → is_running (rec_in m g).state ≡ true
runs_in m g run = ap (λ (s : RmmGranuleState). is_running (unwrap_or (rec_of s) no_rec).state) run.1 ∙ run.2

runs_rec : (m : Machine) (g : ℕ) (rec : RmmRec) → g < length m.granules → is_running rec.state ≡ true → Runs (with_rec m g rec) g
runs_rec m g rec inside sure = (rec, ap (λ (r : RmmGranule). r.state) (granule_at-same m g (record (granule_at m g) { state = IsRec rec }) inside), sure)

-- ---- entries

runs_result : (m : Machine) (g : ℕ) (r : StepResult) → Runs m g → Runs (with_result m g r) g
unfolding with_result
runs_result m g r run =
    let rec : RmmRec = rec_in m g in
    let place : ℕ = rec.result_count % 32 in
    let a : Machine = with_word m g (128 + 2 * place) (result_code r) in
    let b : Machine = with_word a g (128 + 2 * place + 1) (result_value r) in
    runs_rec b g (record rec { result_count = (place + 1) % 32 }) (runs_inside m g run) (runs_in m g run)

runs_past : (m : Machine) (g : ℕ) → Runs m g → Runs (past_step m g) g
unfolding past_step
runs_past m g run =
    let rec : RmmRec = rec_in m g in
    runs_rec m g (record rec { first_step = (rec.first_step % 16 + 1) % 16; step_count = rec.step_count - 1 }) (runs_inside m g run) (runs_in m g run)

runs_ended : (m : Machine) (g : ℕ) (r : StepResult) → Runs m g → Runs (with_step_ended m g r) g
runs_ended m g r run = runs_result (past_step m g) g r (runs_past m g run)

runs_psci : (m : Machine) (g : ℕ) (request : PsciRequest) → Runs m g → Runs (with_psci_result m g request) g
runs_psci m g (Complete value) run =
    let rec : RmmRec = record (rec_in m g) { psci = NoRequest } in
    runs_result (with_rec m g rec) g (Psci value) (runs_rec m g rec (runs_inside m g run) (runs_in m g run))
runs_psci m g _ run = run

runs_gprs : (m : Machine) (g page : ℕ) → Runs m g → Runs (with_gprs m g page) g
unfolding with_copied
runs_gprs m g page run = run

runs_gic : (m : Machine) (g page : ℕ) → Runs m g → Runs (with_gic m g page) g
unfolding with_gic with_copied
runs_gic m g page run = cond_both m.settings.checks_gic _ m (λ (n : Machine). Runs n g) (λ sure. run) (λ never. run)

runs_answer : (m : Machine) (g page flags : ℕ) (last : LastExit) → Runs m g → Runs (with_host_answer m g last page flags) g
runs_answer m g page flags RipasChange run =
    let rec : RmmRec = record (rec_in m g) { ripas = no_request } in
    runs_result (with_rec m g rec) g (ripas_result (rec_in m g).ripas flags) (runs_rec m g rec (runs_inside m g run) (runs_in m g run))
runs_answer m g page flags HostCall run = runs_result (with_gprs m g page) g (Returned (entry_gpr_in (page_in m page) 0)) (runs_gprs m g page run)
runs_answer m g page flags SystemRegister run = runs_result m g Done run
runs_answer m g page flags UnprotectedAbort run = cond_both (injects_sea flags) (with_step_ended m g Sea) m (λ (n : Machine). Runs n g) (λ sure. runs_ended m g Sea run) (λ never. run)
runs_answer m g page flags EmulatableAbort run =
    let answer : StepResult = emulated (first_step m g) (entry_gpr_in (page_in m page) 0) in
    cond_both (injects_sea flags) (with_step_ended m g Sea) (if emulates_mmio flags then with_step_ended m g answer else m) (λ (n : Machine). Runs n g) (λ sure. runs_ended m g Sea run)
    (λ never. cond_both (emulates_mmio flags) (with_step_ended m g answer) m (λ (n : Machine). Runs n g) (λ also. runs_ended m g answer run) (λ neither. run))
runs_answer m g page flags Other run = runs_psci m g (rec_in m g).psci run

runs_entry : (m : Machine) (g address flags : ℕ) → g < length m.granules → Runs (after_entry m g address flags) g
unfolding after_entry
runs_entry m g address flags inside =
    let page : ℕ = number_of m address in
    let k : Machine = with_rec m g (running_at (rec_in m g) address) in
    runs_answer (with_gic k g page) g page flags (rec_in m g).exit (runs_gic k g page (runs_rec m g (running_at (rec_in m g) address) inside refl))

-- ---- steps

runs_value : (m : Machine) (g h ipa value : ℕ) (size : AccessSize) → Runs m g → Runs (with_value m h size ipa value) g
unfolding with_value with_two_bytes with_four_bytes
runs_value m g h ipa value Byte run = run
runs_value m g h ipa value Halfword run = run
runs_value m g h ipa value Word run = run
runs_value m g h ipa value Doubleword run = run

runs_write : (m : Machine) (g ipa value : ℕ) (size : AccessSize) (came : Result ℕ StepOutcome) → Runs m g → Runs (after_write m ipa size value came) g
runs_write m g ipa value size (Ok h) run = runs_value m g h ipa value size run
runs_write m g ipa value size (Err outcome) run = run

runs_off_at : (m : Machine) (g rd : ℕ) (there : Option RmmRealm) → realm_of (granule_at m rd).state ≡ there → Runs m g → Runs (with_realm_off m rd there) g
runs_off_at m g rd (Some realm) is run =
    let rd_is = realm_of-is (granule_at m rd).state realm is in
    let rec_is = run.1 in
    let apart : g ≢ rd = λ same. (let states : (granule_at m g).state ≡ (granule_at m rd).state = ap (λ (x : ℕ). (granule_at m x).state) same in cc) in
    (run.0, ap (λ (r : RmmGranule). r.state) (granule_at-other m rd g _ apart) ∙ run.1, run.2)
runs_off_at m g rd None is run = run

runs_off : (m : Machine) (g : ℕ) (owner : Option ℕ) → Runs m g → Runs (with_system_off m owner) g
runs_off m g (Some rd) run = runs_off_at m g rd (realm_of (granule_at m rd).state) refl run
runs_off m g None run = run

state_after : (rec : RmmRec) (step : GuestStep) → (rec_after_exit rec step).state ≡ rec.state
state_after rec (SetRipas base top ripas more) = refl
state_after rec (CpuOn target entry_point context) = refl
state_after rec (AffinityInfo target level) = refl
state_after rec CpuOff = refl
state_after rec CpuSuspend = refl
state_after rec _ = refl

runs_exit_of : (m : Machine) (g : ℕ) (step : GuestStep) (exits : Bool) → Runs m g → Runs (with_exit_of m g step exits) g
runs_exit_of m g step true run = runs_rec m g (rec_after_exit (rec_in m g) step) (runs_inside m g run) (ap is_running (state_after (rec_in m g) step) ∙ runs_in m g run)
runs_exit_of m g step false run = run

runs_step : (m : Machine) (realm : RmmRealm) (g : ℕ) (step : GuestStep) (outcome : StepOutcome) → Runs m g → Runs (after_step m realm g step outcome) g
unfolding after_step
runs_step m realm g (Write ipa value size) outcome run = runs_write m g ipa value size (access m realm ipa true size (low_bytes size value)) run
runs_step m realm g (Read ipa size) outcome run = run
runs_step m realm g (Fetch ipa) outcome run = run
runs_step m realm g SystemOff outcome run = runs_off m g (granule_at m g).owner run
runs_step m realm g SystemReset outcome run = runs_off m g (granule_at m g).owner run
runs_step m realm g step outcome run = runs_exit_of m g step (is_exit outcome) run

runs_passed : (m : Machine) (g : ℕ) (outcome : StepOutcome) → Runs m g → Runs (with_step_passed m g outcome) g
runs_passed m g (IsResult r) run = runs_ended m g r run
runs_passed m g (IsExit exit last) run = cond_both _ m _ (λ (n : Machine). Runs n g) (λ sure. run) (λ never. runs_past m g run)
runs_passed m g Spins run = runs_past m g run

runs_step_in : (m : Machine) (g flags : ℕ) (there : Option RmmRealm) → Runs m g → Runs (after_step_in m there g flags) g
runs_step_in m g flags (Some realm) run =
    runs_passed (after_step m realm g (first_step m g) (step_outcome m realm g flags (first_step m g))) g (step_outcome m realm g flags (first_step m g))
    (runs_step m realm g (first_step m g) (step_outcome m realm g flags (first_step m g)) run)
runs_step_in m g flags None run = run

runs_first : (m : Machine) (g flags : ℕ) → Runs m g → Runs (after_first_step m g flags) g
unfolding after_first_step
runs_first m g flags run = cond_both ((rec_in m g).step_count == 0) m _ (λ (n : Machine). Runs n g) (λ none. run) (λ some. runs_step_in m g flags (owner_realm m g) run)

runs_continued : (m : Machine) (g : ℕ) (outcome : StepOutcome) (rest : Bool × Machine) → Runs m g → (rest.0 ≡ false → Runs rest.1 g) → (continued outcome m g rest).0 ≡ false → Runs (continued outcome m g rest).1 g
runs_continued m g (IsResult r) rest run more stays = more stays
runs_continued m g (IsExit exit last) rest run more stays = absurd (cc)
runs_continued m g Spins rest run more stays = run

runs_steps : (count g flags : ℕ) (m : Machine) → Runs m g → (after_steps m g flags count).0 ≡ false → Runs (after_steps m g flags count).1 g
unfolding after_steps
runs_steps zero g flags m run stays = absurd (cc)
runs_steps (suc count) g flags m run stays =
    let next = runs_first m g flags run in
    runs_continued (after_first_step m g flags) g (first_step_outcome m g flags) (after_steps (after_first_step m g flags) g flags count) next (λ more. runs_steps count g flags (after_first_step m g flags) next more) stays

-- ---- exits

-- a REC does not run
abbrev IsReady : Machine → ℕ → Type 0
IsReady m g = is_running (rec_in m g).state ≡ false

ready_exit : (m : Machine) (g : ℕ) (exit : RecExit) (last : LastExit) → g < length m.granules → IsReady (after_exit m g exit last) g
unfolding after_exit with_exit_gic with_copied with_exit_words
ready_exit m g exit last inside =
    let rec : RmmRec = record (rec_in m g) { state = Ready; exit = last } in
    let n : Machine = with_rec m g rec in
    let now : IsReady n g = ap (λ (r : RmmGranule). is_running (unwrap_or (rec_of r.state) no_rec).state) (granule_at-same m g (record (granule_at m g) { state = IsRec rec }) inside) in
    cond_both (is_host_page n (rec_in m g).run) _ n (λ (k : Machine). IsReady k g) (λ host. cond_both n.settings.checks_gic _ _ (λ (k : Machine). IsReady k g) (λ sure. now) (λ never. now)) (λ never. now)

left_continued : (m : Machine) (g : ℕ) (outcome : StepOutcome) (rest : Bool × Machine) → Runs m g → (rest.0 ≡ true → IsReady rest.1 g) → (continued outcome m g rest).0 ≡ true → IsReady (continued outcome m g rest).1 g
left_continued m g (IsResult r) rest run more leaves = more leaves
left_continued m g (IsExit exit last) rest run more leaves = ready_exit m g exit last (runs_inside m g run)
left_continued m g Spins rest run more leaves = absurd (cc)

left_steps : (count g flags : ℕ) (m : Machine) → Runs m g → (after_steps m g flags count).0 ≡ true → IsReady (after_steps m g flags count).1 g
unfolding after_steps
left_steps zero g flags m run leaves = ready_exit m g (only_reason Irq) Other (runs_inside m g run)
left_steps (suc count) g flags m run leaves =
    let next = runs_first m g flags run in
    left_continued (after_first_step m g flags) g (first_step_outcome m g flags) (after_steps (after_first_step m g flags) g flags count) next (λ more. left_steps count g flags (after_first_step m g flags) next more) leaves

-- ---- the command

pub entered_runs : (rec address : ℕ) (m : Machine) → Passed (rec_enter rec address m).checks
    → (after_steps (after_entry m (number_of m rec) address (flags_in (page_in m (number_of m address)))) (number_of m rec) (flags_in (page_in m (number_of m address))) 16).0 ≡ false
    → is_running (rec_in (rec_enter rec address m).machine (number_of m rec)).state ≡ true
unfolding rec_enter
entered_runs rec address m ok stays =
    let g : ℕ = number_of m rec in
    let flags : ℕ = flags_in (page_in m (number_of m address)) in
    let is = rec_of-some (state_at m rec) ok.1.1.1.1.1.0 in
    let inside : g < length m.granules = taken_inside m g (λ free. cc) in
    runs_in (rec_enter rec address m).machine g (runs_steps 16 g flags (after_entry m g address flags) (runs_entry m g address flags inside) stays)

pub entered_left : (rec address : ℕ) (m : Machine) → Passed (rec_enter rec address m).checks
    → (after_steps (after_entry m (number_of m rec) address (flags_in (page_in m (number_of m address)))) (number_of m rec) (flags_in (page_in m (number_of m address))) 16).0 ≡ true
    → is_running (rec_in (rec_enter rec address m).machine (number_of m rec)).state ≡ false
unfolding rec_enter
entered_left rec address m ok leaves =
    let g : ℕ = number_of m rec in
    let flags : ℕ = flags_in (page_in m (number_of m address)) in
    let is = rec_of-some (state_at m rec) ok.1.1.1.1.1.0 in
    let inside : g < length m.granules = taken_inside m g (λ free. cc) in
    left_steps 16 g flags (after_entry m g address flags) (runs_entry m g address flags inside) leaves
