-- The command RMI_REC_ENTER: its checks, its answer and its effect, with the steps of the guest's program and the
-- host's interrupts.
use Rattle.std.specs.Prelude.{ℕ, zero, suc, ◌+◌, ◌-◌, ◌==◌, ◌&&◌, Bool, true, false, not, List, [], ◌∷◌, ◌++◌, Option, Some, None, if◌then◌else◌}
use Rattle.page_arena.specs.Word.{word_of_page}
use Rattle.rmi_abi.specs.declared.rec_run.ExitReason.{ExitReason}
use Rattle.rmi_abi.specs.declared.rec_run.ExitReason.TheVariants.{Sync, Irq}
use Rattle.rmi_abi.specs.declared.rec_run.RecExit.{RecExit}
use Rattle.rmi_abi.specs.declared.registers.SmcResult.{SmcResult}
use Rattle.rmi_abi.specs.declared.settings.RmmSettings.{RmmSettings}
use Rattle.rmi_abi.specs.declared.word.Word.{Word}
use Rattle.rmi_abi.specs.declared.word.Word.TheVariants.{Success, ErrorInput, ErrorRealm, Running as RunsOn}
use Rattle.rmi_abi.specs.Answer.{only}
use Rattle.rmi_abi.specs.Gic.{gicv3_hcr_in, is_gicv3_hcr, is_gicv3_lr}
use Rattle.rmi_abi.specs.RecRun.{flags_in, entry_gpr_in, emulates_mmio, injects_sea, rejects_ripas, exit_word, only_reason}
use Rattle.rmm_model.specs.declared.condition.Condition.TheVariants.{RunAlign, RunBound, RunPas, RecAlign, RecBound, RecGranState, RealmNew, SystemOff, RecState, RecRunnable, RecMmio, RecGicv3, RecPsci}
use Rattle.rmm_model.specs.declared.granule.RmmGranuleState.TheVariants.{Rd}
use Rattle.rmm_model.specs.declared.realm.RmmRealm.{RmmRealm}
use Rattle.rmm_model.specs.declared.realm.RmmRealmState.{RmmRealmState}
use Rattle.rmm_model.specs.declared.realm.RmmRealmState.TheVariants.{New, SystemOff as IsSystemOff}
use Rattle.rmm_model.specs.declared.rec.LastExit.{LastExit}
use Rattle.rmm_model.specs.declared.rec.LastExit.TheVariants.{Other, HostCall, RipasChange, EmulatableAbort, UnprotectedAbort, SystemRegister}
use Rattle.rmm_model.specs.declared.rec.PsciRequest.{PsciRequest}
use Rattle.rmm_model.specs.declared.rec.PsciRequest.TheVariants.{None as NoRequest, Complete}
use Rattle.rmm_model.specs.declared.rec.RmmRec.{RmmRec as Attributes}
use Rattle.rmm_model.specs.declared.rec.RmmRecState.TheVariants.{Ready, Running}
use Rattle.rmm_model.specs.declared.rec.RipasRequest.{RipasRequest}
use Rattle.rmm_model.specs.declared.step.StepOutcome.{StepOutcome}
use Rattle.rmm_model.specs.declared.step.StepOutcome.TheVariants.{Result as IsResult, Exit as IsExit, Spin as Spins}
use Rattle.rmm_model.specs.declared.step.GuestStep.{GuestStep}
use Rattle.rmm_model.specs.declared.step.GuestStep.TheVariants.{Write, Read, Fetch, SystemOff as SystemOffStep, SystemReset}
use Rattle.rmm_model.specs.declared.step.StepResult.{StepResult}
use Rattle.rmm_model.specs.declared.step.StepResult.TheVariants.{Done, Read as IsRead, Sea, Psci, Accepted, Rejected, Returned}
use Rattle.rmm_model.specs.Access.{low_bytes}
use Rattle.rmm_model.specs.Check.{Command, Check, check, success, error_realm, error_rec}
use Rattle.rmm_model.specs.Granule.{of_no_realm, realm_of}
use Rattle.rmm_model.specs.Guest.{rec_in, is_rec_named, first_step, past_step, with_result}
use Rattle.rmm_model.specs.Host.{is_host_page}
use Rattle.rmm_model.specs.Machine.{Machine, granule_at, page_in, number_of, with_granule, with_page}
use Rattle.rmm_model.specs.Realm.{is_new}
use Rattle.rmm_model.specs.Rec.{is_running, no_request}
use Rattle.rmm_model.specs.Entry.{is_ram}
use Rattle.rmm_model.specs.Table.{with_words_from}
use Rattle.rmm_model.specs.Step.{access, fetched, tried, read_outcome, after_write, call_outcome, is_exit, rec_after_exit}
use Rattle.rmm_model.specs.Command.Operand.{host_checks, rec_checks, rec_at}
use Rattle.rmm_model.specs.Command.PsciComplete.{is_pending, with_rec}
use Rattle.rmm_model.specs.Command.RecCreate.{all_from}

-- ---- realms of RECs

-- the realm with the given RD, if any
abbrev pub realm_by : Machine → Option ℕ → Option RmmRealm
realm_by m (Some rd) = realm_of (granule_at m rd).state
realm_by m None = None

-- the realm that owns a granule, if any
abbrev pub owner_realm : Machine → ℕ → Option RmmRealm
owner_realm m g = realm_by m (granule_at m g).owner

-- the state of a realm; NEW if there is no realm
abbrev pub state_of : Option RmmRealm → RmmRealmState
state_of (Some realm) = realm.state
state_of None = New

abbrev pub is_system_off : RmmRealmState → Bool
is_system_off IsSystemOff = true
is_system_off _ = false

abbrev pub with_realm_off : Machine → ℕ → Option RmmRealm → Machine
with_realm_off m rd (Some realm) = with_granule m rd (of_no_realm (Rd (record realm { state = IsSystemOff })))
with_realm_off m rd None = m

-- the machine after the realm with the given RD, if any, becomes SYSTEM_OFF
abbrev pub with_system_off : Machine → Option ℕ → Machine
with_system_off m (Some rd) = with_realm_off m rd (realm_of (granule_at m rd).state)
with_system_off m None = m

abbrev pub is_emulatable : LastExit → Bool
is_emulatable EmulatableAbort = true
is_emulatable _ = false

-- ---- registers that are kept in pages

-- the machine after `count` words are copied from one granule to another. The source begins at word `first`, the target
-- at word `place`.
unfoldable pub with_copied : Machine → ℕ → ℕ → ℕ → ℕ → ℕ → Machine
with_copied m from first to place count =
    with_page m to (with_words_from place count (λ i. word_of_page (page_in m from) (first + (i - place))) (page_in m to))

-- the machine after a REC gets general-purpose registers 0 to 30 from the run page of RMI_REC_ENTER. RMM 1.0,
-- RmiRecEnter.gprs.
abbrev pub with_gprs : Machine → ℕ → ℕ → Machine
with_gprs m g page = with_copied m page 64 g 0 31

-- the machine after the GIC fields of a run page are copied to a REC, if the settings enable GIC checks. RMM 1.0,
-- RmiRecEnter.gicv3_hcr, gicv3_lrs.
unfoldable pub with_gic : Machine → ℕ → ℕ → Machine
with_gic m g page = if m.settings.checks_gic then with_copied m page 96 g 192 17 else m

-- the machine after the GIC fields of a REC are copied to a run page, if the settings enable GIC checks. RMM 1.0,
-- RmiRecExit.gicv3_hcr, gicv3_lrs.
unfoldable pub with_exit_gic : Machine → ℕ → ℕ → Machine
with_exit_gic m g page = if m.settings.checks_gic then with_copied m g 192 page 352 17 else m

-- ---- exits

-- the machine after the fields of an exit are written to the upper half of a run page
unfoldable pub with_exit_words : Machine → ℕ → RecExit → Machine
with_exit_words m page exit = with_page m page (with_words_from 256 256 (exit_word exit) (page_in m page))

-- the machine after a REC's exit is written to the run page at an address, if that page is the host's
abbrev pub with_exit : Machine → ℕ → ℕ → RecExit → Machine
with_exit m g address exit =
    if is_host_page m address then with_exit_gic (with_exit_words m (number_of m address) exit) g (number_of m address) else m

-- The machine after a REC exits: the REC is READY, and its run page has the exit if that page is the host's. RMM 1.0,
-- RmiRecExit.
unfoldable pub after_exit : Machine → ℕ → RecExit → LastExit → Machine
after_exit m g exit last =
    let rec = rec_in m g in
    with_exit (with_rec m g (record rec { state = Ready; exit = last })) g rec.run exit

-- ---- entries

-- the result of a RIPAS change: the address that the change reached, and whether the host rejected the rest
abbrev pub ripas_result : RipasRequest → ℕ → StepResult
ripas_result asked flags =
    if rejects_ripas flags && is_ram asked.ripas && not (asked.base == asked.top) then Rejected asked.base else Accepted asked.base

-- the result of an access that the host emulated
abbrev pub emulated : GuestStep → ℕ → StepResult
emulated (Read ipa size) gpr0 = IsRead (low_bytes size gpr0)
emulated _ gpr0 = Done

-- the machine after the guest's step that caused the last exit gets the given result, and the guest goes on to its next
-- step
abbrev pub with_step_ended : Machine → ℕ → StepResult → Machine
with_step_ended m g r = with_result (past_step m g) g r

abbrev pub with_psci_result : Machine → ℕ → PsciRequest → Machine
with_psci_result m g (Complete value) = with_result (with_rec m g (record (rec_in m g) { psci = NoRequest })) g (Psci value)
with_psci_result m g _ = m

-- The machine after a guest gets the host's answer to the guest's last exit. RMM 1.0, RmiRecEnter.
abbrev pub with_host_answer : Machine → ℕ → LastExit → ℕ → ℕ → Machine
with_host_answer m g RipasChange page flags =
    with_result (with_rec m g (record (rec_in m g) { ripas = no_request })) g (ripas_result (rec_in m g).ripas flags)
with_host_answer m g HostCall page flags = with_result (with_gprs m g page) g (Returned (entry_gpr_in (page_in m page) 0))
with_host_answer m g SystemRegister page flags = with_result m g Done
with_host_answer m g UnprotectedAbort page flags = if injects_sea flags then with_step_ended m g Sea else m
with_host_answer m g EmulatableAbort page flags =
    if injects_sea flags then with_step_ended m g Sea else
    (if emulates_mmio flags then with_step_ended m g (emulated (first_step m g) (entry_gpr_in (page_in m page) 0)) else m)
with_host_answer m g Other page flags = with_psci_result m g (rec_in m g).psci

-- the attributes of a REC after it is entered, with its run page at the given address
abbrev pub running_at : Attributes → ℕ → Attributes
running_at rec address = record rec { state = Running; run = address; exit = Other; result_count = 0 }

-- The machine after a REC is entered and its guest gets the host's answer to the last exit.
unfoldable pub after_entry : Machine → ℕ → ℕ → ℕ → Machine
after_entry m g address flags =
    let page = number_of m address in
    with_host_answer (with_gic (with_rec m g (running_at (rec_in m g) address)) g page) g (rec_in m g).exit page flags

-- ---- steps

-- the outcome of a guest's step: a result, an exit, or a guest that spins until it is interrupted
unfoldable pub step_outcome : Machine → RmmRealm → ℕ → ℕ → GuestStep → StepOutcome
step_outcome m realm g flags (Write ipa value size) = tried (access m realm ipa true size (low_bytes size value))
step_outcome m realm g flags (Read ipa size) = read_outcome m ipa size (access m realm ipa false size 0)
step_outcome m realm g flags (Fetch ipa) = tried (fetched m realm ipa)
step_outcome m realm g flags step = call_outcome m.settings realm (rec_in m g) flags step

abbrev pub with_exit_of : Machine → ℕ → GuestStep → Bool → Machine
with_exit_of m g step true = with_rec m g (rec_after_exit (rec_in m g) step)
with_exit_of m g step false = m

-- the machine after a guest's step takes effect, with the step still in the guest's ring of steps
unfoldable pub after_step : Machine → RmmRealm → ℕ → GuestStep → StepOutcome → Machine
after_step m realm g (Write ipa value size) outcome = after_write m ipa size value (access m realm ipa true size (low_bytes size value))
after_step m realm g (Read ipa size) outcome = m
after_step m realm g (Fetch ipa) outcome = m
after_step m realm g SystemOffStep outcome = with_system_off m (granule_at m g).owner
after_step m realm g SystemReset outcome = with_system_off m (granule_at m g).owner
after_step m realm g step outcome = with_exit_of m g step (is_exit outcome)

abbrev pub is_sync : ExitReason → Bool
is_sync Sync = true
is_sync _ = false

abbrev pub is_done : LastExit → Bool
is_done SystemRegister = true
is_done _ = false

-- the machine after a step of a guest's program: the step is removed unless it is to be tried again, and its result, if
-- any, is added. A step with a SYNC exit is tried again, unless it writes a system register.
abbrev pub with_step_passed : Machine → ℕ → StepOutcome → Machine
with_step_passed m g (IsResult r) = with_result (past_step m g) g r
with_step_passed m g (IsExit exit last) = if is_sync exit.reason && not (is_done last) then m else past_step m g
with_step_passed m g Spins = past_step m g

-- the outcome if a guest has no step to perform: an IRQ exit, as if by a timer of the host
abbrev pub no_step : StepOutcome
no_step = IsExit (only_reason Irq) Other

abbrev pub step_outcome_in : Machine → Option RmmRealm → ℕ → ℕ → StepOutcome
step_outcome_in m (Some realm) g flags = step_outcome m realm g flags (first_step m g)
step_outcome_in m None g flags = no_step

abbrev pub after_step_in : Machine → Option RmmRealm → ℕ → ℕ → Machine
after_step_in m (Some realm) g flags =
    with_step_passed (after_step m realm g (first_step m g) (step_outcome m realm g flags (first_step m g))) g (step_outcome m realm g flags (first_step m g))
after_step_in m None g flags = m

-- The outcome of the first step that is queued for a guest, or an IRQ exit if no step is queued.
unfoldable pub first_step_outcome : Machine → ℕ → ℕ → StepOutcome
first_step_outcome m g flags = if (rec_in m g).step_count == 0 then no_step else step_outcome_in m (owner_realm m g) g flags

unfoldable pub after_first_step : Machine → ℕ → ℕ → Machine
after_first_step m g flags = if (rec_in m g).step_count == 0 then m else after_step_in m (owner_realm m g) g flags

abbrev pub continued : StepOutcome → Machine → ℕ → Bool × Machine → Bool × Machine
continued (IsResult r) m g rest = rest
continued (IsExit exit last) m g rest = (true, after_exit m g exit last)
continued Spins m g rest = (false, m)

-- The machine after at most the given number of steps of a REC's guest, and `true` if the REC exits. The first step
-- that causes an exit or spins is the last. If there is none, an IRQ exit follows.
unfoldable pub after_steps : Machine → ℕ → ℕ → ℕ → Bool × Machine
after_steps m g flags zero = (true, after_exit m g (only_reason Irq) Other)
after_steps m g flags (suc count) = continued (first_step_outcome m g flags) (after_first_step m g flags) g (after_steps (after_first_step m g flags) g flags count)

-- ---- the command

-- the host sets EMUL_MMIO, but the last exit was not an emulatable abort
abbrev pub is_no_mmio : Attributes → ℕ → Bool
is_no_mmio rec flags = emulates_mmio flags && not (is_emulatable rec.exit)

-- the settings enable GIC checks, and gicv3_hcr or a list register of a run page is invalid
unfoldable pub is_gic_wrong : RmmSettings → List ℕ → Bool
is_gic_wrong s page = s.checks_gic && not (is_gicv3_hcr (gicv3_hcr_in page) && all_from (is_gicv3_lr s.lrs page) 0 16)

-- checks that a realm is ACTIVE and its REC is READY, runnable and without a pending PSCI request. EMUL_MMIO and
-- the GIC fields are checked too.
unfoldable pub enter_checks : RmmRealmState → Attributes → ℕ → Bool → List Check
enter_checks state rec flags is_wrong =
    check RealmNew (RecGranState ∷ []) (is_new state) error_realm
    ∷ check SystemOff (RecGranState ∷ []) (is_system_off state) (only (ErrorRealm 1))
    ∷ check RecState (RecGranState ∷ []) (is_running rec.state) error_rec
    ∷ check RecRunnable (RecState ∷ []) (not rec.is_runnable) error_rec
    ∷ check RecMmio (RecState ∷ RunPas ∷ []) (is_no_mmio rec flags) error_rec
    ∷ check RecGicv3 (RecState ∷ RunPas ∷ []) is_wrong error_rec
    ∷ check RecPsci (RecState ∷ []) (is_pending rec.psci) error_rec ∷ []

-- the answer to an RMI_REC_ENTER: it is RMI_SUCCESS once the REC has exited, and until then the call goes on
abbrev pub entered_answer : Bool → SmcResult
entered_answer leaves = if leaves then success else only RunsOn

-- A REC runs until its guest causes an exit or spins; if the guest's steps end before that, an IRQ exit follows. RMM
-- 1.0, RMI_REC_ENTER.
unfoldable pub rec_enter : ℕ → ℕ → Machine → Command
rec_enter rec address m =
    let g = number_of m rec in
    let flags = flags_in (page_in m (number_of m address)) in
    let after = after_steps (after_entry m g address flags) g flags 16 in
    record {
      checks = host_checks RunAlign RunBound RunPas m address ++ rec_checks RecAlign RecBound RecGranState m rec
          ++ enter_checks (state_of (owner_realm m g)) (rec_at m rec) flags (is_gic_wrong m.settings (page_in m (number_of m address)));
      answer = entered_answer after.0;
      machine = after.1;
    }

-- ---- interrupts

-- there is a REC at the address, and it is RUNNING
abbrev pub runs_at : Machine → ℕ → Bool
runs_at m address = is_rec_named m address && is_running (rec_at m address).state

-- If the REC at the given address is RUNNING, an interrupt for the host makes the REC exit; otherwise nothing changes,
-- and there is no answer. The answer is RMI_ERROR_INPUT if the REC's run page is no longer the host's.
unfoldable pub interrupted : Machine → ℕ → Option Word × Machine
interrupted m address =
    if runs_at m address then
    (Some (if is_host_page m (rec_in m (number_of m address)).run then Success else ErrorInput), after_exit m (number_of m address) (only_reason Irq) Other)
    else (None, m)
