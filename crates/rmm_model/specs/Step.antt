-- The outcome of a guest's step, and the changes that the step makes to memory and to the REC. RMM 1.0, Realm exits,
-- RSI_HOST_CALL, RSI_IPA_STATE_SET and PSCI; Arm Architecture Reference Manual, ESR_EL2.
use Rattle.std.specs.Prelude.{ℕ, ◌+◌, ◌-◌, ◌*◌, ◌/◌, ◌%◌, ◌^◌, ◌==◌, ◌&&◌, Bool, true, false, not, nat_lt, Option, Some, None, Result, Ok, Err, if◌then◌else◌}
use Rattle.rmi_abi.specs.declared.rec_run.ExitReason.TheVariants.{Sync, Psci as PsciExit, RipasChange as RipasExit, HostCall as HostExit}
use Rattle.rmi_abi.specs.declared.rec_run.RecExit.{RecExit}
use Rattle.rmi_abi.specs.declared.settings.RmmSettings.{RmmSettings}
use Rattle.rmi_abi.specs.Mpidr.{is_mpidr, rec_number}
use Rattle.rmi_abi.specs.RecRun.{traps_wfi, traps_wfe, only_reason}
use Rattle.rmm_model.specs.declared.access.AccessSize.{AccessSize}
use Rattle.rmm_model.specs.declared.entry.RmmRttEntry.{RmmRttEntry}
use Rattle.rmm_model.specs.declared.entry.RmmRttEntry.TheVariants.{Assigned}
use Rattle.rmm_model.specs.declared.entry.RmmRipas.{RmmRipas}
use Rattle.rmm_model.specs.declared.entry.RmmRipas.TheVariants.{Empty, Ram}
use Rattle.rmm_model.specs.declared.realm.RmmRealm.{RmmRealm}
use Rattle.rmm_model.specs.declared.rec.LastExit.TheVariants.{Other, HostCall as LastHostCall, RipasChange as LastRipasChange, EmulatableAbort, UnprotectedAbort, SystemRegister as LastSystemRegister}
use Rattle.rmm_model.specs.declared.rec.PsciRequest.TheVariants.{CpuOn as CpuOnRequest, AffinityInfo as AffinityInfoRequest, Complete}
use Rattle.rmm_model.specs.declared.rec.RmmRec.{RmmRec as Attributes}
use Rattle.rmm_model.specs.declared.step.StepOutcome.{StepOutcome}
use Rattle.rmm_model.specs.declared.step.StepOutcome.TheVariants.{Result as IsResult, Exit as IsExit, Spin as Spins}
use Rattle.rmm_model.specs.declared.step.GuestStep.{GuestStep}
use Rattle.rmm_model.specs.declared.step.GuestStep.TheVariants.{HostCall, SetRipas, CpuOn, AffinityInfo, CpuOff, CpuSuspend, SystemOff, SystemReset}
use Rattle.rmm_model.specs.declared.step.GuestStep.TheVariants.{Wfi, Wfe, SystemRegister}
use Rattle.rmm_model.specs.declared.step.StepResult.TheVariants.{Done, Read as IsRead, Sea, Psci, RsiErrorInput}
use Rattle.rmm_model.specs.Access.{syndrome, value_in, with_value}
use Rattle.rmm_model.specs.Entry.{descriptor_of, is_assigned_ns, is_ram, ripas_in}
use Rattle.rmm_model.specs.Host.{is_host_page}
use Rattle.rmm_model.specs.Level.{entry_size}
use Rattle.rmm_model.specs.Machine.{Machine, page_in, number_of}
use Rattle.rmm_model.specs.Realm.{is_in_space, is_protected}
use Rattle.rmm_model.specs.Walk.{entry_at, granule_named, walk}

-- ---- accesses to memory

-- the exit for an abort at an IPA, given ESR_EL2
abbrev pub abort : ℕ → ℕ → RecExit
abort esr ipa = record (only_reason Sync) { esr = esr; hpfar = ipa / 4096 * 16 }

-- the exit for an emulatable data abort at an IPA, given ESR_EL2 and the value that the guest writes
abbrev pub emulatable : ℕ → ℕ → ℕ → RecExit
emulatable esr ipa value = record (only_reason Sync) { esr = esr; far = ipa % 4096; hpfar = ipa / 4096 * 16; gpr0 = value }

abbrev pub is_empty : RmmRipas → Bool
is_empty Empty = true
is_empty _ = false

-- the entry is ASSIGNED with RIPAS RAM, so a guest can access its memory
abbrev pub is_memory : RmmRttEntry → Bool
is_memory (Assigned ripas address) = is_ram ripas
is_memory _ = false

-- the given granule, or a synchronous external abort if no granule is given
abbrev pub found_or_sea : Option ℕ → Result ℕ StepOutcome
found_or_sea (Some granule) = Ok granule
found_or_sea None = Err (IsResult Sea)

-- the granule of a protected IPA, or the outcome of a failed access, given the exception class
abbrev pub protected_access : Machine → ℕ → RmmRttEntry → ℕ → ℕ → Result ℕ StepOutcome
protected_access m class entry level ipa =
    if is_memory entry then found_or_sea (granule_named m (descriptor_of entry + ipa % entry_size level)) else
    Err (if is_empty (ripas_in entry) then IsResult Sea else IsExit (abort (class + 4 + level) ipa) Other)

-- the field S2AP of a descriptor permits a guest's access: a write if `writes` is true, and otherwise a read
abbrev pub may_access : ℕ → Bool → Bool
may_access desc writes = if writes then desc / 2 ^ 7 % 2 == 1 else desc / 2 ^ 6 % 2 == 1

-- the bit WnR of a data abort syndrome: set for a write
abbrev pub wnr : Bool → ℕ
wnr writes = if writes then 0x40 else 0

-- the bits of ESR_EL2 with SAS, WnR and the level, for a data abort that can be emulated
abbrev pub of_access : Bool → AccessSize → ℕ → ℕ
of_access writes size level = syndrome size + (wnr writes + level)

-- the granule at a physical address, or an abort if it is not the host's
abbrev pub host_access : Machine → ℕ → ℕ → Result ℕ StepOutcome
host_access m address ipa = if is_host_page m address then Ok (number_of m address) else Err (IsExit (abort 0x90000028 ipa) UnprotectedAbort)

-- the granule of an unprotected IPA, or the outcome of a failed access
abbrev pub unprotected_access : Machine → RmmRttEntry → ℕ → ℕ → Bool → AccessSize → ℕ → Result ℕ StepOutcome
unprotected_access m entry level ipa writes size value =
    if not (is_assigned_ns entry) then Err (IsExit (emulatable (0x91000004 + of_access writes size level) ipa value) EmulatableAbort) else
    (if may_access (descriptor_of entry) writes then host_access m (descriptor_of entry / 4096 * 4096 + ipa % entry_size level) ipa else
    Err (IsExit (emulatable (0x9100000C + of_access writes size level) ipa value) EmulatableAbort))

-- The granule that a guest accesses at an IPA, or the outcome of a failed access.
unfoldable pub access : Machine → RmmRealm → ℕ → Bool → AccessSize → ℕ → Result ℕ StepOutcome
access m realm ipa writes size value =
    let found = walk m realm ipa 3 in
    if not (is_in_space realm ipa) then Err (IsResult Sea) else
    (if is_protected realm ipa then protected_access m 0x90000000 (entry_at m found ipa) found.level ipa else
    unprotected_access m (entry_at m found ipa) found.level ipa writes size value)

-- the granule that a guest fetches an instruction from, or the outcome of a failed fetch
unfoldable pub fetched : Machine → RmmRealm → ℕ → Result ℕ StepOutcome
fetched m realm ipa =
    let found = walk m realm ipa 3 in
    if is_protected realm ipa then protected_access m 0x80000000 (entry_at m found ipa) found.level ipa else Err (IsResult Sea)

-- the outcome of an access that reads no value
abbrev pub tried : Result ℕ StepOutcome → StepOutcome
tried (Ok granule) = IsResult Done
tried (Err outcome) = outcome

-- the outcome of a read
abbrev pub read_outcome : Machine → ℕ → AccessSize → Result ℕ StepOutcome → StepOutcome
read_outcome m ipa size (Ok granule) = IsResult (IsRead (value_in (page_in m granule) size ipa))
read_outcome m ipa size (Err outcome) = outcome

-- the machine after a write, which changes nothing if the access failed
abbrev pub after_write : Machine → ℕ → AccessSize → ℕ → Result ℕ StepOutcome → Machine
after_write m ipa size value (Ok granule) = with_value m granule size ipa value
after_write m ipa size value (Err outcome) = m

-- ---- calls

-- the exit by RSI_HOST_CALL, with its immediate value and general-purpose registers 0 to 2
abbrev pub host_call : ℕ → ℕ → ℕ → ℕ → StepOutcome
host_call imm gpr0 gpr1 gpr2 = IsExit (record (only_reason HostExit) { gpr0 = gpr0; gpr1 = gpr1; gpr2 = gpr2; imm = imm % 2 ^ 16 }) LastHostCall

-- RSI_IPA_STATE_SET accepts its operands: a range of pages in the protected half, and the RIPAS EMPTY or RAM
abbrev pub is_ripas_range : RmmRealm → ℕ → ℕ → ℕ → Bool
is_ripas_range realm base top ripas =
    base % 4096 == 0 && top % 4096 == 0 && nat_lt base top && is_protected realm (top - 1) && nat_lt ripas 2

abbrev pub ripas_of : ℕ → RmmRipas
ripas_of code = if code == 1 then Ram else Empty

abbrev pub ripas_exit : ℕ → ℕ → ℕ → StepOutcome
ripas_exit base top ripas = IsExit (record (only_reason RipasExit) { ripas_base = base; ripas_top = top; ripas = ripas }) LastRipasChange

-- the second or third operand in a PSCI exit; 0 if the settings hide it
abbrev pub shown : RmmSettings → ℕ → ℕ
shown s operand = if s.shows_target_alone then 0 else operand

-- the exit of a PSCI call
abbrev pub psci_exit : RmmSettings → ℕ → ℕ → ℕ → ℕ → StepOutcome
psci_exit s function target b c =
    IsExit (record (only_reason PsciExit) { gpr0 = function; gpr1 = target; gpr2 = shown s b; gpr3 = shown s c }) Other

abbrev pub psci_gives : ℕ → StepOutcome
psci_gives value = IsResult (Psci value)

-- some REC of the realm was given the MPIDR
abbrev pub was_given : RmmRealm → ℕ → Bool
was_given realm mpidr = is_mpidr mpidr && nat_lt (rec_number mpidr) realm.next_rec

-- the outcome of PSCI_CPU_ON: an error if the RMM finds one, otherwise a PSCI exit
abbrev pub cpu_on : RmmSettings → RmmRealm → Attributes → ℕ → ℕ → ℕ → StepOutcome
cpu_on s realm rec target entry_point context =
    if not (is_protected realm entry_point) then psci_gives (2 ^ 64 - 9) else
    (if not (was_given realm target) then psci_gives (2 ^ 64 - 2) else
    (if target == rec.mpidr then psci_gives (2 ^ 64 - 4) else psci_exit s 0xC4000003 target entry_point context))

-- the outcome of PSCI_AFFINITY_INFO: a result if the RMM can decide it, otherwise a PSCI exit
abbrev pub affinity_info : RmmSettings → RmmRealm → Attributes → ℕ → ℕ → StepOutcome
affinity_info s realm rec target level =
    if not (level == 0 && was_given realm target) then psci_gives (2 ^ 64 - 2) else
    (if target == rec.mpidr then psci_gives 0 else psci_exit s 0xC4000004 target level 0)

-- the outcome of a WFI or WFE: an exit if it is trapped, otherwise the result `Done`
abbrev pub wait : Bool → ℕ → StepOutcome
wait traps esr = if traps then IsExit (record (only_reason Sync) { esr = esr }) Other else IsResult Done

-- the exit for a write to a system register
abbrev pub system_register : ℕ → ℕ → StepOutcome
system_register iss value = IsExit (record (only_reason Sync) { esr = 0x60000000 + iss % 2 ^ 25; gpr0 = value }) LastSystemRegister

-- The outcome of a guest's step that accesses no memory.
abbrev pub call_outcome : RmmSettings → RmmRealm → Attributes → ℕ → GuestStep → StepOutcome
call_outcome s realm rec flags (HostCall imm gpr0 gpr1 gpr2) = host_call imm gpr0 gpr1 gpr2
call_outcome s realm rec flags (SetRipas base top ripas more) = if is_ripas_range realm base top ripas then ripas_exit base top ripas else IsResult RsiErrorInput
call_outcome s realm rec flags (CpuOn target entry_point context) = cpu_on s realm rec target entry_point context
call_outcome s realm rec flags (AffinityInfo target level) = affinity_info s realm rec target level
call_outcome s realm rec flags CpuOff = psci_exit s 0x84000002 0 0 0
call_outcome s realm rec flags CpuSuspend = psci_exit s 0xC4000001 0 0 0
call_outcome s realm rec flags SystemOff = psci_exit s 0x84000008 0 0 0
call_outcome s realm rec flags SystemReset = psci_exit s 0x84000009 0 0 0
call_outcome s realm rec flags Wfi = wait (traps_wfi flags) 0x04000000
call_outcome s realm rec flags Wfe = wait (traps_wfe flags) 0x04000001
call_outcome s realm rec flags (SystemRegister iss value) = system_register iss value
call_outcome s realm rec flags _ = Spins

abbrev pub is_exit : StepOutcome → Bool
is_exit (IsExit exit last) = true
is_exit _ = false

-- the attributes of a REC after a step of its guest that causes an exit
abbrev pub rec_after_exit : Attributes → GuestStep → Attributes
rec_after_exit rec (SetRipas base top ripas more) = record rec { ripas = record { base = base; top = top; ripas = ripas_of ripas; changes_destroyed = more % 2 == 1 } }
rec_after_exit rec (CpuOn target entry_point context) = record rec { psci = CpuOnRequest target entry_point context }
rec_after_exit rec (AffinityInfo target level) = record rec { psci = AffinityInfoRequest target }
rec_after_exit rec CpuOff = record rec { is_runnable = false }
rec_after_exit rec CpuSuspend = record rec { psci = Complete 0 }
rec_after_exit rec _ = rec
