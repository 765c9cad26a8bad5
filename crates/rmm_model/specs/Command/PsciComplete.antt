-- The command RMI_PSCI_COMPLETE: its checks, its answer and its effect.
use Rattle.std.specs.Prelude.{ℕ, ◌-◌, ◌^◌, ◌==◌, ◌&&◌, ◌||◌, Bool, true, false, not, Option, Some, None, List, [], ◌∷◌, ◌++◌, if◌then◌else◌}
use Rattle.rmm_model.specs.declared.condition.Condition.TheVariants.{Alias, CallingAlign, CallingBound, CallingState, TargetAlign, TargetBound, TargetState}
use Rattle.rmm_model.specs.declared.condition.Condition.TheVariants.{Pending, Owner, Target, Status}
use Rattle.rmm_model.specs.declared.granule.RmmGranuleState.TheVariants.{Rec as IsRec}
use Rattle.rmm_model.specs.declared.rec.PsciRequest.{PsciRequest}
use Rattle.rmm_model.specs.declared.rec.PsciRequest.TheVariants.{CpuOn, AffinityInfo, Complete}
use Rattle.rmm_model.specs.declared.rec.RmmRec.{RmmRec}
use Rattle.rmm_model.specs.Check.{Command, Check, check, success, error_input}
use Rattle.rmm_model.specs.Machine.{Machine, granule_at, number_of, with_granule, with_word}
use Rattle.rmm_model.specs.Rec.{is_on}
use Rattle.rmm_model.specs.Command.Operand.{rec_checks, rec_at}

-- ---- PSCI. Arm Power State Coordination Interface, return codes

-- the return code SUCCESS
abbrev pub psci_success : ℕ
psci_success = 0

-- the return code DENIED, which is -3
abbrev pub psci_denied : ℕ
psci_denied = 2 ^ 64 - 3

-- the return code ALREADY_ON, which is -4
abbrev pub psci_already_on : ℕ
psci_already_on = 2 ^ 64 - 4

-- the result of AFFINITY_INFO for a processor that is off
abbrev pub psci_off : ℕ
psci_off = 1

-- ---- requests

-- a PSCI request waits for the host to complete it
abbrev pub is_pending : PsciRequest → Bool
is_pending (CpuOn target entry_point context) = true
is_pending (AffinityInfo target) = true
is_pending _ = false

-- the MPIDR that a request names, or 0 if it names none
abbrev pub target_of : PsciRequest → ℕ
target_of (CpuOn target entry_point context) = target
target_of (AffinityInfo target) = target
target_of _ = 0

-- the host may deny a request
abbrev pub can_be_denied : PsciRequest → Bool
can_be_denied (CpuOn target entry_point context) = true
can_be_denied _ = false

-- the status is one with which the host may answer a request: SUCCESS, or DENIED if the request can be denied
abbrev pub is_status : PsciRequest → ℕ → Bool
is_status request status = status == psci_success || (status == psci_denied && can_be_denied request)

-- the PSCI result of a request, given the host's status and whether the request's target is on
abbrev pub psci_result : PsciRequest → Bool → ℕ → ℕ
psci_result (CpuOn target entry_point context) on status = if on then psci_already_on else status
psci_result _ on status = if on then psci_success else psci_off

-- two granules have the same owner, or neither has one
abbrev pub is_same_owner : Option ℕ → Option ℕ → Bool
is_same_owner (Some a) (Some b) = a == b
is_same_owner None None = true
is_same_owner _ _ = false

-- checks that a REC's pending request names the target REC, that both RECs belong to one realm, and that the status is
-- allowed
unfoldable pub request_checks : Machine → ℕ → RmmRec → ℕ → RmmRec → ℕ → List Check
request_checks m calling caller target named status =
    check Pending (CallingState ∷ []) (not (is_pending caller.psci)) error_input
    ∷ check Owner (CallingState ∷ TargetState ∷ []) (not (is_same_owner (granule_at m calling).owner (granule_at m target).owner)) error_input
    ∷ check Target (Pending ∷ TargetState ∷ []) (not (target_of caller.psci == named.mpidr)) error_input
    ∷ check Status (Pending ∷ []) (not (is_status caller.psci status)) error_input ∷ []

-- ---- the effect

-- the machine after the attributes of a REC are replaced
abbrev pub with_rec : Machine → ℕ → RmmRec → Machine
with_rec m granule rec = with_granule m granule (record (granule_at m granule) { state = IsRec rec })

-- the machine after a REC gets an entry point as its pc, and a context in X0
abbrev pub with_start : Machine → ℕ → ℕ → ℕ → Machine
with_start m granule entry_point context = with_word (with_word m granule 31 entry_point) granule 0 context

-- the machine after the effect of a request on its target: a CPU_ON that succeeds makes the target runnable at the
-- entry point
abbrev pub with_target : Machine → ℕ → RmmRec → PsciRequest → Bool → Machine
with_target m granule rec (CpuOn target entry_point context) true =
    with_start (with_rec m granule (record rec { is_runnable = true })) granule entry_point context
with_target m granule rec request begins = m

-- The host completes the PSCI request of a REC, with a result for the guest. A CPU_ON that succeeds makes its target
-- runnable. RMM 1.0, RMI_PSCI_COMPLETE.
unfoldable pub psci_complete : ℕ → ℕ → ℕ → Machine → Command
psci_complete calling target status m =
    let caller = rec_at m calling in
    let named = rec_at m target in
    let after = with_rec m (number_of m calling) (record caller { psci = Complete (psci_result caller.psci (is_on named) status) }) in
    record {
      checks = check Alias [] (calling == target) error_input ∷ rec_checks CallingAlign CallingBound CallingState m calling
          ++ rec_checks TargetAlign TargetBound TargetState m target
          ++ request_checks m (number_of m calling) caller (number_of m target) named status;
      answer = success;
      machine = with_target after (number_of m target) named caller.psci (not (is_on named) && status == psci_success);
    }
