-- The RIPAS of protected addresses, and the calls that change it. RMM 1.0, Realm IPA state.
use Rattle.std.specs.Prelude.{◌≡◌, ℕ, ◌+◌, ◌-◌, ◌*◌, ◌/◌, ◌<◌, ◌≤◌, ◌⊎◌, true, false, Option, Some, if◌then◌else◌}
use Rattle.rmi_abi.specs.declared.call.Call.{Call}
use Rattle.rmi_abi.specs.declared.call.Call.TheVariants.{DataCreate, DataDestroy, RttDestroy, RttInitRipas, RttSetRipas}
use Rattle.rmi_abi.specs.declared.rec_run.ExitReason.TheVariants.{Sync}
use Rattle.rmi_abi.specs.RecRun.{only_reason}
use Rattle.rmm_model.specs.declared.entry.RmmRipas.{RmmRipas}
use Rattle.rmm_model.specs.declared.entry.RmmRipas.TheVariants.{Ram, Destroyed}
use Rattle.rmm_model.specs.declared.granule.RmmGranuleState.TheVariants.{Rd}
use Rattle.rmm_model.specs.declared.realm.RmmRealm.{RmmRealm}
use Rattle.rmm_model.specs.declared.realm.RmmRealmState.TheVariants.{New}
use Rattle.rmm_model.specs.declared.rec.LastExit.TheVariants.{Other}
use Rattle.rmm_model.specs.declared.step.StepOutcome.{StepOutcome}
use Rattle.rmm_model.specs.declared.step.StepOutcome.TheVariants.{Result as IsResult, Exit as IsExit}
use Rattle.rmm_model.specs.declared.step.StepResult.TheVariants.{Sea}
use Rattle.rmm_model.specs.Entry.{entry_with_ripas, is_live, is_ram, ripas_in}
use Rattle.rmm_model.specs.Level.{entry_size}
use Rattle.rmm_model.specs.Machine.{Machine, granule_at, number_of}
use Rattle.rmm_model.specs.Realm.{is_protected}
use Rattle.rmm_model.specs.Step.{is_empty}
use Rattle.rmm_model.specs.Walk.{entry_at, walk}
use Rattle.rmm_model.specs.Command.Operand.{rec_at}
use Rattle.rmm_laws.specs.State.{IsRealmIn}

-- the RIPAS at an address of a realm: the RIPAS of the entry at which the walk of the address ends
abbrev pub ripas_at : Machine → RmmRealm → ℕ → RmmRipas
ripas_at m realm ipa = ripas_in (entry_at m (walk m realm ipa 3) ipa)

-- a protected address has RIPAS EMPTY or DESTROYED, or its walk ends at an entry that is not live
abbrev pub IsWithoutMemory : Machine → RmmRealm → ℕ → Type 0
IsWithoutMemory m realm ipa =
    (is_protected realm ipa ≡ true) × ((is_ram (ripas_at m realm ipa) ≡ false) ⊎ (is_live (entry_at m (walk m realm ipa 3) ipa) ≡ false))

-- The outcome of an access to an address without memory, for a given exception class. It is an SEA if RIPAS is EMPTY.
-- If not, an exit shows the host the page of the address, and nothing else.
abbrev pub outcome_without_memory : Machine → RmmRealm → ℕ → ℕ → StepOutcome
outcome_without_memory m realm class ipa =
    if is_empty (ripas_at m realm ipa) then IsResult Sea else
    IsExit (record (only_reason Sync) { esr = class + 4 + (walk m realm ipa 3).level; hpfar = ipa / 4096 * 16 }) Other

-- an address is at or above a base and below a top
abbrev pub IsBetween : ℕ → ℕ → ℕ → Type 0
IsBetween base top ipa = (base ≤ ipa) × (ipa < top)

-- A call may change the RIPAS of an IPA in the given realm from one given value to another. RTT_INIT_RIPAS and
-- DATA_CREATE of a NEW realm make it RAM. DATA_DESTROY makes RAM DESTROYED, and RTT_DESTROY makes any RIPAS DESTROYED.
-- RTT_SET_RIPAS gives the RIPAS that a REC of the realm asks for, within the range that it asks for. It replaces
-- DESTROYED only if the REC asks for that too.
abbrev pub IsRipasGiven : Machine → Option Call → ℕ → ℕ → RmmRipas → RmmRipas → Type 0
IsRipasGiven m (Some (RttInitRipas of base top)) rd ipa old Ram = (rd ≡ number_of m of) × IsRealmIn m rd New × IsBetween base top ipa
IsRipasGiven m (Some (DataCreate of page at source flags)) rd ipa old Ram =
    (rd ≡ number_of m of) × IsRealmIn m rd New × IsBetween at (at + 4096) ipa
IsRipasGiven m (Some (DataDestroy of at)) rd ipa old Destroyed = (rd ≡ number_of m of) × IsBetween at (at + 4096) ipa × (old ≡ Ram)
IsRipasGiven m (Some (RttDestroy of at level)) rd ipa old Destroyed = (rd ≡ number_of m of) × IsBetween at (at + entry_size (level - 1)) ipa
IsRipasGiven m (Some (RttSetRipas of rec base top)) rd ipa old ripas =
    (rd ≡ number_of m of) × ((granule_at m (number_of m rec)).owner ≡ Some rd)
    × IsBetween (rec_at m rec).ripas.base (rec_at m rec).ripas.top ipa × (ripas ≡ (rec_at m rec).ripas.ripas)
    × (old ≡ Destroyed → (rec_at m rec).ripas.changes_destroyed ≡ true)
IsRipasGiven m call rd ipa old ripas = ⊥

-- In a realm that exists before and after a call, each protected IPA keeps its RIPAS, or has one to which the call may
-- change it.
abbrev pub KeepsRipas : Machine → Option Call → Machine → Type 0
KeepsRipas m call n =
    (rd ipa : ℕ) (before after : RmmRealm) → (granule_at m rd).state ≡ Rd before → (granule_at n rd).state ≡ Rd after → is_protected before ipa ≡ true
    → (ripas_at n after ipa ≡ ripas_at m before ipa) ⊎ IsRipasGiven m call rd ipa (ripas_at m before ipa) (ripas_at n after ipa)

-- In machine `n`, each protected IPA at or above `base` and below `stop` has RIPAS `ripas`. `stop` is above `base`. The
-- entry of such an IPA changes in RIPAS only, so it leads to the same page. Outside the range, the entries of protected
-- IPAs are unchanged. The walks of protected IPAs end where they did.
pub record IsRipasSet (m n : Machine) (realm : RmmRealm) (ripas : RmmRipas) (base stop : ℕ) : Type 0 where
  pub further : base < stop
  pub walks : (ipa : ℕ) → is_protected realm ipa ≡ true → walk n realm ipa 3 ≡ walk m realm ipa 3
  pub set : (ipa : ℕ) → IsBetween base stop ipa → is_protected realm ipa ≡ true → ripas_at n realm ipa ≡ ripas
  pub kept : (ipa : ℕ) → IsBetween base stop ipa → is_protected realm ipa ≡ true → entry_at n (walk n realm ipa 3) ipa ≡ entry_with_ripas ripas (entry_at m (walk m realm ipa 3) ipa)
  pub beside : (ipa : ℕ) → (IsBetween base stop ipa → ⊥) → is_protected realm ipa ≡ true → entry_at n (walk n realm ipa 3) ipa ≡ entry_at m (walk m realm ipa 3) ipa
