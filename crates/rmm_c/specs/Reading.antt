-- The states of granules, realms and RECs as the C interface reports them. The numbers of states are this library's
-- own, but those of RmiRipas and RmiHashAlgorithm are from RMM 1.0.
use Rattle.std.specs.Prelude.{◌≡◌, ℕ, ◌+◌, ◌*◌, ◌%◌, ◌^◌, Bool, if◌then◌else◌, Option, is_some, unwrap_or, option_map, option_and_then}
use Rattle.rmi_abi.specs.declared.hash.HashAlgorithm.{HashAlgorithm}
use Rattle.rmi_abi.specs.declared.hash.HashAlgorithm.TheVariants.{Sha256, Sha512}
use Rattle.rmm_model.specs.declared.granule.RmmGranuleState.{RmmGranuleState}
use Rattle.rmm_model.specs.declared.granule.RmmGranuleState.TheVariants.{Undelegated, Delegated, Rd, Rec, RecAux, Data, Rtt}
use Rattle.rmm_model.specs.declared.realm.RmmRealm.{RmmRealm}
use Rattle.rmm_model.specs.declared.realm.RmmRealmState.{RmmRealmState}
use Rattle.rmm_model.specs.declared.realm.RmmRealmState.TheVariants.{New, Active, SystemOff}
use Rattle.rmm_model.specs.declared.rec.RmmRec.{RmmRec}
use Rattle.rmm_model.specs.declared.rec.RmmRecState.{RmmRecState}
use Rattle.rmm_model.specs.declared.rec.RmmRecState.TheVariants.{Ready, Running}
use Rattle.rmm_model.specs.Command.PsciComplete.{is_pending}
use Rattle.rmm_model.specs.Entry.{ripas_code}
use Rattle.rmm_model.specs.Granule.{realm_of, rec_of}
use Rattle.rmm_model.specs.Host.{state_shown}
use Rattle.rmm_model.specs.Machine.{Machine}
use Rattle.rmm_c.specs.declared.attributes.RealmAttributes.{RealmAttributes}
use Rattle.rmm_c.specs.declared.attributes.RecAttributes.{RecAttributes}

-- A reading function answers true exactly if there is a value to read. The new value is the one that was read, or the
-- old one if none was.
pub record Reports {A : Type 0} (read : Option A) (old : A) (answer : Bool) (new : A) : Type 0 where
  pub is_read : answer ≡ is_some read
  pub value : new ≡ unwrap_or read old

-- A function reads a value from the machine of a handle; a closed handle has nothing to read.
abbrev pub Reads : {A : Type 0} → (Machine → Option A) → Option Machine → A → Bool → A → Type 0
Reads read m old answer new = Reports (option_and_then read m) old answer new

-- ---- the numbers of states in the C interface. RMM 1.0, RmmGranuleState, RmmRealmState, RmmRecState

-- the number of a granule's state in the C interface
abbrev pub granule_state_code : RmmGranuleState → ℕ
granule_state_code Undelegated = 0
granule_state_code Delegated = 1
granule_state_code (Rd realm) = 2
granule_state_code (Rec rec) = 3
granule_state_code RecAux = 4
granule_state_code Data = 5
granule_state_code Rtt = 6

abbrev pub realm_state_code : RmmRealmState → ℕ
realm_state_code New = 0
realm_state_code Active = 1
realm_state_code SystemOff = 2

abbrev pub rec_state_code : RmmRecState → ℕ
rec_state_code Ready = 0
rec_state_code Running = 1

abbrev pub hash_code : HashAlgorithm → ℕ
hash_code Sha256 = 0
hash_code Sha512 = 1

-- a flag as a number, which is 1 if the flag is true and 0 if not
abbrev pub flag : Bool → ℕ
flag holds = if holds then 1 else 0

-- ---- granules, realms and RECs by address

-- the number of the state of the granule at an address, if there is such a granule
abbrev pub state_code_shown : ℕ → Machine → Option ℕ
state_code_shown address m = option_map granule_state_code (state_shown m address)

-- the attributes of a realm as a C struct, on a machine whose first granule is at `base`
abbrev pub realm_attributes : ℕ → RmmRealm → RealmAttributes
realm_attributes base realm = record {
  state = realm_state_code realm.state;
  hash_algo = hash_code realm.hash;
  s2sz = realm.s2sz;
  rtt_level_start = realm.start_level;
  rtt_num_start = realm.table_count;
  rtt_base = (base + 4096 * realm.first_table) % 2 ^ 64;
  vmid = realm.vmid;
  next_rec = realm.next_rec;
  rec_count = realm.rec_count;
  rim = realm.rim;
}

-- the attributes of the realm whose RD is at an address, if there is one
abbrev pub realm_shown : ℕ → Machine → Option RealmAttributes
realm_shown rd m = option_map (realm_attributes m.settings.base) (option_and_then realm_of (state_shown m rd))

abbrev pub rec_attributes : RmmRec → RecAttributes
rec_attributes rec = record {
  state = rec_state_code rec.state;
  mpidr = rec.mpidr;
  ripas_base = rec.ripas.base;
  ripas_top = rec.ripas.top;
  ripas_value = ripas_code rec.ripas.ripas;
  step_count = rec.step_count;
  result_count = rec.result_count;
  is_runnable = flag rec.is_runnable;
  is_psci_pending = flag (is_pending rec.psci);
}

-- the attributes of the REC at an address, if there is one
abbrev pub rec_shown : ℕ → Machine → Option RecAttributes
rec_shown rec m = option_map rec_attributes (option_and_then rec_of (state_shown m rec))
