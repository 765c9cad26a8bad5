-- The command RMI_REALM_CREATE: its checks, its answer and its effect.
use Rattle.std.specs.Prelude.{ℕ, zero, suc, ◌+◌, ◌-◌, ◌*◌, ◌%◌, ◌^◌, ◌==◌, ◌&&◌, ◌||◌, Bool, true, not, nat_le, nat_lt, List, [], ◌∷◌, ◌++◌, if◌then◌else◌}
use Rattle.granule_addr.specs.Page.{zero_page}
use Rattle.rmi_abi.specs.declared.hash.HashAlgorithm.{HashAlgorithm}
use Rattle.rmi_abi.specs.declared.hash.HashAlgorithm.TheVariants.{Sha256, Sha512}
use Rattle.rmi_abi.specs.declared.realm_params.RealmParams.{RealmParams}
use Rattle.rmi_abi.specs.declared.settings.RmmSettings.{RmmSettings}
use Rattle.rmi_abi.specs.RealmParams.{realm_params_in}
use Rattle.rmm_model.specs.Measure.{initial}
use Rattle.rmm_model.specs.declared.condition.Condition.TheVariants.{ParamsAlign, ParamsBound, ParamsPas, ParamsValid, ParamsSupp, RttNumLevel, RttAlign, Alias, RdAlign, RdBound, RdState, RttState, VmidValid}
use Rattle.rmm_model.specs.declared.entry.RmmRttEntry.{RmmRttEntry}
use Rattle.rmm_model.specs.declared.entry.RmmRttEntry.TheVariants.{Unassigned, UnassignedNs}
use Rattle.rmm_model.specs.declared.entry.RmmRipas.TheVariants.{Empty}
use Rattle.rmm_model.specs.declared.granule.RmmGranuleState.TheVariants.{Rd, Rtt}
use Rattle.rmm_model.specs.declared.realm.RmmRealm.{RmmRealm}
use Rattle.rmm_model.specs.declared.realm.RmmRealmState.TheVariants.{New}
use Rattle.rmm_model.specs.Check.{Command, Check, check, success, error_input}
use Rattle.rmm_model.specs.Entry.{entry_word}
use Rattle.rmm_model.specs.Granule.{is_delegated, of_no_realm, of_realm}
use Rattle.rmm_model.specs.Level.{entry_size}
use Rattle.rmm_model.specs.Machine.{Machine, granule_count, granule_at, page_in, is_inside, number_of, with_granule, with_page, is_vmid_used, with_vmid}
use Rattle.rmm_model.specs.Realm.{is_protected, is_start}
use Rattle.rmm_model.specs.Table.{with_words}
use Rattle.rmm_model.specs.Command.Operand.{host_checks, delegated_checks}

-- ---- parameters

-- the realm parameters at an address
unfoldable pub params_at : Machine → ℕ → RealmParams
params_at m params = realm_params_in (page_in m (number_of m params))

-- the parameters of a realm ask for no more breakpoints and watchpoints than feature register 0 allows, and their
-- sve_vl is 0
abbrev pub fits_features : RmmSettings → RealmParams → Bool
fits_features s p = nat_le p.num_bps s.bps && nat_le p.num_wps s.wps && p.sve_vl == 0

-- The flags of the realm parameters are 0, and the RMM supports their IPA width. If the settings check parameters, the
-- breakpoints, the watchpoints and sve_vl fit feature register 0 too.
abbrev pub is_supported : RmmSettings → RealmParams → Bool
is_supported s p = p.flags == 0 && nat_le 32 p.s2sz && nat_le p.s2sz s.s2sz && (not s.checks_params || fits_features s p)

-- one of the starting tables begins at the given address
abbrev pub is_start_table : RealmParams → ℕ → Bool
is_start_table p rd = nat_le p.rtt_base rd && nat_lt (rd - p.rtt_base) (p.rtt_num_start * 4096) && (rd - p.rtt_base) % 4096 == 0

-- checks that realm parameters are valid and supported, and that the RD is not one of the starting tables
unfoldable pub params_checks : RmmSettings → RealmParams → ℕ → List Check
params_checks s p rd =
    check ParamsValid (ParamsPas ∷ []) (not (nat_le p.hash_algo 1)) error_input
    ∷ check ParamsSupp (ParamsPas ∷ []) (not (is_supported s p)) error_input
    ∷ check RttNumLevel (ParamsSupp ∷ []) (not (is_start p.s2sz p.rtt_level_start p.rtt_num_start)) error_input
    ∷ check RttAlign (RttNumLevel ∷ []) (not (p.rtt_base % (p.rtt_num_start * 4096) == 0)) error_input
    ∷ check Alias (RttNumLevel ∷ []) (is_start_table p rd) error_input ∷ []

-- ---- starting tables

-- `count` adjacent granules, from granule `first` on, are all DELEGATED
unfoldable pub are_delegated : Machine → ℕ → ℕ → Bool
are_delegated m first zero = true
are_delegated m first (suc count) = is_delegated (granule_at m first).state && are_delegated m (first + 1) count

-- `count` adjacent granules, from address `base` on, are all in the machine
abbrev pub is_range_inside : Machine → ℕ → ℕ → Bool
is_range_inside m base count = is_inside m base && nat_le (number_of m base + count) (granule_count m)

-- each starting table is a DELEGATED granule of the machine
unfoldable pub can_start : Machine → RealmParams → Bool
can_start m p = is_range_inside m p.rtt_base p.rtt_num_start && are_delegated m (number_of m p.rtt_base) p.rtt_num_start

-- the VMID is in the RMM's range, and no realm has it
unfoldable pub is_vmid_valid : Machine → ℕ → Bool
is_vmid_valid m vmid = nat_lt vmid (2 ^ m.settings.vmid_bits) && not (is_vmid_used m vmid)

-- checks that each starting table is a DELEGATED granule of the machine, and that the VMID is in range and free
abbrev pub free_checks : Machine → RealmParams → List Check
free_checks m p =
    check RttState (RttAlign ∷ []) (not (can_start m p)) error_input
    ∷ check VmidValid (ParamsPas ∷ []) (not (is_vmid_valid m p.vmid)) error_input ∷ []

-- ---- the new realm

-- the hash algorithm that a code denotes: it is SHA-512 for 1, and SHA-256 for any other code
abbrev pub hash_of : ℕ → HashAlgorithm
hash_of code = if code == 1 then Sha512 else Sha256

-- the new realm that the parameters ask for
unfoldable pub realm_for : Machine → RealmParams → RmmRealm
realm_for m p = record {
  state = New;
  hash = hash_of p.hash_algo;
  rim = initial (hash_of p.hash_algo) p;
  s2sz = p.s2sz;
  start_level = p.rtt_level_start;
  first_table = number_of m p.rtt_base;
  table_count = p.rtt_num_start;
  vmid = p.vmid;
  next_rec = 0;
  rec_count = 0;
}

-- entry n of a new realm's starting tables, with entries numbered across all of the tables
abbrev pub start_entry : RmmRealm → ℕ → RmmRttEntry
start_entry realm n = if is_protected realm (n * entry_size realm.start_level) then Unassigned Empty else UnassignedNs

-- the contents of starting table k of a new realm
unfoldable pub start_page : RmmRealm → ℕ → List ℕ
start_page realm k = with_words 512 (λ i. entry_word (start_entry realm (k * 512 + i))) zero_page

-- the machine after the first k starting tables of a realm are initialized
unfoldable pub with_tables : Machine → ℕ → RmmRealm → ℕ → Machine
with_tables m rd realm zero = m
with_tables m rd realm (suc k) =
    with_page (with_granule (with_tables m rd realm k) (realm.first_table + k) (of_realm rd Rtt)) (realm.first_table + k) (start_page realm k)

-- ---- the command

-- A DELEGATED granule becomes the RD of a NEW realm, and other DELEGATED granules become its starting tables. RMM 1.0,
-- RMI_REALM_CREATE.
unfoldable pub realm_create : ℕ → ℕ → Machine → Command
realm_create rd params m =
    let p = params_at m params in
    let realm = realm_for m p in
    record {
      checks = host_checks ParamsAlign ParamsBound ParamsPas m params ++ params_checks m.settings p rd
          ++ delegated_checks RdAlign RdBound RdState m rd ++ free_checks m p;
      answer = success;
      machine = with_vmid (with_granule (with_tables m (number_of m rd) realm realm.table_count) (number_of m rd) (of_no_realm (Rd realm))) realm.vmid true;
    }
