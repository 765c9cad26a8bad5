-- The command RMI_REC_CREATE: its checks, its answer and its effect.
use Rattle.std.specs.Prelude.{ℕ, zero, suc, ◌+◌, ◌-◌, ◌^◌, ◌==◌, ◌&&◌, Bool, true, not, nat_le, nat_lt, List, [], ◌∷◌, ◌++◌, if◌then◌else◌}
use Rattle.granule_addr.specs.Page.{zero_page}
use Rattle.rmi_abi.specs.declared.settings.RmmSettings.{RmmSettings}
use Rattle.rmi_abi.specs.Mpidr.{is_mpidr, rec_number}
use Rattle.rmi_abi.specs.RecParams.{is_runnable_in, mpidr_in, pc_in, gpr_in, num_aux_in, aux_in}
use Rattle.rmm_model.specs.declared.condition.Condition.TheVariants.{ParamsAlign, ParamsBound, ParamsPas, ParamsValid, RdState, RealmState}
use Rattle.rmm_model.specs.declared.condition.Condition.TheVariants.{RecAlign, RecBound, RecState, NumAux, AuxAlign, AuxBound, AuxAlias, AuxState, MpidrIndex, NumRecs}
use Rattle.rmm_model.specs.declared.granule.RmmGranuleState.TheVariants.{Rd, Rec as IsRec, RecAux}
use Rattle.rmm_model.specs.declared.realm.RmmRealm.{RmmRealm}
use Rattle.rmm_model.specs.Check.{Command, Check, check, success, error_input, error_realm}
use Rattle.rmm_model.specs.Granule.{is_delegated, of_no_realm, of_realm}
use Rattle.rmm_model.specs.Machine.{Machine, page_in, is_aligned, is_inside, number_of, state_at, with_granule, with_page}
use Rattle.rmm_model.specs.Realm.{is_new}
use Rattle.rmm_model.specs.Rec.{new_rec}
use Rattle.rmm_model.specs.Table.{with_words}
use Rattle.rmm_model.specs.Command.Auxiliary.{with_aux}
use Rattle.rmm_model.specs.Command.RecMeasurement.{rim_with_rec}
use Rattle.rmm_model.specs.Command.Operand.{host_checks, delegated_checks, rd_checks, realm_at}

-- ---- auxiliary granules

-- each of `count` consecutive numbers, from `i` on, passes a test
unfoldable pub all_from : (ℕ → Bool) → ℕ → ℕ → Bool
all_from test i zero = true
all_from test i (suc count) = test i && all_from test (i + 1) count

-- each of the first `count` auxiliary granule addresses in REC parameters passes a test
abbrev pub all_aux : (ℕ → Bool) → List ℕ → ℕ → Bool
all_aux test page count = all_from (λ k. test (aux_in page k)) 0 count

-- auxiliary granule k is neither the REC nor one of the auxiliary granules before it
abbrev pub is_apart : ℕ → List ℕ → ℕ → Bool
is_apart rec page k = not (aux_in page k == rec) && all_aux (λ address. not (address == aux_in page k)) page k

-- an address is in a DELEGATED granule of the machine
abbrev pub can_be_aux : Machine → ℕ → Bool
can_be_aux m address = is_inside m address && is_delegated (state_at m address)

-- checks that the auxiliary granules are as many as required, are DELEGATED, and differ from each other and the REC
unfoldable pub aux_checks : Machine → List ℕ → ℕ → List Check
aux_checks m page rec =
    check NumAux (ParamsPas ∷ []) (not (num_aux_in page == m.settings.aux)) error_input
    ∷ check AuxAlign (NumAux ∷ []) (not (all_aux is_aligned page m.settings.aux)) error_input
    ∷ check AuxBound (AuxAlign ∷ []) (not (all_aux (is_inside m) page m.settings.aux)) error_input
    ∷ check AuxAlias (NumAux ∷ []) (not (all_from (is_apart rec page) 0 m.settings.aux)) error_input
    ∷ check AuxState (AuxBound ∷ []) (not (all_aux (can_be_aux m) page m.settings.aux)) error_input ∷ []

-- ---- the new REC

-- checks that a realm is NEW and can have one more REC, and that the MPIDR is valid and has the next REC's number
unfoldable pub number_checks : RmmSettings → List ℕ → RmmRealm → List Check
number_checks s page realm =
    check ParamsValid (ParamsPas ∷ []) (not (is_mpidr (mpidr_in page))) error_input
    ∷ check MpidrIndex (ParamsValid ∷ RdState ∷ []) (not (rec_number (mpidr_in page) == realm.next_rec)) error_input
    ∷ check RealmState (RdState ∷ []) (not (is_new realm.state)) error_realm
    ∷ check NumRecs (RdState ∷ []) (not (nat_lt realm.rec_count (2 ^ s.max_recs_order))) error_realm ∷ []

-- word k of a new REC's granule. General-purpose registers 0 to 7, the pc and the addresses of the auxiliary granules
-- are those of the REC's parameters, and all else is 0.
abbrev pub rec_word : List ℕ → ℕ → ℕ
rec_word page k =
    if nat_lt k 8 then gpr_in page k else
    (if k == 31 then pc_in page else
    (if nat_le 32 k then aux_in page (k - 32) else 0))

-- the contents of a new REC's granule, given the bytes that hold the REC's parameters
unfoldable pub rec_page : List ℕ → List ℕ
rec_page page = with_words 48 (rec_word page) zero_page

-- the machine after a granule becomes a new REC of the realm with the given RD
abbrev pub with_created_rec : Machine → ℕ → ℕ → List ℕ → Machine
with_created_rec m rd rec page =
    with_page (with_granule m rec (of_realm rd (IsRec (new_rec (is_runnable_in page) (mpidr_in page))))) rec (rec_page page)

-- the realm after a REC is added and, if required, measured
abbrev pub with_one_more : RmmSettings → RmmRealm → List ℕ → RmmRealm
with_one_more s realm page = record realm { rim = rim_with_rec s realm page; next_rec = realm.next_rec + 1; rec_count = realm.rec_count + 1 }

-- ---- the command

-- A DELEGATED granule becomes a REC of a NEW realm, and other DELEGATED granules become its auxiliary granules.
-- RMM 1.0, RMI_REC_CREATE.
unfoldable pub rec_create : ℕ → ℕ → ℕ → Machine → Command
rec_create rd rec params m =
    let page = page_in m (number_of m params) in
    let realm = realm_at m rd in
    let owner = number_of m rd in
    record {
      checks = host_checks ParamsAlign ParamsBound ParamsPas m params ++ delegated_checks RecAlign RecBound RecState m rec
          ++ rd_checks m rd ++ aux_checks m page rec ++ number_checks m.settings page realm;
      answer = success;
      machine = with_granule (with_aux (with_created_rec m owner (number_of m rec) page) (number_of m rec) (of_realm owner RecAux) m.settings.aux) owner
          (of_no_realm (Rd (with_one_more m.settings realm page)));
    }
