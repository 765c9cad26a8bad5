-- The facts about a REC's parameters that RMI_REC_CREATE checks, and the checks of these facts.
use Rattle.std.specs.Prelude.{ℕ, ◌^◌, ◌==◌, Bool, not, nat_lt, List, [], ◌∷◌}
use Rattle.rmi_abi.specs.declared.settings.RmmSettings.{RmmSettings}
use Rattle.rmi_abi.specs.Mpidr.{is_mpidr, rec_number}
use Rattle.rmi_abi.specs.RecParams.{mpidr_in, num_aux_in}
use Rattle.rmm_model.specs.declared.condition.Condition.TheVariants.{ParamsPas, ParamsValid, NumAux, AuxAlign, AuxBound, AuxAlias, AuxState, MpidrIndex, RdState, RealmState, NumRecs}
use Rattle.rmm_model.specs.declared.realm.RmmRealm.{RmmRealm}
use Rattle.rmm_model.specs.Check.{Check, check, error_input, error_realm}
use Rattle.rmm_model.specs.Machine.{Machine, is_aligned, is_inside}
use Rattle.rmm_model.specs.Realm.{is_new}
use Rattle.rmm_model.specs.Command.RecCreate.{all_aux, all_from, is_apart, can_be_aux}
use Rattle.rmm_checks.specs.declared.rec_create.RecFacts.{RecFacts}

-- the facts about the parameters of a new REC, given the bytes that hold the parameters and the address of the REC's
-- granule
abbrev pub facts_in : Machine → List ℕ → ℕ → RecFacts
facts_in m page rec = record {
  has_count = num_aux_in page == m.settings.aux;
  are_aligned = all_aux is_aligned page m.settings.aux;
  are_inside = all_aux (is_inside m) page m.settings.aux;
  are_apart = all_from (is_apart rec page) 0 m.settings.aux;
  are_delegated = all_aux (can_be_aux m) page m.settings.aux;
  is_mpidr = is_mpidr (mpidr_in page);
  number = rec_number (mpidr_in page);
}

-- the checks of a new REC's auxiliary granules, given the facts about the REC's parameters
abbrev pub aux_rows : RecFacts → List Check
aux_rows facts =
    check NumAux (ParamsPas ∷ []) (not facts.has_count) error_input
    ∷ check AuxAlign (NumAux ∷ []) (not facts.are_aligned) error_input
    ∷ check AuxBound (AuxAlign ∷ []) (not facts.are_inside) error_input
    ∷ check AuxAlias (NumAux ∷ []) (not facts.are_apart) error_input
    ∷ check AuxState (AuxBound ∷ []) (not facts.are_delegated) error_input ∷ []

-- the checks of a new REC's MPIDR, and of the realm's state and number of RECs, given the facts about the REC's
-- parameters
abbrev pub number_rows : RmmSettings → RmmRealm → RecFacts → List Check
number_rows s realm facts =
    check ParamsValid (ParamsPas ∷ []) (not facts.is_mpidr) error_input
    ∷ check MpidrIndex (ParamsValid ∷ RdState ∷ []) (not (facts.number == realm.next_rec)) error_input
    ∷ check RealmState (RdState ∷ []) (not (is_new realm.state)) error_realm
    ∷ check NumRecs (RdState ∷ []) (not (nat_lt realm.rec_count (2 ^ s.max_recs_order))) error_realm ∷ []
