-- The names of failure conditions, as traces write them. Most of the names are from RMM 1.0.
use Rattle.std.specs.Prelude.{cond, List, [], ◌∷◌, ℕ, Option, Some, None, codes}
use Rattle.std.specs.Str.{bytes_eq}
use Rattle.rmm_model.specs.declared.condition.Condition.{Condition}
use Rattle.rmm_model.specs.declared.condition.Condition.TheVariants.{Version, GranAlign, GranBound, GranState, GranGpt, RdAlign, RdBound, RdState, ParamsAlign}
use Rattle.rmm_model.specs.declared.condition.Condition.TheVariants.{ParamsBound, ParamsPas, ParamsValid, ParamsSupp, RttNumLevel, RttAlign, RttBound, RttState, Alias}
use Rattle.rmm_model.specs.declared.condition.Condition.TheVariants.{VmidValid, RealmState, RealmLive, LevelBound, IpaAlign, IpaBound, RttWalk, RtteState, RttLive}
use Rattle.rmm_model.specs.declared.condition.Condition.TheVariants.{RttHomo, RttBlock, DescBound, DataAlign, DataBound, DataState, SrcAlign, SrcBound, SrcPas}
use Rattle.rmm_model.specs.declared.condition.Condition.TheVariants.{FlagsValid, RtteRipas, Size, BaseGranAlign, TopGranAlign, BaseBound, TopBound, BaseAlign, NoProgress}
use Rattle.rmm_model.specs.declared.condition.Condition.TheVariants.{RecAlign, RecBound, RecGranState, NumAux, AuxAlign, AuxBound, AuxAlias, AuxState, MpidrIndex}
use Rattle.rmm_model.specs.declared.condition.Condition.TheVariants.{NumRecs, RecState, RecOwner, RunAlign, RunBound, RunPas, RealmNew, SystemOff, RecRunnable}
use Rattle.rmm_model.specs.declared.condition.Condition.TheVariants.{RecMmio, RecPsci, RecGicv3, CallingAlign, CallingBound, CallingState, TargetAlign, TargetBound, TargetState}
use Rattle.rmm_model.specs.declared.condition.Condition.TheVariants.{Pending, Owner, Target, Status}

abbrev pub name_of : Condition → List ℕ
name_of Version = codes "version"
name_of GranAlign = codes "gran_align"
name_of GranBound = codes "gran_bound"
name_of GranState = codes "gran_state"
name_of GranGpt = codes "gran_gpt"
name_of RdAlign = codes "rd_align"
name_of RdBound = codes "rd_bound"
name_of RdState = codes "rd_state"
name_of ParamsAlign = codes "params_align"
name_of ParamsBound = codes "params_bound"
name_of ParamsPas = codes "params_pas"
name_of ParamsValid = codes "params_valid"
name_of ParamsSupp = codes "params_supp"
name_of RttNumLevel = codes "rtt_num_level"
name_of RttAlign = codes "rtt_align"
name_of RttBound = codes "rtt_bound"
name_of RttState = codes "rtt_state"
name_of Alias = codes "alias"
name_of VmidValid = codes "vmid_valid"
name_of RealmState = codes "realm_state"
name_of RealmLive = codes "realm_live"
name_of LevelBound = codes "level_bound"
name_of IpaAlign = codes "ipa_align"
name_of IpaBound = codes "ipa_bound"
name_of RttWalk = codes "rtt_walk"
name_of RtteState = codes "rtte_state"
name_of RttLive = codes "rtt_live"
name_of RttHomo = codes "rtt_homo"
name_of RttBlock = codes "rtt_block"
name_of DescBound = codes "desc_bound"
name_of DataAlign = codes "data_align"
name_of DataBound = codes "data_bound"
name_of DataState = codes "data_state"
name_of SrcAlign = codes "src_align"
name_of SrcBound = codes "src_bound"
name_of SrcPas = codes "src_pas"
name_of FlagsValid = codes "flags_valid"
name_of RtteRipas = codes "rtte_ripas"
name_of Size = codes "size"
name_of BaseGranAlign = codes "base_gran_align"
name_of TopGranAlign = codes "top_gran_align"
name_of BaseBound = codes "base_bound"
name_of TopBound = codes "top_bound"
name_of BaseAlign = codes "base_align"
name_of NoProgress = codes "no_progress"
name_of RecAlign = codes "rec_align"
name_of RecBound = codes "rec_bound"
name_of RecGranState = codes "rec_gran_state"
name_of NumAux = codes "num_aux"
name_of AuxAlign = codes "aux_align"
name_of AuxBound = codes "aux_bound"
name_of AuxAlias = codes "aux_alias"
name_of AuxState = codes "aux_state"
name_of MpidrIndex = codes "mpidr_index"
name_of NumRecs = codes "num_recs"
name_of RecState = codes "rec_state"
name_of RecOwner = codes "rec_owner"
name_of RunAlign = codes "run_align"
name_of RunBound = codes "run_bound"
name_of RunPas = codes "run_pas"
name_of RealmNew = codes "realm_new"
name_of SystemOff = codes "system_off"
name_of RecRunnable = codes "rec_runnable"
name_of RecMmio = codes "rec_mmio"
name_of RecPsci = codes "rec_psci"
name_of RecGicv3 = codes "rec_gicv3"
name_of CallingAlign = codes "calling_align"
name_of CallingBound = codes "calling_bound"
name_of CallingState = codes "calling_state"
name_of TargetAlign = codes "target_align"
name_of TargetBound = codes "target_bound"
name_of TargetState = codes "target_state"
name_of Pending = codes "pending"
name_of Owner = codes "owner"
name_of Target = codes "target"
name_of Status = codes "status"

-- all failure conditions, each once
abbrev pub conditions : List Condition
conditions =
    Version ∷ GranAlign ∷ GranBound ∷ GranState ∷ GranGpt ∷ RdAlign ∷ RdBound ∷ RdState ∷ ParamsAlign ∷ ParamsBound ∷ ParamsPas ∷
    ParamsValid ∷ ParamsSupp ∷ RttNumLevel ∷ RttAlign ∷ RttBound ∷ RttState ∷ Alias ∷ VmidValid ∷ RealmState ∷ RealmLive ∷ LevelBound ∷
    IpaAlign ∷ IpaBound ∷ RttWalk ∷ RtteState ∷ RttLive ∷ RttHomo ∷ RttBlock ∷ DescBound ∷ DataAlign ∷ DataBound ∷ DataState ∷ SrcAlign ∷
    SrcBound ∷ SrcPas ∷ FlagsValid ∷ RtteRipas ∷ Size ∷ BaseGranAlign ∷ TopGranAlign ∷ BaseBound ∷ TopBound ∷ BaseAlign ∷ NoProgress ∷
    RecAlign ∷ RecBound ∷ RecGranState ∷ NumAux ∷ AuxAlign ∷ AuxBound ∷ AuxAlias ∷ AuxState ∷ MpidrIndex ∷ NumRecs ∷ RecState ∷ RecOwner ∷
    RunAlign ∷ RunBound ∷ RunPas ∷ RealmNew ∷ SystemOff ∷ RecRunnable ∷ RecMmio ∷ RecPsci ∷ RecGicv3 ∷ CallingAlign ∷ CallingBound ∷
    CallingState ∷ TargetAlign ∷ TargetBound ∷ TargetState ∷ Pending ∷ Owner ∷ Target ∷ Status ∷ []

abbrev pub find_named : List ℕ → List Condition → Option Condition
find_named text [] = None
find_named text (c ∷ cs) = cond (bytes_eq text (name_of c)) (Some c) (find_named text cs)

-- The failure condition that has this name, if any.
unfoldable pub condition_named : List ℕ → Option Condition
condition_named text = find_named text conditions
