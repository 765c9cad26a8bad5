use Rattle.std.proofs.Common.{◌≡◌, Some, refl}
use Rattle.rmm_model.specs.declared.condition.Condition.{Condition}
use Rattle.rmm_model.specs.declared.condition.Condition.TheVariants.{Version, GranAlign, GranBound, GranState, GranGpt, RdAlign, RdBound, RdState, ParamsAlign}
use Rattle.rmm_model.specs.declared.condition.Condition.TheVariants.{ParamsBound, ParamsPas, ParamsValid, ParamsSupp, RttNumLevel, RttAlign, RttBound, RttState, Alias}
use Rattle.rmm_model.specs.declared.condition.Condition.TheVariants.{VmidValid, RealmState, RealmLive, LevelBound, IpaAlign, IpaBound, RttWalk, RtteState, RttLive}
use Rattle.rmm_model.specs.declared.condition.Condition.TheVariants.{RttHomo, RttBlock, DescBound, DataAlign, DataBound, DataState, SrcAlign, SrcBound, SrcPas}
use Rattle.rmm_model.specs.declared.condition.Condition.TheVariants.{FlagsValid, RtteRipas, Size, BaseGranAlign, TopGranAlign, BaseBound, TopBound, BaseAlign, NoProgress}
use Rattle.rmm_model.specs.declared.condition.Condition.TheVariants.{RecAlign, RecBound, RecGranState, NumAux, AuxAlign, AuxBound, AuxAlias, AuxState, MpidrIndex}
use Rattle.rmm_model.specs.declared.condition.Condition.TheVariants.{NumRecs, RecState, RecOwner, RunAlign, RunBound, RunPas, RealmNew, SystemOff, RecRunnable}
use Rattle.rmm_model.specs.declared.condition.Condition.TheVariants.{RecMmio, RecPsci, RecGicv3, CallingAlign, CallingBound, CallingState, TargetAlign, TargetBound, TargetState}
use Rattle.rmm_model.specs.declared.condition.Condition.TheVariants.{Pending, Owner, Target, Status}
use Rattle.rmm_checks.specs.Names.{name_of, condition_named}
use Rattle.rmm_checks.proofs.law.names_come_back.Goals as goal

comes_back : (c : Condition) → condition_named (name_of c) ≡ Some c
unfolding condition_named
comes_back Version = refl
comes_back GranAlign = refl
comes_back GranBound = refl
comes_back GranState = refl
comes_back GranGpt = refl
comes_back RdAlign = refl
comes_back RdBound = refl
comes_back RdState = refl
comes_back ParamsAlign = refl
comes_back ParamsBound = refl
comes_back ParamsPas = refl
comes_back ParamsValid = refl
comes_back ParamsSupp = refl
comes_back RttNumLevel = refl
comes_back RttAlign = refl
comes_back RttBound = refl
comes_back RttState = refl
comes_back Alias = refl
comes_back VmidValid = refl
comes_back RealmState = refl
comes_back RealmLive = refl
comes_back LevelBound = refl
comes_back IpaAlign = refl
comes_back IpaBound = refl
comes_back RttWalk = refl
comes_back RtteState = refl
comes_back RttLive = refl
comes_back RttHomo = refl
comes_back RttBlock = refl
comes_back DescBound = refl
comes_back DataAlign = refl
comes_back DataBound = refl
comes_back DataState = refl
comes_back SrcAlign = refl
comes_back SrcBound = refl
comes_back SrcPas = refl
comes_back FlagsValid = refl
comes_back RtteRipas = refl
comes_back Size = refl
comes_back BaseGranAlign = refl
comes_back TopGranAlign = refl
comes_back BaseBound = refl
comes_back TopBound = refl
comes_back BaseAlign = refl
comes_back NoProgress = refl
comes_back RecAlign = refl
comes_back RecBound = refl
comes_back RecGranState = refl
comes_back NumAux = refl
comes_back AuxAlign = refl
comes_back AuxBound = refl
comes_back AuxAlias = refl
comes_back AuxState = refl
comes_back MpidrIndex = refl
comes_back NumRecs = refl
comes_back RecState = refl
comes_back RecOwner = refl
comes_back RunAlign = refl
comes_back RunBound = refl
comes_back RunPas = refl
comes_back RealmNew = refl
comes_back SystemOff = refl
comes_back RecRunnable = refl
comes_back RecMmio = refl
comes_back RecPsci = refl
comes_back RecGicv3 = refl
comes_back CallingAlign = refl
comes_back CallingBound = refl
comes_back CallingState = refl
comes_back TargetAlign = refl
comes_back TargetBound = refl
comes_back TargetState = refl
comes_back Pending = refl
comes_back Owner = refl
comes_back Target = refl
comes_back Status = refl

pub returns : goal.returns
returns c = comes_back
