use Rattle.std.proofs.Common.{◌≡◌, ◌+◌, ◌++◌, true, codes, refl}
use Rattle.rmm_model.specs.declared.condition.Condition.{Condition}
use Rattle.rmm_model.specs.declared.condition.Condition.TheVariants.{Version, GranAlign, GranBound, GranState, GranGpt, RdAlign, RdBound, RdState, ParamsAlign}
use Rattle.rmm_model.specs.declared.condition.Condition.TheVariants.{ParamsBound, ParamsPas, ParamsValid, ParamsSupp, RttNumLevel, RttAlign, RttBound, RttState, Alias}
use Rattle.rmm_model.specs.declared.condition.Condition.TheVariants.{VmidValid, RealmState, RealmLive, LevelBound, IpaAlign, IpaBound, RttWalk, RtteState, RttLive}
use Rattle.rmm_model.specs.declared.condition.Condition.TheVariants.{RttHomo, RttBlock, DescBound, DataAlign, DataBound, DataState, SrcAlign, SrcBound, SrcPas}
use Rattle.rmm_model.specs.declared.condition.Condition.TheVariants.{FlagsValid, RtteRipas, Size, BaseGranAlign, TopGranAlign, BaseBound, TopBound, BaseAlign, NoProgress}
use Rattle.rmm_model.specs.declared.condition.Condition.TheVariants.{RecAlign, RecBound, RecGranState, NumAux, AuxAlign, AuxBound, AuxAlias, AuxState, MpidrIndex}
use Rattle.rmm_model.specs.declared.condition.Condition.TheVariants.{NumRecs, RecState, RecOwner, RunAlign, RunBound, RunPas, RealmNew, SystemOff, RecRunnable}
use Rattle.rmm_model.specs.declared.condition.Condition.TheVariants.{RecMmio, RecPsci, RecGicv3, CallingAlign, CallingBound, CallingState, TargetAlign, TargetBound, TargetState}
use Rattle.rmm_model.specs.declared.condition.Condition.TheVariants.{Pending, Owner, Target, Status}
use Rattle.rmm_model.specs.Allowed.{condition_number}
use Rattle.rmm_checks.specs.Names.{name_of}
use Rattle.rmm_trace.specs.Names.{names, commands, other_questions, steps_of_a_guest, settings_and_their_values, fields_of_parameter_pages, words_of_results, states, exit_reasons, outputs, results_of_steps, checks}
use Rattle.rmm_answers.specs.Places.{has_name}
use Rattle.rmm_answers.proofs.law.checks_are_of_their_names.Goals as goal

named : (c : Condition) → has_name (179 + condition_number c) (codes "(" ++ (name_of c ++ codes ")")) ≡ true
unfolding names commands other_questions steps_of_a_guest settings_and_their_values fields_of_parameter_pages words_of_results states exit_reasons outputs results_of_steps checks has_name
named Version = refl
named GranAlign = refl
named GranBound = refl
named GranState = refl
named GranGpt = refl
named RdAlign = refl
named RdBound = refl
named RdState = refl
named ParamsAlign = refl
named ParamsBound = refl
named ParamsPas = refl
named ParamsValid = refl
named ParamsSupp = refl
named RttNumLevel = refl
named RttAlign = refl
named RttBound = refl
named RttState = refl
named Alias = refl
named VmidValid = refl
named RealmState = refl
named RealmLive = refl
named LevelBound = refl
named IpaAlign = refl
named IpaBound = refl
named RttWalk = refl
named RtteState = refl
named RttLive = refl
named RttHomo = refl
named RttBlock = refl
named DescBound = refl
named DataAlign = refl
named DataBound = refl
named DataState = refl
named SrcAlign = refl
named SrcBound = refl
named SrcPas = refl
named FlagsValid = refl
named RtteRipas = refl
named Size = refl
named BaseGranAlign = refl
named TopGranAlign = refl
named BaseBound = refl
named TopBound = refl
named BaseAlign = refl
named NoProgress = refl
named RecAlign = refl
named RecBound = refl
named RecGranState = refl
named NumAux = refl
named AuxAlign = refl
named AuxBound = refl
named AuxAlias = refl
named AuxState = refl
named MpidrIndex = refl
named NumRecs = refl
named RecState = refl
named RecOwner = refl
named RunAlign = refl
named RunBound = refl
named RunPas = refl
named RealmNew = refl
named SystemOff = refl
named RecRunnable = refl
named RecMmio = refl
named RecPsci = refl
named RecGicv3 = refl
named CallingAlign = refl
named CallingBound = refl
named CallingState = refl
named TargetAlign = refl
named TargetBound = refl
named TargetState = refl
named Pending = refl
named Owner = refl
named Target = refl
named Status = refl

pub returns : goal.returns
returns c = named
