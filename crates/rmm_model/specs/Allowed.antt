-- The result words with which an RMM may answer a command. RMM 1.0 has a partial order of a command's failure
-- conditions: if two checks fail and neither comes before the other, either may decide the answer.
use Rattle.std.specs.Prelude.{ℕ, ◌==◌, Bool, List, [], ◌∷◌, if◌then◌else◌}
use Rattle.std.specs.List.{list_all, list_any}
use Rattle.rmi_abi.specs.declared.word.Word.{Word}
use Rattle.rmi_abi.specs.declared.word.Word.TheVariants.{Success}
use Rattle.rmm_model.specs.declared.condition.Condition.{Condition}
use Rattle.rmm_model.specs.declared.condition.Condition.TheVariants.{Version, GranAlign, GranBound, GranState, GranGpt, RdAlign, RdBound, RdState, ParamsAlign}
use Rattle.rmm_model.specs.declared.condition.Condition.TheVariants.{ParamsBound, ParamsPas, ParamsValid, ParamsSupp, RttNumLevel, RttAlign, RttBound, RttState, Alias}
use Rattle.rmm_model.specs.declared.condition.Condition.TheVariants.{VmidValid, RealmState, RealmLive, LevelBound, IpaAlign, IpaBound, RttWalk, RtteState, RttLive}
use Rattle.rmm_model.specs.declared.condition.Condition.TheVariants.{RttHomo, RttBlock, DescBound, DataAlign, DataBound, DataState, SrcAlign, SrcBound, SrcPas}
use Rattle.rmm_model.specs.declared.condition.Condition.TheVariants.{FlagsValid, RtteRipas, Size, BaseGranAlign, TopGranAlign, BaseBound, TopBound, BaseAlign, NoProgress}
use Rattle.rmm_model.specs.declared.condition.Condition.TheVariants.{RecAlign, RecBound, RecGranState, NumAux, AuxAlign, AuxBound, AuxAlias, AuxState, MpidrIndex}
use Rattle.rmm_model.specs.declared.condition.Condition.TheVariants.{NumRecs, RecState, RecOwner, RunAlign, RunBound, RunPas, RealmNew, SystemOff, RecRunnable}
use Rattle.rmm_model.specs.declared.condition.Condition.TheVariants.{RecMmio, RecPsci, RecGicv3, CallingAlign, CallingBound, CallingState, TargetAlign, TargetBound, TargetState}
use Rattle.rmm_model.specs.declared.condition.Condition.TheVariants.{Pending, Owner, Target, Status}
use Rattle.rmm_model.specs.Check.{Check, Command}

-- a distinct number for each failure condition, used to compare conditions
abbrev pub condition_number : Condition → ℕ
condition_number Version = 1
condition_number GranAlign = 2
condition_number GranBound = 3
condition_number GranState = 4
condition_number GranGpt = 5
condition_number RdAlign = 6
condition_number RdBound = 7
condition_number RdState = 8
condition_number ParamsAlign = 9
condition_number ParamsBound = 10
condition_number ParamsPas = 11
condition_number ParamsValid = 12
condition_number ParamsSupp = 13
condition_number RttNumLevel = 14
condition_number RttAlign = 15
condition_number RttBound = 16
condition_number RttState = 17
condition_number Alias = 18
condition_number VmidValid = 19
condition_number RealmState = 20
condition_number RealmLive = 21
condition_number LevelBound = 22
condition_number IpaAlign = 23
condition_number IpaBound = 24
condition_number RttWalk = 25
condition_number RtteState = 26
condition_number RttLive = 27
condition_number RttHomo = 28
condition_number RttBlock = 29
condition_number DescBound = 30
condition_number DataAlign = 31
condition_number DataBound = 32
condition_number DataState = 33
condition_number SrcAlign = 34
condition_number SrcBound = 35
condition_number SrcPas = 36
condition_number FlagsValid = 37
condition_number RtteRipas = 38
condition_number Size = 39
condition_number BaseGranAlign = 40
condition_number TopGranAlign = 41
condition_number BaseBound = 42
condition_number TopBound = 43
condition_number BaseAlign = 44
condition_number NoProgress = 45
condition_number RecAlign = 46
condition_number RecBound = 47
condition_number RecGranState = 48
condition_number NumAux = 49
condition_number AuxAlign = 50
condition_number AuxBound = 51
condition_number AuxAlias = 52
condition_number AuxState = 53
condition_number MpidrIndex = 54
condition_number NumRecs = 55
condition_number RecState = 56
condition_number RecOwner = 57
condition_number RunAlign = 58
condition_number RunBound = 59
condition_number RunPas = 60
condition_number RealmNew = 61
condition_number SystemOff = 62
condition_number RecRunnable = 63
condition_number RecMmio = 64
condition_number RecPsci = 65
condition_number RecGicv3 = 66
condition_number CallingAlign = 67
condition_number CallingBound = 68
condition_number CallingState = 69
condition_number TargetAlign = 70
condition_number TargetBound = 71
condition_number TargetState = 72
condition_number Pending = 73
condition_number Owner = 74
condition_number Target = 75
condition_number Status = 76

abbrev pub is_among : List Condition → Condition → Bool
is_among conditions condition = list_any (λ c. condition_number c == condition_number condition) conditions

-- The result words of those checks in a list that are made and fail. A check is made if each condition before it has
-- passed. The given conditions have passed, and so has the condition of each earlier check that was made and did not
-- fail.
unfoldable pub words_after : List Condition → List Check → List Word
words_after passed [] = []
words_after passed (c ∷ cs) =
    if list_all (is_among passed) c.after
    then (if c.fails then c.refusal.answer.word ∷ words_after passed cs else words_after (c.refusal.condition ∷ passed) cs)
    else words_after passed cs

abbrev pub or_success : List Word → List Word
or_success [] = Success ∷ []
or_success (word ∷ words) = word ∷ words

-- The result words with which an RMM may answer a command. They are those of all checks that are made and fail, or
-- RMI_SUCCESS if there are none.
unfoldable pub allowed_words : Command → List Word
allowed_words command = or_success (words_after [] command.checks)
