-- The checks of RMI_REC_ENTER that the realm is ACTIVE, and that the REC is READY and runnable.
use Rattle.std.specs.Prelude.{not, List, [], ◌∷◌}
use Rattle.rmi_abi.specs.declared.word.Word.TheVariants.{ErrorRealm}
use Rattle.rmi_abi.specs.Answer.{only}
use Rattle.rmm_model.specs.declared.condition.Condition.TheVariants.{RealmNew, SystemOff, RecGranState, RecState, RecRunnable}
use Rattle.rmm_model.specs.declared.realm.RmmRealmState.{RmmRealmState}
use Rattle.rmm_model.specs.declared.rec.RmmRec.{RmmRec}
use Rattle.rmm_model.specs.Check.{Check, check, error_realm, error_rec}
use Rattle.rmm_model.specs.Realm.{is_new}
use Rattle.rmm_model.specs.Rec.{is_running}
use Rattle.rmm_model.specs.Command.RecEnter.{is_system_off}

-- the first checks of RMI_REC_ENTER after those of its operands: the realm is ACTIVE, and the REC is READY and runnable
abbrev pub ready_checks : RmmRealmState → RmmRec → List Check
ready_checks state rec =
    check RealmNew (RecGranState ∷ []) (is_new state) error_realm
    ∷ check SystemOff (RecGranState ∷ []) (is_system_off state) (only (ErrorRealm 1))
    ∷ check RecState (RecGranState ∷ []) (is_running rec.state) error_rec
    ∷ check RecRunnable (RecState ∷ []) (not rec.is_runnable) error_rec ∷ []
