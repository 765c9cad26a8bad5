-- The command RMI_REC_DESTROY: its checks, its answer and its effect.
use Rattle.std.specs.Prelude.{ℕ, ◌-◌, Option, Some, None, [], ◌∷◌, ◌++◌}
use Rattle.rmm_model.specs.declared.condition.Condition.TheVariants.{RecAlign, RecBound, RecGranState, RecState}
use Rattle.rmm_model.specs.declared.granule.RmmGranuleState.TheVariants.{Delegated, Rd}
use Rattle.rmm_model.specs.declared.realm.RmmRealm.{RmmRealm}
use Rattle.rmm_model.specs.Check.{Command, check, success, error_rec}
use Rattle.rmm_model.specs.Granule.{of_no_realm, realm_of}
use Rattle.rmm_model.specs.Machine.{Machine, granule_at, number_of, with_granule, with_blank}
use Rattle.rmm_model.specs.Rec.{is_running}
use Rattle.rmm_model.specs.Command.Auxiliary.{with_aux}
use Rattle.rmm_model.specs.Command.Operand.{rec_checks, rec_at}

-- the realm after its number of RECs drops by one
abbrev pub with_one_less : RmmRealm → RmmRealm
with_one_less realm = record realm { rec_count = realm.rec_count - 1 }

abbrev pub without_rec_of : Machine → ℕ → Option RmmRealm → Machine
without_rec_of m rd (Some realm) = with_granule m rd (of_no_realm (Rd (with_one_less realm)))
without_rec_of m rd None = m

-- the machine after the number of RECs of the realm with the given RD, if any, drops by one
abbrev pub without_rec : Machine → Option ℕ → Machine
without_rec m (Some rd) = without_rec_of m rd (realm_of (granule_at m rd).state)
without_rec m None = m

-- A REC that is not RUNNING is removed, and its granule and auxiliary granules become DELEGATED. RMM 1.0,
-- RMI_REC_DESTROY.
unfoldable pub rec_destroy : ℕ → Machine → Command
rec_destroy rec m =
    let granule = number_of m rec in
    record {
      checks = rec_checks RecAlign RecBound RecGranState m rec
          ++ check RecState (RecGranState ∷ []) (is_running (rec_at m rec).state) error_rec ∷ [];
      answer = success;
      machine = with_blank (with_aux (without_rec m (granule_at m granule).owner) granule (of_no_realm Delegated) m.settings.aux) granule Delegated;
    }
