-- The requests of RECs for a change of RIPAS, and the calls and guest steps that change these requests. RMM 1.0,
-- RSI_IPA_STATE_SET, RMI_RTT_SET_RIPAS.
use Rattle.std.specs.Prelude.{◌≡◌, ℕ, ◌%◌, ◌≤◌, ◌==◌, ◌⊎◌, true, Option, Some}
use Rattle.rmi_abi.specs.declared.call.Call.{Call}
use Rattle.rmi_abi.specs.declared.call.Call.TheVariants.{RecEnter, RttSetRipas}
use Rattle.rmm_model.specs.declared.granule.RmmGranuleState.TheVariants.{Rec}
use Rattle.rmm_model.specs.declared.realm.RmmRealm.{RmmRealm}
use Rattle.rmm_model.specs.declared.rec.RipasRequest.{RipasRequest}
use Rattle.rmm_model.specs.declared.rec.RmmRec.{RmmRec}
use Rattle.rmm_model.specs.declared.step.GuestStep.TheVariants.{SetRipas}
use Rattle.rmm_model.specs.Guest.{rec_in, first_step}
use Rattle.rmm_model.specs.Machine.{Machine, granule_at, number_of}
use Rattle.rmm_model.specs.Step.{is_ripas_range, ripas_of}
use Rattle.rmm_model.specs.Command.Operand.{rec_at}
use Rattle.rmm_model.specs.Command.RecEnter.{owner_realm}

-- the first request is what is left of the second: the same but for its base, which is no lower
abbrev pub IsRest : RipasRequest → RipasRequest → Type 0
IsRest rest asked = (asked.base ≤ rest.base) × (rest ≡ record asked { base = rest.base })

-- A REC's RIPAS request begins at `base` before RMI_RTT_SET_RIPAS, and at `stop` afterwards, and is otherwise
-- unchanged.
abbrev pub IsRestFrom : Machine → Machine → ℕ → ℕ → ℕ → Type 0
IsRestFrom m n rec base stop = (base ≡ (rec_at m rec).ripas.base) × ((rec_in n (number_of m rec)).ripas ≡ record (rec_at m rec).ripas { base = stop })

-- A call may change the RIPAS request of a REC to a given one. RMI_REC_ENTER may change it to any, and
-- RMI_RTT_SET_RIPAS to the rest of the old one.
abbrev pub IsRequested : Machine → Option Call → ℕ → RipasRequest → Type 0
IsRequested m (Some (RecEnter rec run)) g asked = g ≡ number_of m rec
IsRequested m (Some (RttSetRipas rd rec base top)) g asked = (g ≡ number_of m rec) × IsRest asked (rec_in m g).ripas
IsRequested m call g asked = ⊥

-- Each REC has the same RIPAS request after a call as before, or one to which the call may change it.
abbrev pub KeepsRequests : Machine → Option Call → Machine → Type 0
KeepsRequests m call n = (g : ℕ) (rec : RmmRec) → (granule_at n g).state ≡ Rec rec → (rec.ripas ≡ (rec_in m g).ripas) ⊎ IsRequested m call g rec.ripas

-- the first queued step of a REC's guest asks for the given change of RIPAS, within the protected half of the REC's
-- realm
abbrev pub IsAskedFor : Machine → ℕ → RipasRequest → Type 0
IsAskedFor m g asked =
    (base : ℕ) × (top : ℕ) × (ripas : ℕ) × (more : ℕ) × (realm : RmmRealm) × (first_step m g ≡ SetRipas base top ripas more)
    × (owner_realm m g ≡ Some realm) × (is_ripas_range realm base top ripas ≡ true)
    × (asked ≡ record { base = base; top = top; ripas = ripas_of ripas; changes_destroyed = more % 2 == 1 })
