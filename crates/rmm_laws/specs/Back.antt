-- The removal of granules from a realm by a call, which makes them DELEGATED and zero. RMM 1.0, RMI_RTT_DESTROY,
-- RMI_RTT_FOLD, RMI_DATA_DESTROY and RMI_REC_DESTROY.
use Rattle.std.specs.Prelude.{◌≡◌, ◌≢◌, ℕ, ◌<◌, ◌⊎◌, true, false, Some}
use Rattle.granule_addr.specs.Page.{zero_page}
use Rattle.rmm_model.specs.declared.entry.RmmRipas.{RmmRipas}
use Rattle.rmm_model.specs.declared.entry.RmmRttEntry.TheVariants.{Assigned}
use Rattle.rmm_model.specs.declared.granule.RmmGranuleState.{RmmGranuleState}
use Rattle.rmm_model.specs.declared.granule.RmmGranuleState.TheVariants.{Undelegated, Delegated}
use Rattle.rmm_model.specs.Granule.{of_no_realm, of_realm}
use Rattle.rmm_model.specs.Guest.{rec_in, is_rec_named}
use Rattle.rmm_model.specs.Machine.{Machine, granule_at, page_in, number_of}
use Rattle.rmm_model.specs.Rec.{is_running}
use Rattle.rmm_model.specs.Walk.{entry_at, walk}
use Rattle.rmm_model.specs.Command.Auxiliary.{aux_granule}
use Rattle.rmm_model.specs.Command.Operand.{realm_at}
use Rattle.rmm_laws.specs.Role.{IsBegin}

-- A granule of a realm becomes DELEGATED and zero. Before, it begins at the address, with the given state and the RD as
-- its owner. Each other granule keeps its attributes.
pub record ComesBack (before after : Machine) (rd : ℕ) (state : RmmGranuleState) (address : ℕ) : Type 0 where
  pub begins : IsBegin before address
  pub was : granule_at before (number_of before address) ≡ of_realm rd state
  pub is : granule_at after (number_of before address) ≡ of_no_realm Delegated
  pub blank : page_in after (number_of before address) ≡ zero_page
  pub others : (granule : ℕ) → granule ≢ number_of before address → granule_at after granule ≡ granule_at before granule

-- the walk of an IPA in a realm ends at an ASSIGNED entry with the given output address
abbrev pub IsAssignedTo : Machine → ℕ → ℕ → ℕ → Type 0
IsAssignedTo m rd ipa address = (ripas : RmmRipas) × (entry_at m (walk m (realm_at m rd) ipa 3) ipa ≡ Assigned ripas address)

-- A granule is UNDELEGATED in the first machine, or it is DELEGATED there and zero in the second.
abbrev pub IsReleased : Machine → Machine → ℕ → Type 0
IsReleased m n granule = ((granule_at m granule).state ≡ Undelegated) ⊎ (((granule_at m granule).state ≡ Delegated) × (page_in n granule ≡ zero_page))

-- a granule is neither the given REC, nor one of its auxiliary granules, nor the RD of its realm
abbrev pub IsBeside : Machine → ℕ → ℕ → Type 0
IsBeside m rec granule =
    (granule ≢ rec) × ((k : ℕ) → k < m.settings.aux → aux_granule m rec k ≢ Some granule) × ((granule_at m rec).owner ≢ Some granule)

-- A REC that does not run becomes DELEGATED and zero, and so do its auxiliary granules. The REC begins at the address.
-- Each other granule, except the RD of the REC's realm, keeps its attributes.
pub record RecComesBack (before after : Machine) (address : ℕ) : Type 0 where
  pub was : is_rec_named before address ≡ true
  pub ready : is_running (rec_in before (number_of before address)).state ≡ false
  pub is : granule_at after (number_of before address) ≡ of_no_realm Delegated
  pub blank : page_in after (number_of before address) ≡ zero_page
  pub aux : (k granule : ℕ) → k < before.settings.aux → aux_granule before (number_of before address) k ≡ Some granule
      → (granule_at after granule ≡ of_no_realm Delegated) × (page_in after granule ≡ zero_page)
  pub others : (granule : ℕ) → IsBeside before (number_of before address) granule → granule_at after granule ≡ granule_at before granule
