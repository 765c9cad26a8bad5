-- The owner that each granule's state requires, and the number of RECs that each RD counts. RMM 1.0, Granule, Realm and
-- REC attributes.
use Rattle.std.specs.Prelude.{◌≡◌, ℕ, ◌<◌, ◌==◌, ◌&&◌, ◌⊎◌, Bool, true, false, List, Option, Some, None, is_some}
use Rattle.std.specs.List.{count_by}
use Rattle.granule_addr.specs.Page.{zero_page}
use Rattle.rmi_abi.specs.declared.call.Call.{Call}
use Rattle.rmi_abi.specs.declared.call.Call.TheVariants.{RecCreate}
use Rattle.rmm_model.specs.declared.granule.RmmGranule.{RmmGranule}
use Rattle.rmm_model.specs.declared.granule.RmmGranuleState.{RmmGranuleState}
use Rattle.rmm_model.specs.declared.granule.RmmGranuleState.TheVariants.{Undelegated, Delegated, Rd, Rec as IsRec, RecAux, Data, Rtt}
use Rattle.rmm_model.specs.declared.realm.RmmRealm.{RmmRealm}
use Rattle.rmm_model.specs.declared.rec.RmmRec.{RmmRec}
use Rattle.rmm_model.specs.Granule.{rec_of}
use Rattle.rmm_model.specs.Machine.{Machine, granule_at, page_in, number_of}
use Rattle.rmm_model.specs.Rec.{aux_of}
use Rattle.rmm_laws.specs.Half.{HasHalves}
use Rattle.rmm_laws.specs.Role.{IsBegin}

-- ---- owners

-- a granule in the given state is the RD of a realm
abbrev pub is_rd : RmmGranuleState → Bool
is_rd (Rd realm) = true
is_rd _ = false

-- there is an owner, and it is the RD of a realm
abbrev pub IsOwner : Machine → Option ℕ → Type 0
IsOwner m (Some rd) = is_rd (granule_at m rd).state ≡ true
IsOwner m None = ⊥

-- A granule has the owner and the contents that its state requires. UNDELEGATED and DELEGATED granules and RDs have no
-- owner, and each other granule has an RD as its owner. A DELEGATED granule is zero. A REC names the addresses at which
-- its auxiliary granules begin.
abbrev pub IsOrderly : Machine → RmmGranuleState → Option ℕ → List ℕ → Type 0
IsOrderly m Undelegated owner page = owner ≡ None
IsOrderly m Delegated owner page = (owner ≡ None) × (page ≡ zero_page)
IsOrderly m (Rd realm) owner page = owner ≡ None
IsOrderly m (IsRec rec) owner page = IsOwner m owner × ((k : ℕ) → k < m.settings.aux → IsBegin m (aux_of page k))
IsOrderly m RecAux owner page = IsOwner m owner
IsOrderly m Data owner page = IsOwner m owner
IsOrderly m Rtt owner page = IsOwner m owner

abbrev pub IsOrderlyAt : Machine → ℕ → Type 0
IsOrderlyAt m g = IsOrderly m (granule_at m g).state (granule_at m g).owner (page_in m g)

-- ---- RECs

-- the owner is the given RD
abbrev pub is_owner : ℕ → Option ℕ → Bool
is_owner rd (Some other) = other == rd
is_owner rd None = false

-- a granule is a REC whose owner is the given RD
abbrev pub is_rec_in : ℕ → RmmGranule → Bool
is_rec_in rd granule = is_some (rec_of granule.state) && is_owner rd granule.owner

-- a granule is a REC with the given owner
abbrev pub IsRecOf : Machine → ℕ → Option ℕ → Type 0
IsRecOf m g owner = (rec : RmmRec) × ((granule_at m g).state ≡ IsRec rec) × ((granule_at m g).owner ≡ owner)

-- a call is RMI_REC_CREATE of the given granule, for the realm whose RD is the given owner
abbrev pub IsRecMade : Machine → Option Call → ℕ → Option ℕ → Type 0
IsRecMade m (Some (RecCreate rd rec params)) g owner = (g ≡ number_of m rec) × (owner ≡ Some (number_of m rd))
IsRecMade m call g owner = ⊥

-- Each REC that exists after a call was a REC of the same owner before, or the call created it.
abbrev pub KeepsRecs : Machine → Option Call → Machine → Type 0
KeepsRecs m call n =
    (g : ℕ) (rec : RmmRec) → (granule_at n g).state ≡ IsRec rec → IsRecOf m g (granule_at n g).owner ⊎ IsRecMade m call g (granule_at n g).owner

-- Each granule has the owner and the contents that its state requires, and each RD counts the RECs of its realm. Each
-- table entry has a state that is allowed in its half of the address space.
pub record IsOrdered (m : Machine) : Type 0 where
  pub each : (granule : ℕ) → IsOrderlyAt m granule
  pub recs : (rd : ℕ) (realm : RmmRealm) → (granule_at m rd).state ≡ Rd realm → realm.rec_count ≡ count_by (is_rec_in rd) m.granules
  pub halves : HasHalves m
