-- The calls of a realm's teardown, and the statement that some sequence of these calls destroys the realm. RMM 1.0,
-- Realm destruction.
use Rattle.std.specs.Prelude.{◌≡◌, ℕ, ◌-◌, false, List, [], ◌∷◌, Some}
use Rattle.granule_addr.specs.Page.{zero_page}
use Rattle.rmi_abi.specs.declared.call.Call.{Call}
use Rattle.rmi_abi.specs.declared.call.Call.TheVariants.{DataDestroy, GranuleUndelegate, RealmDestroy, RecDestroy, RttCreate, RttDestroy, RttUnmapUnprotected}
use Rattle.rmi_abi.specs.declared.word.Word.TheVariants.{Success}
use Rattle.rmm_model.specs.declared.entry.RmmRipas.{RmmRipas}
use Rattle.rmm_model.specs.declared.entry.RmmRttEntry.TheVariants.{Assigned}
use Rattle.rmm_model.specs.declared.granule.RmmGranuleState.TheVariants.{Undelegated}
use Rattle.rmm_model.specs.Call.{performed}
use Rattle.rmm_model.specs.Granule.{of_no_realm}
use Rattle.rmm_model.specs.Machine.{Machine, granule_at, page_in, number_of, is_vmid_used}
use Rattle.rmm_model.specs.Walk.{entry_at, walk}
use Rattle.rmm_model.specs.Command.Operand.{realm_at}
use Rattle.rmm_laws.specs.Apart.{realm_of_rec, IsOfRealm, IsSameAt, IsSpare}

-- the walk of an address of a realm towards a level ends at an ASSIGNED entry
abbrev pub IsAssignedAt : Machine → ℕ → ℕ → ℕ → Type 0
IsAssignedAt m rd ipa level = (ripas : RmmRipas) × (address : ℕ) × (entry_at m (walk m (realm_at m rd) ipa level) ipa ≡ Assigned ripas address)

-- A call removes a page, a mapping or a table from the realm with the given RD, or unfolds a block into the given spare
-- granule.
abbrev pub IsTeardown : Machine → ℕ → ℕ → Call → Type 0
IsTeardown m rd spare (DataDestroy of ipa) = of ≡ rd
IsTeardown m rd spare (RttUnmapUnprotected of ipa level) = of ≡ rd
IsTeardown m rd spare (RttDestroy of ipa level) = of ≡ rd
IsTeardown m rd spare (RttCreate of rtt ipa level) = (of ≡ rd) × (rtt ≡ spare) × IsAssignedAt m rd ipa (level - 1)
IsTeardown m rd spare _ = ⊥

-- There is a call that succeeds and removes a page, a mapping or a table from the realm, or unfolds a block.
abbrev pub HasNextStep : Machine → ℕ → ℕ → Type 0
HasNextStep m rd spare = (call : Call) × IsTeardown m rd spare call × ((performed call m).0.word ≡ Success)

-- A call destroys a REC of the realm whose RD is given, or the realm itself.
abbrev pub IsRemoval : Machine → ℕ → Call → Type 0
IsRemoval m rd (RecDestroy rec) = realm_of_rec m rec ≡ Some (number_of m rd)
IsRemoval m rd (RealmDestroy of) = of ≡ rd
IsRemoval m rd _ = ⊥

-- There is a call that succeeds and destroys a REC of the realm, or the realm itself.
abbrev pub HasRemoval : Machine → ℕ → Type 0
HasRemoval m rd = (call : Call) × IsRemoval m rd call × ((performed call m).0.word ≡ Success)

-- ---- whole teardowns

-- A call belongs to a realm's teardown: it removes a page, mapping, table or REC, or the realm, unfolds a block, or
-- undelegates a granule.
abbrev pub IsOfTeardown : Machine → ℕ → Call → Type 0
IsOfTeardown m rd (DataDestroy of ipa) = of ≡ rd
IsOfTeardown m rd (RttUnmapUnprotected of ipa level) = of ≡ rd
IsOfTeardown m rd (RttDestroy of ipa level) = of ≡ rd
IsOfTeardown m rd (RttCreate of rtt ipa level) = (of ≡ rd) × IsAssignedAt m rd ipa (level - 1)
IsOfTeardown m rd (RecDestroy rec) = realm_of_rec m rec ≡ Some (number_of m rd)
IsOfTeardown m rd (RealmDestroy of) = of ≡ rd
IsOfTeardown m rd (GranuleUndelegate address) = Unit {0}
IsOfTeardown m rd _ = ⊥

-- Calls of a realm's teardown, made one after another, all succeed and lead from one machine to another.
abbrev pub LeadsDown : ℕ → Machine → List Call → Machine → Type 0
LeadsDown rd m [] n = m ≡ n
LeadsDown rd m (call ∷ calls) n = IsOfTeardown m rd call × ((performed call m).0.word ≡ Success) × LeadsDown rd (performed call m).1 calls n

-- Some sequence of teardown calls succeeds and destroys the realm. Each granule that the realm has now, including its
-- RD, is UNDELEGATED and zero afterwards. The VMID of the realm is free. Each granule of another realm is as it was.
pub record CanBeTornDown (m : Machine) (rd : ℕ) : Type 0 where
  pub calls : List Call
  pub after : Machine
  pub succeed : LeadsDown rd m calls after
  pub others : (granule : ℕ) → (IsOfRealm m (Some (number_of m rd)) granule → ⊥) → (IsSpare m granule → ⊥) → IsSameAt m after granule
  pub free : (granule : ℕ) → IsOfRealm m (Some (number_of m rd)) granule → (granule_at after granule ≡ of_no_realm Undelegated) × (page_in after granule ≡ zero_page)
  pub vmid : is_vmid_used after (realm_at m rd).vmid ≡ false
