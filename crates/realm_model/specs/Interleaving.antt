-- A build's events alone, histories with the same events of each build, and events that commute.
use Rattle.std.specs.Prelude.{◌≡◌, ◌≢◌, ◌↔◌, ◌⊎◌, ℕ, List, [], ◌∷◌, ◌++◌, option_map}
use Rattle.std.specs.List.{Contains}
use Rattle.realm_model.specs.declared.act.Act.{Act}
use Rattle.realm_model.specs.declared.act.Act.TheVariants.{Take, UnTake, Realm, UnRealm}
use Rattle.realm_model.specs.declared.act.Event.{Event}
use Rattle.realm_model.specs.Machine.{Limits}
use Rattle.realm_model.specs.Act.{block}
use Rattle.realm_model.specs.World.{part_of}
use Rattle.realm_model.specs.History.{events_of, replay, IsLegal}

-- The events of a build alone are a legal history, and lead to the build's part of the world.
abbrev pub IsLegalAlone : Limits → List Event → ℕ → Type 0
IsLegalAlone limits history build =
    IsLegal limits (events_of build history)
    × (replay limits (events_of build history) ≡ option_map (λ world. part_of world build) (replay limits history))

-- Two histories have the same events of each build, each build's in the same sequence.
abbrev pub HasSameEvents : List Event → List Event → Type 0
HasSameEvents history other = (build : ℕ) → events_of build history ≡ events_of build other

-- ---- two events of different builds

-- the granules that an operation takes
abbrev pub granules_taken : Act → List ℕ
granules_taken (Take order first) = block order first
granules_taken _ = []

-- the granules that an operation gives back
abbrev pub granules_given_back : Act → List ℕ
granules_given_back (UnTake order first) = block order first
granules_given_back _ = []

-- the VMID that an operation takes, alone in a list; the empty list if it takes none
abbrev pub vmids_taken : Act → List ℕ
vmids_taken (Realm rd root vmid) = vmid ∷ []
vmids_taken _ = []

-- the VMID that an operation gives back, alone in a list; the empty list if it gives none back
abbrev pub vmids_given_back : Act → List ℕ
vmids_given_back (UnRealm rd root vmid) = vmid ∷ []
vmids_given_back _ = []

-- some number is in both lists
abbrev pub Meet : List ℕ → List ℕ → Type 0
Meet xs ys = (x : ℕ) × Contains xs x × Contains ys x

-- The first operation gives back a granule or a VMID that the second takes.
abbrev pub GivesTo : Act → Act → Type 0
GivesTo act taker =
    Meet (granules_given_back act) (granules_taken taker) ⊎ Meet (vmids_given_back act) (vmids_taken taker)

-- The event `other` can come before `one` exactly if `other` takes nothing that `one` gives back. If it can, both
-- sequences lead to the same world.
pub record Commute (limits : Limits) (history : List Event) (one other : Event) : Type 0 where
  pub other_first : IsLegal limits (history ++ other ∷ one ∷ []) ↔ ¬ GivesTo one.act other.act
  pub same_world : IsLegal limits (history ++ other ∷ one ∷ []) → replay limits (history ++ other ∷ one ∷ []) ≡ replay limits (history ++ one ∷ other ∷ [])

-- two events of different builds satisfy `Commute` if they are legal in the given sequence
abbrev pub EventsCommute : Limits → List Event → Event → Event → Type 0
EventsCommute limits history one other =
    one.build ≢ other.build → IsLegal limits (history ++ one ∷ other ∷ []) → Commute limits history one other
