-- The condition that the RECs of a build's realm are those that the build's open operations created.
use Rattle.std.specs.Prelude.{◌≡◌, ◌<◌, ◌==◌, ℕ, List, [], ◌∷◌, cond, length, get_or, Option, Some, None}
use Rattle.std.specs.List.{flat_map}
use Rattle.realm_model.specs.declared.act.Act.{Act}
use Rattle.realm_model.specs.declared.act.Act.TheVariants.{Rec}
use Rattle.realm_model.specs.declared.act.Event.{Event}
use Rattle.realm_model.specs.World.{World, realm_of}
use Rattle.realm_model.specs.History.{open_entries}
use Rattle.realm_model.specs.Places.{rec_granule}

-- the number and the granule of the REC that an operation created, alone in a list; the empty list if it created none
abbrev pub rec_made : Act → List (ℕ × ℕ)
rec_made (Rec granule auxiliaries number) = (number, granule) ∷ []
rec_made _ = []

-- the numbers and granules of the RECs that a build's open operations created, the oldest first
abbrev pub recs_open : ℕ → List Event → List (ℕ × ℕ)
recs_open build history = flat_map rec_made (open_entries build history)

-- the granule of the first REC in the list that has the number, or None if no REC has it
abbrev pub granule_in : List (ℕ × ℕ) → ℕ → Option ℕ
granule_in [] number = None
granule_in (rec ∷ recs) number = cond (rec.0 == number) (Some rec.1) (granule_in recs number)

abbrev pub number_at : List (ℕ × ℕ) → ℕ → ℕ
number_at recs place = (get_or recs place (0, 0)).0

-- each REC number in the list is greater than those before it
abbrev pub IsRising : List (ℕ × ℕ) → Type 0
IsRising recs = (i j : ℕ) → i < j → j < length recs → number_at recs i < number_at recs j

-- The RECs of a build's realm are those that its open operations created, and their numbers rise.
pub record RecsAreOpen (history : List Event) (world : World) (build : ℕ) : Type 0 where
  pub granules : (number : ℕ) → rec_granule (realm_of build world) number ≡ granule_in (recs_open build history) number
  pub rising : IsRising (recs_open build history)
