-- The world, which is the machine with the lease of each granule, and the realm, the updates and the part of a build in
-- a world.
use Rattle.std.specs.Prelude.{ℕ, suc, List, [], ◌∷◌, Bool, false, ◌&&◌, not, ◌==◌, nat_eq, cond, Option, Some, None, is_some, slice_get, slice_set, map, filter, length, replicate}
use Rattle.std.specs.List.{range_with_len}
use Rattle.std.specs.Option.{option_eq}
use Rattle.realm_model.specs.Machine.{Cell, Machine, Limits, blank, Seen}
use Rattle.realm_model.specs.Update.{Update, granule_of, machine_after, lease_before, lease_after}

pub record World : Type 0 where
  pub machine : Machine
  pub leases : List (Option ℕ)

-- The world at the start, in which nobody leases anything and each granule is blank.
abbrev pub opening : Limits → World
opening limits = record { machine = replicate limits.pages blank; leases = replicate limits.pages None }

-- ---- leases

-- both leases are to the same build, or both are None
abbrev pub same_lease : Option ℕ → Option ℕ → Bool
same_lease a b = option_eq nat_eq a b

-- the granule is inside the machine and has this lease
abbrev pub is_leased_to : Option ℕ → List (Option ℕ) → ℕ → Bool
is_leased_to lease leases granule = option_eq same_lease (slice_get leases granule) (Some lease)

-- The granules that nobody leases, in rising order.
abbrev pub free_set : World → List ℕ
free_set world = filter (is_leased_to None world.leases) (range_with_len 0 (length world.leases))

-- ---- the realm of a build

-- the first RD granule from granule `n` on that the build leases, or None if there is none
unfoldable pub realm_from : ℕ → ℕ → List (Option ℕ) → Machine → Option Seen
realm_from build n [] cells = None
realm_from build n (lease ∷ leases) [] = None
realm_from build n (lease ∷ leases) (cell ∷ cells) =
    cond (same_lease lease (Some build) && is_some cell.descriptor) (Some (record { number = n; cell = cell })) (realm_from build (suc n) leases cells)

-- The realm of a build, given by the RD granule that the build leases; None if it leases none.
abbrev pub realm_of : ℕ → World → Option Seen
realm_of build world = realm_from build 0 world.leases world.machine

-- ---- updates by a build

-- the world after one update by a build
abbrev pub updated : ℕ → Update → World → World
updated build update world = record {
  machine = machine_after update world.machine;
  leases = slice_set world.leases (granule_of update) (lease_after build update);
}

-- The world after a build's updates in sequence, or None if a granule does not have the lease that its update requires.
-- To be leased, a granule must be free; for any other update the build must lease it.
unfoldable pub updated_all : ℕ → List Update → World → Option World
updated_all build [] world = Some world
updated_all build (update ∷ updates) world =
    cond (is_leased_to (lease_before build update) world.leases (granule_of update)) (updated_all build updates (updated build update world)) None

-- ---- the part of a build

-- the list of what `f` gives for each lease and its cell
abbrev pub each : {L C X : Type 0} → (L → C → X) → List L → List C → List X
each f [] cells = []
each f (lease ∷ leases) [] = []
each f (lease ∷ leases) (cell ∷ cells) = f lease cell ∷ each f leases cells

-- a granule's lease, or none if `hides` selects that lease
abbrev pub unleased : (Option ℕ → Bool) → Option ℕ → Option ℕ
unleased hides lease = cond (hides lease) None lease

-- a granule's cell, or a blank cell if `hides` selects the granule's lease
abbrev pub hidden : (Option ℕ → Bool) → Option ℕ → Cell → Cell
hidden hides lease cell = cond (hides lease) blank cell

-- the world with some builds hidden, where each granule whose lease `hides` selects is free and blank, and the hidden
-- builds' realms are gone
abbrev pub masked : (Option ℕ → Bool) → World → World
masked hides world = record {
  machine = each (hidden hides) world.leases world.machine;
  leases = map (unleased hides) world.leases;
}

abbrev pub is_of : ℕ → Option ℕ → Bool
is_of build lease = same_lease lease (Some build)

abbrev pub is_of_other : ℕ → Option ℕ → Bool
is_of_other build None = false
is_of_other build (Some other) = not (other == build)

-- The world without a build, where the granules that the build leased are free and blank, and the build's realm is
-- removed.
abbrev pub without : World → ℕ → World
without world build = masked (is_of build) world

-- The part of a build, which is the world without what other builds lease. In a world that a history leads to, free
-- granules are blank, so the part has only what the build leases.
abbrev pub part_of : World → ℕ → World
part_of world build = masked (is_of_other build) world
