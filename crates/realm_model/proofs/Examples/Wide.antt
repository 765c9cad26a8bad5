-- Examples of realms that have several starting tables.
use Rattle.std.proofs.Common.{◌≡◌, ℕ, false, not, List, [], ◌∷◌, ◌++◌, map, Some, refl}
use Rattle.std.specs.Prelude.{is_some, filter, ◌==◌}
use Rattle.granule_addr.specs.Root.{starting_tables}
use Rattle.granule_addr.specs.declared.width.Root.{Root}
use Rattle.realm_model.specs.declared.act.Act.TheVariants.{Take, Delegate, Realm}
use Rattle.realm_model.specs.declared.act.Event.{Event}
use Rattle.realm_model.specs.declared.states.GranuleState.TheVariants.{Delegated, Rd, Rtt as InRtt}
use Rattle.realm_model.specs.Act.{named}
use Rattle.realm_model.specs.Command.Check.{check}
use Rattle.realm_model.specs.Command.Realm.{new_realm}
use Rattle.realm_model.specs.Outcome.{outcome_of, fits}
use Rattle.realm_model.specs.World.{realm_from, updated_all}
use Rattle.realm_model.specs.Step.{step}
use Rattle.realm_model.specs.History.{after, replay}
use Rattle.realm_model.specs.Undoing.{by}
use Rattle.realm_model.proofs.Examples.Worlds.{machine_of, states}

abbrev root_at : ℕ → ℕ → Root
root_at first width = record { first = first; width = width }

-- ---- a realm of four starting tables

-- the events in which a build delegates eight granules and asks for a realm with the given RD, first starting table and
-- IPA width
abbrev wide : ℕ → ℕ → ℕ → List Event
wide rd first width = by 0 (Take 3 0) ∷ map (λ g. by 0 (Delegate g)) (0 ∷ 1 ∷ 2 ∷ 3 ∷ 4 ∷ 5 ∷ 6 ∷ 7 ∷ []) ++ by 0 (Realm rd (root_at first width) 1) ∷ []

wide-states : states (replay (machine_of 8) (wide 0 4 41)) ≡ Some (Rd ∷ Delegated ∷ Delegated ∷ Delegated ∷ InRtt ∷ InRtt ∷ InRtt ∷ InRtt ∷ [])
unfolding after step named outcome_of fits updated_all check realm_from starting_tables
wide-states = refl

-- a realm of IPA width 44 is refused; the greatest width is 43
too_wide : is_some (replay (machine_of 8) (wide 0 1 44)) ≡ false
unfolding after step named outcome_of fits updated_all check realm_from starting_tables
too_wide = refl

-- four starting tables must begin at a multiple of four
askew : is_some (replay (machine_of 8) (wide 0 2 41)) ≡ false
unfolding after step named outcome_of fits updated_all check realm_from starting_tables
askew = refl

-- no starting table is the RD, not even the last one
rd_apart : (is_some (replay (machine_of 8) (wide 4 4 41)) ≡ false) × (is_some (replay (machine_of 8) (wide 7 4 41)) ≡ false)
unfolding after step named outcome_of fits updated_all check realm_from starting_tables
rd_apart = (refl, refl)

-- the events in which a build delegates the granules of a realm, except `g`, and asks for the realm; RMI_REALM_CREATE
-- is refused if `g` is the first or the last starting table
abbrev but_one : ℕ → List Event
but_one g = by 0 (Take 3 0) ∷ map (λ k. by 0 (Delegate k)) (filter (λ k. not (k == g)) (0 ∷ 4 ∷ 5 ∷ 6 ∷ 7 ∷ [])) ++ by 0 (Realm 0 (root_at 4 41) 1) ∷ []

but_first : is_some (replay (machine_of 8) (but_one 4)) ≡ false
unfolding after step named outcome_of fits updated_all check realm_from starting_tables
but_first = refl

but_last : is_some (replay (machine_of 8) (but_one 7)) ≡ false
unfolding after step named outcome_of fits updated_all check realm_from starting_tables
but_last = refl

-- the realm is refused, since one of its starting tables is a granule of another build
others_table : is_some (replay (machine_of 8) (by 0 (Take 2 0) ∷ by 0 (Take 1 4) ∷ by 0 (Take 0 6) ∷ by 1 (Take 0 7)
    ∷ map (λ k. by 0 (Delegate k)) (0 ∷ 4 ∷ 5 ∷ 6 ∷ []) ++ by 1 (Delegate 7) ∷ by 0 (Realm 0 (root_at 4 41) 1) ∷ [])) ≡ false
unfolding after step named outcome_of fits updated_all check realm_from starting_tables
others_table = refl

-- the events in which two builds ask for a realm each, the second with the given VMID; the VMIDs must differ
abbrev two_realms : ℕ → List Event
two_realms vmid = by 0 (Take 1 0) ∷ by 1 (Take 1 2) ∷ by 0 (Delegate 0) ∷ by 0 (Delegate 1) ∷ by 1 (Delegate 2) ∷ by 1 (Delegate 3)
    ∷ by 0 (Realm 0 (root_at 1 39) 1) ∷ by 1 (Realm 2 (root_at 3 39) vmid) ∷ []

two_realms-states : states (replay (machine_of 4) (two_realms 2)) ≡ Some (Rd ∷ InRtt ∷ Rd ∷ InRtt ∷ [])
unfolding after step named outcome_of fits updated_all check realm_from starting_tables new_realm
two_realms-states = refl

used_vmid : is_some (replay (machine_of 4) (two_realms 1)) ≡ false
unfolding after step named outcome_of fits updated_all check realm_from starting_tables new_realm
used_vmid = refl
