-- For each outcome, the number of schedules that have it, and the first of these schedules.
use Rattle.std.specs.Prelude.{ℕ, ◌+◌, Bool, if◌then◌else◌, List, [], ◌∷◌, ◌++◌, map, count_by}
use Rattle.std.specs.List.{list_any}
use Rattle.plan_states.specs.Tallies.{PathCount}
use Rattle.plan_states.specs.declared.tally.PathTally.{PathTally}

-- An outcome, and a schedule that has this outcome.
pub record Sighting (K : Type 0) : Type 0 where
  pub outcome : K
  pub schedule : List ℕ

abbrev pub is_shown : {K : Type 0} → (K → K → Bool) → List (Sighting K) → K → Bool
is_shown same seen outcome = list_any (λ s. same s.outcome outcome) seen

-- The first sighting of each outcome that no sighting in `earlier` has.
abbrev pub firsts : {K : Type 0} → (K → K → Bool) → List (Sighting K) → List (Sighting K) → List (Sighting K)
firsts same earlier [] = []
firsts same earlier (s ∷ seen) =
    (if is_shown same earlier s.outcome then [] else s ∷ []) ++ firsts same (earlier ++ s ∷ []) seen

-- the number of sightings that have the given outcome
abbrev pub times : {K : Type 0} → (K → K → Bool) → List (Sighting K) → K → ℕ
times same seen outcome = count_by (λ s. same outcome s.outcome) seen

-- Each outcome once, with its count and its first schedule, in the sequence in which the outcomes first occur.
unfoldable pub counted : {K : Type 0} → (K → K → Bool) → List (Sighting K) → List (PathCount K)
counted same seen = map (λ s. record { outcome = s.outcome; count = times same seen s.outcome; first = s.schedule }) (firsts same [] seen)

-- the count `c` of an outcome, raised by one if that outcome is the same as `outcome`
abbrev pub bump : {K : Type 0} → (K → K → Bool) → K → PathCount K → PathCount K
bump same outcome c = record c { count = if same c.outcome outcome then c.count + 1 else c.count }

-- the list has a tally of the outcome
abbrev pub is_known : {K : Type 0} → (K → K → Bool) → K → List (PathTally K) → Bool
is_known same outcome tallies = list_any (λ t. same t.outcome outcome) tallies
