-- The tallies of a state graph's outcomes: for each outcome, the number of paths, and the schedule of the first path.
use Rattle.std.specs.Prelude.{◌≡◌, ℕ, zero, suc, nat_lt, ◌==◌, if◌then◌else◌, Bool, true, false, List, [], ◌∷◌, map, filter, length, Option, Some, None, option_map, slice_get, slice_index_or}
use Rattle.std.specs.List.{find, insert}
use Rattle.schedule_graph.specs.First.{layers_in, shows_none}
use Rattle.schedule_graph.specs.Paths.{Layer, Path, paths, shows, count_at}
use Rattle.plan_states.specs.LabelProperties.{has_number, is_refusal_of}
use Rattle.plan_states.specs.declared.edges.Label.{Label}
use Rattle.plan_states.specs.declared.graph.Graph.{Graph}
use Rattle.plan_states.specs.declared.step_end.EndOfStep.{EndOfStep}
use Rattle.plan_states.specs.declared.tally.Outcomes.{Outcomes}
use Rattle.plan_states.specs.declared.tally.PathTally.{PathTally}

-- The number of paths with an outcome, and the schedule of the first of these paths.
pub record PathCount (K : Type 0) : Type 0 where
  pub outcome : K
  pub count : ℕ
  pub first : List ℕ

abbrev pub layers_of : Graph → List (Layer Label)
layers_of graph = layers_in graph.layers.items

-- the schedule of a path: the build of each turn
abbrev pub builds_of_path : Path Label → List ℕ
builds_of_path path = map (λ edge. edge.label.build) path

abbrev pub count_of_tally : {K : Type 0} → PathTally K → PathCount K
count_of_tally tally = record { outcome = tally.outcome; count = tally.count; first = tally.first.items }

-- the tally of the paths with a property: their number and the schedule of the first one, or None if there are no such
-- paths
abbrev pub tally_of : {K : Type 0} → (Path Label → Bool) → K → List (Path Label) → Option (PathCount K)
tally_of like outcome ps =
    option_map (λ path. record { outcome = outcome; count = length (filter like ps); first = builds_of_path path }) (find like ps)

-- the tally of an outcome, given its path counts by layer and state, and the labels of its first path
abbrev pub tally_by_counts : {K : Type 0} → K → List (List ℕ) → List Label → PathCount K
tally_by_counts outcome counts labels =
    record { outcome = outcome; count = count_at (slice_index_or counts 0 []) 0; first = map (λ label. label.build) labels }

-- ---- the order of tallies

-- the first schedule comes before the second: it has the lower build at the first turn at which the two differ
abbrev pub is_before : List ℕ → List ℕ → Bool
is_before [] others = false
is_before (one ∷ ones) [] = false
is_before (one ∷ ones) (other ∷ others) = if one == other then is_before ones others else nat_lt one other

-- the index at which a tally with this first schedule belongs in a list sorted by first schedules
abbrev pub place_for : {K : Type 0} → List ℕ → List (PathCount K) → ℕ
place_for first [] = 0
place_for first (t ∷ tallies) = if is_before first t.first then 0 else suc (place_for first tallies)

-- the tallies with the given one, if any, inserted before the first tally that has a later first schedule, or else at
-- the end
abbrev pub with_tally : {K : Type 0} → Option (PathCount K) → List (PathCount K) → List (PathCount K)
with_tally None tallies = tallies
with_tally (Some tally) tallies = insert tallies (place_for tally.first tallies) tally

-- the tallies of all outcomes whose indices are below a bound, sorted by their first schedules
abbrev pub all_added : {K : Type 0} → (ℕ → Option (PathCount K)) → ℕ → List (PathCount K)
all_added tally_at zero = []
all_added tally_at (suc n) = with_tally (tally_at n) (all_added tally_at n)

-- ---- the tallies of a graph

-- the paths of a graph from its first state
abbrev pub paths_of : Graph → List (Path Label)
paths_of graph = paths (layers_of graph) 0

-- the tallies of the paths with a refused step, and of those without one
abbrev pub whole_tallies : Graph → List (PathCount Bool)
whole_tallies graph =
    with_tally (tally_of (shows (is_refusal_of graph.ends.items None)) true (paths_of graph))
    (with_tally (tally_of (shows_none (is_refusal_of graph.ends.items None)) false (paths_of graph)) [])

-- the tally of the paths with the given step outcome, whose index is `number`; None if no outcome is given, or no path
-- has it
abbrev pub tally_of_end : Graph → ℕ → Option EndOfStep → Option (PathCount EndOfStep)
tally_of_end graph number None = None
tally_of_end graph number (Some end) = tally_of (shows (λ label. has_number number label.end)) end (paths_of graph)

abbrev pub end_tally : Graph → ℕ → Option (PathCount EndOfStep)
end_tally graph number = tally_of_end graph number (slice_get graph.ends.items number)

-- the tally of the paths on which the build is never refused
abbrev pub never_refused_tally : Graph → ℕ → Option (PathCount ℕ)
never_refused_tally graph build = tally_of (shows_none (is_refusal_of graph.ends.items (Some build))) build (paths_of graph)

abbrev pub map_tally : Graph → ℕ → Option (PathCount ℕ)
map_tally graph map = tally_of (shows (λ label. has_number map label.map)) map (paths_of graph)

-- the tallies of the final maps; a plan without steps has one map, reached by the empty schedule
abbrev pub map_tallies : Graph → List (PathCount ℕ)
map_tallies graph =
    if length graph.layers.items == 1
    then record { outcome = 0; count = 1; first = [] } ∷ []
    else all_added (map_tally graph) (length graph.maps.items)

-- `outcomes` has the number of the graph's paths, and tallies of the paths by refusal, by step outcome, by build that
-- is never refused, and by final map.
pub record AreOutcomes (builds : ℕ) (graph : Graph) (outcomes : Outcomes) : Type 0 where
  pub schedule_count : outcomes.steps.schedule_count ≡ length (paths_of graph)
  pub by_refusal : map count_of_tally outcomes.steps.by_refusal.items ≡ whole_tallies graph
  pub ends : map count_of_tally outcomes.steps.ends.items ≡ all_added (end_tally graph) (length graph.ends.items)
  pub never_refused : map count_of_tally outcomes.steps.never_refused.items ≡ all_added (never_refused_tally graph) builds
  pub maps : map count_of_tally outcomes.maps.items ≡ map_tallies graph
