-- The paths of a layered graph, and the number of paths from each state.
use Rattle.std.specs.Prelude.{◌≡◌, ℕ, Bool, not, cond, List, [], ◌∷◌, map, filter, length, sum_by, Some, None, slice_get, slice_index_or}
use Rattle.std.specs.List.{flat_map, list_any}
use Rattle.schedule_graph.specs.declared.graph.Edge.{Edge}

-- a layer of a graph: for each state, the edges that lead from the state to the next layer
abbrev pub Layer : Type 0 → Type 0
Layer L = List (List (Edge L))

-- A path of a graph, as the list of its edges.
abbrev pub Path : Type 0 → Type 0
Path L = List (Edge L)

-- The paths from a state, given the state's edges and the paths from each state of the next layer. A path ends at a
-- state that no edge leaves. Else it goes on by one of the edges.
abbrev pub paths_by_edges : {L : Type 0} → (ℕ → List (Path L)) → List (Edge L) → List (Path L)
paths_by_edges next [] = [] ∷ []
paths_by_edges next (edge ∷ edges) = flat_map (λ e. map (λ path. e ∷ path) (next e.to)) (edge ∷ edges)

-- the paths from a state of the first layer; none if the layer has no such state
abbrev pub paths : {L : Type 0} → List (Layer L) → ℕ → List (Path L)
paths [] state = []
paths (layer ∷ layers) state = elim (slice_get layer state) [ Some edges ↦ paths_by_edges (paths layers) edges | None ↦ [] ]

-- some edge of the path has a label that satisfies `is`
abbrev pub shows : {L : Type 0} → (L → Bool) → Path L → Bool
shows is path = list_any (λ edge. is edge.label) path

-- ---- counts, one for each state of a layer

-- for each state of the first layer, its count is the number of all paths from it
abbrev pub AreCounts : {L : Type 0} → List (Layer L) → List ℕ → Type 0
AreCounts layers counts = (state : ℕ) → slice_index_or counts state 0 ≡ length (paths layers state)

-- for each state of the first layer, its count is the number of paths from it on which some label satisfies `is`
abbrev pub AreCountsWith : {L : Type 0} → (L → Bool) → List (Layer L) → List ℕ → Type 0
AreCountsWith is layers counts = (state : ℕ) → slice_index_or counts state 0 ≡ length (filter (shows is) (paths layers state))

-- for each state of the first layer, its count is the number of paths from it on which no label satisfies `is`
abbrev pub AreCountsWithout : {L : Type 0} → (L → Bool) → List (Layer L) → List ℕ → Type 0
AreCountsWithout is layers counts =
    (state : ℕ) → slice_index_or counts state 0 ≡ length (filter (λ path. not (shows is path)) (paths layers state))

-- ---- the counts of a state, given those of the next layer

-- the count of a state; 0 if the list has no count for it
abbrev pub count_at : List ℕ → ℕ → ℕ
count_at counts state = slice_index_or counts state 0

-- the number of paths from a state with the given edges, by the counts of the next layer
abbrev pub path_count : {L : Type 0} → List ℕ → List (Edge L) → ℕ
path_count next [] = 1
path_count next (edge ∷ edges) = sum_by (λ e. count_at next e.to) (edge ∷ edges)

-- The number of paths, from a state with the given edges, on which some label satisfies `is`. After such a label, a
-- path may go on in any way.
abbrev pub with_count : {L : Type 0} → (L → Bool) → List ℕ → List ℕ → List (Edge L) → ℕ
with_count is next next_with edges = sum_by (λ e. cond (is e.label) (count_at next e.to) (count_at next_with e.to)) edges

-- the number of paths, from a state with the given edges, on which no label satisfies `is`
abbrev pub without_count : {L : Type 0} → (L → Bool) → List ℕ → List (Edge L) → ℕ
without_count is next_without [] = 1
without_count is next_without (edge ∷ edges) =
    sum_by (λ e. cond (is e.label) 0 (count_at next_without e.to)) (edge ∷ edges)
