-- The path counts of all layers of a graph, and the first path on which some label, or no label, has a property.
use Rattle.std.specs.Prelude.{◌≡◌, ℕ, nat_lt, Bool, true, not, cond, ◌||◌, List, [], map, filter, length, drop, Option, option_map, slice_index_or, Vec, vec_items}
use Rattle.std.specs.List.{find}
use Rattle.std.specs.declared.alloc.Global.{Global}
use Rattle.schedule_graph.specs.Paths.{Layer, Path, paths, shows, count_at}
use Rattle.schedule_graph.specs.declared.graph.Edge.{Edge}

-- the layers of a graph as lists, given the nested vectors that hold them
abbrev pub layers_in : {L : Type 0} → List (Vec (Vec (Edge L) Global) Global) → List (Layer L)
layers_in layers = map (λ layer. map vec_items (vec_items layer)) layers

-- the path counts of all layers as lists, given the vectors that hold them
abbrev pub path_numbers_in : List (Vec ℕ Global) → List (List ℕ)
path_numbers_in counts = map vec_items counts

-- For each state of each layer, the given count is the number of paths from the state that satisfy `like`. A count that
-- is left out is 0.
abbrev pub ArePathNumbers : {L : Type 0} → (Path L → Bool) → List (Layer L) → List (List ℕ) → Type 0
ArePathNumbers like layers counts =
    (depth state : ℕ) → count_at (slice_index_or counts depth []) state ≡ length (filter like (paths (drop depth layers) state))

-- the labels of the first path that satisfies `like`, if there is one
abbrev pub first_like : {L : Type 0} → (Path L → Bool) → List (Path L) → Option (List L)
first_like like ps = option_map (λ path. map (λ edge. edge.label) path) (find like ps)

-- true for every path
abbrev pub any_path : {L : Type 0} → Path L → Bool
any_path path = true

-- no label of the path satisfies `is`
abbrev pub shows_none : {L : Type 0} → (L → Bool) → Path L → Bool
shows_none is path = not (shows is path)

-- ---- the next edge of a path

-- The edge leads to a state from which at least one path is counted, by the counts of the next layer. One list is for
-- paths on which this edge or an earlier one has a label that satisfies `is`, and one for the other paths.
abbrev pub goes_on : {L : Type 0} → (L → Bool) → Bool → List ℕ → List ℕ → Edge L → Bool
goes_on is shown with_it without_it edge = nat_lt 0 (count_at (cond (shown || is edge.label) with_it without_it) edge.to)
