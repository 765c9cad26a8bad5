-- Proofs that the path counts of a layer follow from the path counts of the next layer.
use Rattle.std.proofs.Common.{◌≡◌, ℕ, zero, suc, ◌+◌, Bool, true, false, not, cond, ◌||◌, List, [], ◌∷◌, map, length, length-append, Vec, Global, vec_items, Some, None, refl, sym, ap, ◌∙◌}
use Rattle.std.specs.Prelude.{sum_by, filter, slice_get, slice_index_or}
use Rattle.std.specs.List.{flat_map}
use Rattle.std.proofs.lemmas.List.{length-map}
use Rattle.std.proofs.lemmas.List.Concat.{flat_map-cons, length-flat_map}
use Rattle.std.proofs.lemmas.List.Elements.{filter-append}
use Rattle.std.proofs.lemmas.List.Sums.{sum_by-cons}
use Rattle.schedule_graph.specs.Paths.{Layer, Path, paths_by_edges, paths, shows, AreCounts, AreCountsWith, AreCountsWithout, count_at, path_count, with_count, without_count}
use Rattle.schedule_graph.specs.declared.graph.Edge.{Edge}

-- ---- a layer of counts

-- If `count` gives, for any edges, how many of the paths along them `keep` keeps, then mapping `count` over a layer
-- gives these numbers for the layer's states. A missing state has the count 0.
layer_at : {L : Type 0} (keep : List (Path L) → List (Path L)) → keep [] ≡ [] → (count : List (Edge L) → ℕ) (whole : List (Edge L) → List (Path L))
    → ((edges : List (Edge L)) → count edges ≡ length {A = Path L} (keep (whole edges)))
    → (layer : List (Vec (Edge L) Global)) (state : ℕ)
    → slice_index_or (map (λ (edges : Vec (Edge L) Global). count (vec_items edges)) layer) state 0
    ≡ length {A = Path L} (keep (elim (slice_get (map vec_items layer) state) [ Some edges ↦ whole edges | None ↦ [] ]))
layer_at {L} keep none count whole are [] state = sym (ap (λ (ps : List (Path L)). length ps) none)
layer_at keep none count whole are (edges ∷ layer) zero = are (vec_items edges)
layer_at keep none count whole are (edges ∷ layer) (suc state) = layer_at keep none count whole are layer state

-- ---- all paths

abbrev onto : {L : Type 0} → Edge L → List (Path L) → List (Path L)
onto {L} edge ps = map (λ (path : Path L). edge ∷ path) ps

module _ {L : Type 0} (layers : List (Layer L)) (next : List ℕ) (are : AreCounts layers next) where
  by_edge : (edge : Edge L) → count_at next edge.to ≡ length {A = Path L} (onto edge (paths layers edge.to))
  by_edge edge = are edge.to ∙ sym (length-map (paths layers edge.to) (λ (path : Path L). edge ∷ path))

  by_edges : (edges : List (Edge L)) → path_count next edges ≡ length {A = Path L} (paths_by_edges (paths layers) edges)
  by_edges [] = refl
  by_edges (edge ∷ edges) =
      (λ i. sum_by (λ (e : Edge L). by_edge e i) (edge ∷ edges)) ∙ sym (length-flat_map (λ (e : Edge L). onto e (paths layers e.to)) (edge ∷ edges))

  pub counts_of_layer : (layer : List (Vec (Edge L) Global)) → AreCounts (map vec_items layer ∷ layers) (map (λ (edges : Vec (Edge L) Global). path_count next (vec_items edges)) layer)
  counts_of_layer layer = layer_at (λ ps. ps) refl (path_count next) (paths_by_edges (paths layers)) by_edges layer

-- ---- paths that show a label, and those that do not

length-filter-flat_map : {X Y : Type 0} (keep : Y → Bool) (f : X → List Y) (xs : List X) → length (filter keep (flat_map f xs)) ≡ sum_by (λ x. length (filter keep (f x))) xs
length-filter-flat_map keep f [] = refl
length-filter-flat_map keep f (x ∷ xs) =
    ap (λ ys. length (filter keep ys)) (flat_map-cons f x xs)
    ∙ ap length (filter-append keep (f x) (flat_map f xs))
    ∙ length-append (filter keep (f x)) (filter keep (flat_map f xs))
    ∙ ap (λ n. length (filter keep (f x)) + n) (length-filter-flat_map keep f xs)
    ∙ sym (sum_by-cons (λ x. length (filter keep (f x))) x xs)

module _ {L : Type 0} (is : L → Bool) where
  keep_with : (edge : Edge L) (ps : List (Path L)) (t : Bool) → is edge.label ≡ t
      → length (filter (shows is) (onto edge ps)) ≡ cond t (length ps) (length (filter (shows is) ps))
  keep_with edge [] true on = refl
  keep_with edge [] false on = refl
  keep_with edge (p ∷ ps) true on =
      ap (λ t. length (cond (t || shows is p) ((edge ∷ p) ∷ filter (shows is) (onto edge ps)) (filter (shows is) (onto edge ps)))) on
      ∙ ap suc (keep_with edge ps true on)
  keep_with edge (p ∷ ps) false on =
      ap (λ t. length (cond (t || shows is p) ((edge ∷ p) ∷ filter (shows is) (onto edge ps)) (filter (shows is) (onto edge ps)))) on
      ∙ (elim (shows is p) as (λ t. length (cond t ((edge ∷ p) ∷ filter (shows is) (onto edge ps)) (filter (shows is) (onto edge ps))) ≡ length (cond t (p ∷ filter (shows is) ps) (filter (shows is) ps))) [
        | true ↦ ap suc (keep_with edge ps false on)
        | false ↦ keep_with edge ps false on
      ])

  abbrev lacks : Path L → Bool
  lacks path = not (shows is path)

  keep_without : (edge : Edge L) (ps : List (Path L)) (t : Bool) → is edge.label ≡ t
      → length (filter lacks (onto edge ps)) ≡ cond t 0 (length (filter lacks ps))
  keep_without edge [] true on = refl
  keep_without edge [] false on = refl
  keep_without edge (p ∷ ps) true on =
      ap (λ t. length (cond (not (t || shows is p)) ((edge ∷ p) ∷ filter lacks (onto edge ps)) (filter lacks (onto edge ps)))) on
      ∙ keep_without edge ps true on
  keep_without edge (p ∷ ps) false on =
      ap (λ t. length (cond (not (t || shows is p)) ((edge ∷ p) ∷ filter lacks (onto edge ps)) (filter lacks (onto edge ps)))) on
      ∙ (elim (shows is p) as (λ t. length (cond (not t) ((edge ∷ p) ∷ filter lacks (onto edge ps)) (filter lacks (onto edge ps))) ≡ length (cond (not t) (p ∷ filter lacks ps) (filter lacks ps))) [
        | true ↦ keep_without edge ps false on
        | false ↦ ap suc (keep_without edge ps false on)
      ])

  module _ (layers : List (Layer L)) (next with_it : List ℕ) (are : AreCounts layers next) (are_with : AreCountsWith is layers with_it) where
    with_by_edge : (e : Edge L) → cond (is e.label) (count_at next e.to) (count_at with_it e.to) ≡ length (filter (shows is) (onto e (paths layers e.to)))
    with_by_edge e =
        ap (λ n. cond (is e.label) n (count_at with_it e.to)) (are e.to)
        ∙ ap (cond (is e.label) (length {A = Path L} (paths layers e.to))) (are_with e.to)
        ∙ sym (keep_with e (paths layers e.to) (is e.label) refl)

    with_by_edges : (edges : List (Edge L)) → with_count is next with_it edges ≡ length (filter (shows is) (paths_by_edges (paths layers) edges))
    with_by_edges [] = refl
    with_by_edges (edge ∷ edges) =
        (λ i. sum_by (λ (e : Edge L). with_by_edge e i) (edge ∷ edges))
        ∙ sym (length-filter-flat_map (shows is) (λ (e : Edge L). onto e (paths layers e.to)) (edge ∷ edges))

    pub counts_with_of_layer : (layer : List (Vec (Edge L) Global)) → AreCountsWith is (map vec_items layer ∷ layers) (map (λ (edges : Vec (Edge L) Global). with_count is next with_it (vec_items edges)) layer)
    counts_with_of_layer layer = layer_at (filter (shows is)) refl (with_count is next with_it) (paths_by_edges (paths layers)) with_by_edges layer

  module _ (layers : List (Layer L)) (without_it : List ℕ) (are_without : AreCountsWithout is layers without_it) where
    without_by_edge : (e : Edge L) → cond (is e.label) 0 (count_at without_it e.to) ≡ length (filter lacks (onto e (paths layers e.to)))
    without_by_edge e = ap (cond (is e.label) 0) (are_without e.to) ∙ sym (keep_without e (paths layers e.to) (is e.label) refl)

    without_by_edges : (edges : List (Edge L)) → without_count is without_it edges ≡ length (filter lacks (paths_by_edges (paths layers) edges))
    without_by_edges [] = refl
    without_by_edges (edge ∷ edges) =
        (λ i. sum_by (λ (e : Edge L). without_by_edge e i) (edge ∷ edges))
        ∙ sym (length-filter-flat_map lacks (λ (e : Edge L). onto e (paths layers e.to)) (edge ∷ edges))

    pub counts_without_of_layer : (layer : List (Vec (Edge L) Global)) → AreCountsWithout is (map vec_items layer ∷ layers) (map (λ (edges : Vec (Edge L) Global). without_count is without_it (vec_items edges)) layer)
    counts_without_of_layer layer = layer_at (filter lacks) refl (without_count is without_it) (paths_by_edges (paths layers)) without_by_edges layer
