-- A proof that cutting a state graph after a layer keeps the layers up to it, and the next layer's states without their
-- edges.
use Rattle.std.proofs.Common.{◌≡◌, ℕ, ◌+◌, ◌<◌, List, [], ◌∷◌, ◌++◌, map, take, get_or, length, Vec, Global, vec_items, sym, ap, ◌∙◌}
use Rattle.std.specs.Prelude.{slice_index_or}
use Rattle.std.proofs.lemmas.List.{map-append, take-map, take_more}
use Rattle.std.proofs.lemmas.Simd.{map-map}
use Rattle.std.proofs.Math.ListN as seq
use Rattle.plan_states.specs.Shortest.{cut_after}
use Rattle.schedule_graph.specs.First.{layers_in}
use Rattle.schedule_graph.specs.declared.graph.Edge.{Edge}
use Rattle.plan_states.specs.declared.edges.Label.{Label}

abbrev pub Edges : Type 0
Edges = Vec (Edge Label) Global

abbrev pub layer_in : Vec Edges Global → List (List (Edge Label))
layer_in layer = map vec_items (vec_items layer)

-- the first `depth + 1` layers, followed by the next layer's states without their edges, are the layers cut after
-- `depth`
pub cut_is :
    (layers kept new : List (Vec Edges Global)) (depth : ℕ) (states : Vec Edges Global) → kept ≡ take (depth + 1) layers → new ≡ kept ++ states ∷ []
    → map vec_items states.items ≡ map (λ edges. []) (slice_index_or (map vec_items layers) (depth + 1) [])
    → layers_in new ≡ cut_after depth (layers_in layers)
cut_is layers kept new depth states is_kept_mark is_new bare =
    let n = depth + 1 in
    let next : List Edges = get_or (map vec_items layers) n [] in
    let there : get_or (layers_in layers) n [] ≡ map vec_items next =
    ap (λ (ls : List (List (List (Edge Label)))). get_or ls n []) (sym (map-map (map vec_items) vec_items layers))
    ∙ seq.get_or-map (map vec_items) (map vec_items layers) n [] in
    let f : List (Edge Label) → List (Edge Label) = λ edges. [] in
    let ends : layer_in states ≡ map f (get_or (layers_in layers) n []) =
    bare ∙ sym (map-map f vec_items next) ∙ ap (map f) (sym there) in
    let front : map layer_in kept ≡ take n (layers_in layers) = ap (map layer_in) is_kept_mark ∙ sym (take-map layer_in n layers) in
    ap layers_in is_new ∙ map-append layer_in kept (states ∷ []) ∙ (λ j. front j ++ ends j ∷ [])

-- a copy of a layer's first `i` states without edges, followed by the next state without edges, is a copy of the first
-- `i + 1` states without edges
pub bare_more :
    (layer : List Edges) (i : ℕ) (old new : List Edges) (bare : Edges) → i < length layer → bare.items ≡ [] → new ≡ old ++ bare ∷ []
    → map vec_items old ≡ map (λ edges. []) (take i layer) → map vec_items new ≡ map (λ edges. []) (take (i + 1) layer)
bare_more layer i old new bare inside empty more before =
    let f : Edges → List (Edge Label) = λ edges. [] in
    ap (map vec_items) more ∙ map-append vec_items old (bare ∷ []) ∙ (λ j. before j ++ empty j ∷ [])
    ∙ sym (ap (map f) (take_more layer i bare inside) ∙ map-append f (take i layer) (get_or layer i bare ∷ []))
