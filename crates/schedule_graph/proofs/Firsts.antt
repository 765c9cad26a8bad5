-- Proofs that the path counts lead, edge by edge, to the first path on which some label, or no label, has a property.
use Rattle.std.proofs.Common.{◌≡◌, ℕ, zero, suc, ◌+◌, ◌<◌, ◌≤◌, Bool, true, false, cond, ◌||◌, List, [], ◌∷◌, ◌++◌, map, length, take, drop, drop-cons, append_assoc, add-one, Vec, Global, vec_items, Option, Some, None, refl, sym, ap, ◌∙◌, subst, arith}
use Rattle.std.specs.Prelude.{filter, nat_lt, option_map, slice_index_or}
use Rattle.std.specs.List.{find, flat_map}
use Rattle.std.proofs.lemmas.Bool.{ltb-true, ltb-false}
use Rattle.std.proofs.lemmas.Option.{none-some, same_Some}
use Rattle.std.proofs.Math.ListN.{drop_of_length-le}
use Rattle.std.proofs.lemmas.List.{append-nil, get_or-map, length-map}
use Rattle.std.proofs.lemmas.List.Concat.{flat_map-cons}
use Rattle.schedule_graph.specs.Paths.{Layer, Path, paths_by_edges, paths, shows, count_at}
use Rattle.schedule_graph.specs.First.{first_like, layers_in, goes_on, ArePathNumbers}
use Rattle.schedule_graph.specs.declared.graph.Edge.{Edge}

-- ---- what is found, and how many there are

find_none : {X : Type 0} (p : X → Bool) (xs : List X) → length (filter p xs) ≡ 0 → find p xs ≡ None
find_none p [] none = refl
find_none p (x ∷ xs) none =
    (elim (p x) as (λ t. length (cond t (x ∷ filter p xs) (filter p xs)) ≡ 0 → cond t (Some x) (find p xs) ≡ None) [
      | true ↦ λ some. absurd (omega (arith, some))
      | false ↦ find_none p xs
    ]) none

-- if some element of `xs` satisfies `p`, a search for `p` in `xs ++ ys` finds the same element as a search in `xs`
find_early : {X : Type 0} (p : X → Bool) (xs ys : List X) → 0 < length (filter p xs) → find p (xs ++ ys) ≡ find p xs
find_early p [] ys some = absurd (omega (arith, some))
find_early p (x ∷ xs) ys some =
    (elim (p x) as (λ t. 0 < length (cond t (x ∷ filter p xs) (filter p xs)) → cond t (Some x) (find p (xs ++ ys)) ≡ cond t (Some x) (find p xs)) [
      | true ↦ λ _. refl
      | false ↦ find_early p xs ys
    ]) some

find_later : {X : Type 0} (p : X → Bool) (xs ys : List X) → length (filter p xs) ≡ 0 → find p (xs ++ ys) ≡ find p ys
find_later p [] ys none = refl
find_later p (x ∷ xs) ys none =
    (elim (p x) as (λ t. length (cond t (x ∷ filter p xs) (filter p xs)) ≡ 0 → cond t (Some x) (find p (xs ++ ys)) ≡ find p ys) [
      | true ↦ λ some. absurd (omega (arith, some))
      | false ↦ find_later p xs ys
    ]) none

-- ---- paths from an edge

abbrev onto : {L : Type 0} → Edge L → List (Path L) → List (Path L)
onto {L} edge ps = map (λ (path : Path L). edge ∷ path) ps

or_on : (a b c : Bool) → (a || (b || c)) ≡ ((a || b) || c)
or_on true b c = refl
or_on false b c = refl

abbrev labels_of : {L : Type 0} → Path L → List L
labels_of {L} path = map (λ (e : Edge L). e.label) path

module _ {L : Type 0} (is : L → Bool) (accept : Bool → Bool) where
  -- the path is allowed by `accept`, which is given `true` if `shown` is true or some label on the path satisfies `is`
  abbrev pub like : Bool → Path L → Bool
  like shown path = accept (shown || shows is path)

  abbrev pub on : Bool → Edge L → Bool
  on shown edge = shown || is edge.label

  like-cons : (edge : Edge L) (path : Path L) (shown : Bool) → like shown (edge ∷ path) ≡ like (on shown edge) path
  like-cons edge path shown = ap accept (or_on shown (is edge.label) (shows is path))

  find-onto : (edge : Edge L) (ps : List (Path L)) (shown : Bool)
      → find (like shown) (onto edge ps) ≡ option_map (λ (path : Path L). edge ∷ path) (find (like (on shown edge)) ps)
  find-onto edge [] shown = refl
  find-onto edge (p ∷ ps) shown =
      ap (λ t. cond t (Some (edge ∷ p)) (find (like shown) (onto edge ps))) (like-cons edge p shown)
      ∙ (elim (like (on shown edge) p) as (λ t. cond t (Some (edge ∷ p)) (find (like shown) (onto edge ps))
      ≡ option_map (λ (path : Path L). edge ∷ path) (cond t (Some p) (find (like (on shown edge)) ps))) [
        | true ↦ refl
        | false ↦ find-onto edge ps shown
      ])

  count-onto : (edge : Edge L) (ps : List (Path L)) (shown : Bool)
      → length (filter (like shown) (onto edge ps)) ≡ length (filter (like (on shown edge)) ps)
  count-onto edge [] shown = refl
  count-onto edge (p ∷ ps) shown =
      ap (λ t. length (cond t ((edge ∷ p) ∷ filter (like shown) (onto edge ps)) (filter (like shown) (onto edge ps)))) (like-cons edge p shown)
      ∙ (elim (like (on shown edge) p) as (λ t. length (cond t ((edge ∷ p) ∷ filter (like shown) (onto edge ps)) (filter (like shown) (onto edge ps)))
      ≡ length (cond t (p ∷ filter (like (on shown edge)) ps) (filter (like (on shown edge)) ps))) [
        | true ↦ ap suc (count-onto edge ps shown)
        | false ↦ count-onto edge ps shown
      ])

  -- ---- the next edge

  -- the lists `with_it` and `without_it` count the allowed paths from each state of the next layer: after a label that
  -- satisfies `is`, and after none
  module _ (next : ℕ → List (Path L)) (with_it without_it : List ℕ)
      (are : (shown : Bool) (state : ℕ) → count_at (cond shown with_it without_it) state ≡ length (filter (like shown) (next state))) where
    abbrev pub goes : Bool → Edge L → Bool
    goes shown edge = goes_on is shown with_it without_it edge

    abbrev from : Edge L → List (Path L)
    from edge = onto edge (next edge.to)

    number_from : (edge : Edge L) (shown : Bool) → count_at (cond (on shown edge) with_it without_it) edge.to ≡ length (filter (like shown) (from edge))
    number_from edge shown = are (on shown edge) edge.to ∙ sym (count-onto edge (next edge.to) shown)

    -- the first allowed path that begins with the given edge; `None` if there is no edge or no such path
    abbrev pub by_next : Bool → Option (Edge L) → Option (Path L)
    by_next shown None = None
    by_next shown (Some edge) = option_map (λ (path : Path L). edge ∷ path) (find (like (on shown edge)) (next edge.to))

    pub find-edges : (edges : List (Edge L)) (shown : Bool) → find (like shown) (flat_map from edges) ≡ by_next shown (find (goes shown) edges)
    find-edges [] shown = refl
    find-edges (edge ∷ edges) shown =
        ap (find (like shown)) (flat_map-cons from edge edges) ∙ at (find-edges edges shown) (goes shown edge) refl
      where
        at : find (like shown) (flat_map from edges) ≡ by_next shown (find (goes shown) edges) → (t : Bool) → goes shown edge ≡ t → find (like shown) (from edge ++ flat_map from edges) ≡ by_next shown (cond t (Some edge) (find (goes shown) edges))
        at later true some =
            let more = ltb-true 0 (count_at (cond (on shown edge) with_it without_it) edge.to) some in
            let number = number_from edge shown in
            find_early (like shown) (from edge) (flat_map from edges) (omega (arith, more, number)) ∙ find-onto edge (next edge.to) shown
        at later false none =
            let fewer = ltb-false 0 (count_at (cond (on shown edge) with_it without_it) edge.to) none in
            let number = number_from edge shown in
            find_later (like shown) (from edge) (flat_map from edges) (omega (arith, fewer, number)) ∙ later

find_some : {X : Type 0} (p : X → Bool) (xs : List X) → 0 < length (filter p xs) → find p xs ≡ None → ⊥
find_some p [] some none = omega (arith, some)
find_some p (x ∷ xs) some none =
    (elim (p x) as (λ t. 0 < length (cond t (x ∷ filter p xs) (filter p xs)) → cond t (Some x) (find p xs) ≡ None → ⊥) [
      | true ↦ λ _ clash. none-some x (sym clash)
      | false ↦ find_some p xs
    ]) some none

found_is : {X : Type 0} (p : X → Bool) (xs : List X) (x : X) → find p xs ≡ Some x → p x ≡ true
found_is p [] x found = cc
found_is p (y ∷ xs) x found = at (found_is p xs x) (p y) refl found
  where
    at : (find p xs ≡ Some x → p x ≡ true) → (t : Bool) → p y ≡ t → cond t (Some y) (find p xs) ≡ Some x → p x ≡ true
    at later true is found = ap p (sym (same_Some y x found)) ∙ is
    at later false is found = later found

-- ---- a layer

module _ {L : Type 0} (layers : List (Layer L)) where
  -- if a state has edges, its paths are those along the first edge, then those along the next, and so on
  paths_at : (layer : Layer L) (state : ℕ) (edge : Edge L) (edges : List (Edge L)) → slice_index_or layer state [] ≡ edge ∷ edges
      → paths (layer ∷ layers) state ≡ flat_map (λ e. onto e (paths layers e.to)) (edge ∷ edges)
  paths_at [] state edge edges same = cc
  paths_at (here ∷ layer) zero edge edges same = ap (paths_by_edges (paths layers)) same
  paths_at (here ∷ layer) (suc state) edge edges same = paths_at layer state edge edges same

  -- if `P` holds for the list of no path and for the list of only the empty path, `P` holds for the paths from a state
  -- that no edge leaves
  no_edges : (layer : Layer L) (state : ℕ) (P : List (Path L) → Type 0) → P [] → P ([] ∷ []) → slice_index_or layer state [] ≡ [] → P (paths (layer ∷ layers) state)
  no_edges [] state P none one same = none
  no_edges (here ∷ layer) zero P none one same = subst (λ edges. P (paths_by_edges (paths layers) edges)) (sym same) one
  no_edges (here ∷ layer) (suc state) P none one same = no_edges layer state P none one same

  module _ (is : L → Bool) (accept : Bool → Bool) (with_it without_it : List ℕ)
      (are : (shown : Bool) (state : ℕ) → count_at (cond shown with_it without_it) state ≡ length (filter (like is accept shown) (paths layers state)))
      (layer : Layer L) (state : ℕ) (shown : Bool) where
    abbrev edges_here : List (Edge L)
    edges_here = slice_index_or layer state []

    abbrev next_edge : Option (Edge L)
    next_edge = find (goes_on is shown with_it without_it) edges_here

    abbrev labels_onto : L → Option (List L) → Option (List L)
    labels_onto label more = option_map (λ labels. label ∷ labels) more

    labels-onto : (edge : Edge L) (found : Option (Path L))
        → option_map labels_of (option_map (λ path. edge ∷ path) found) ≡ labels_onto edge.label (option_map labels_of found)
    labels-onto edge None = refl
    labels-onto edge (Some path) = refl

    module _ (edge : Edge L) (next : next_edge ≡ Some edge) where
      -- the first allowed path goes along the next edge, and then along the first allowed path from there
      pub first_by : first_like (like is accept shown) (paths (layer ∷ layers) state) ≡ labels_onto edge.label (first_like (like is accept (on is accept shown edge)) (paths layers edge.to))
      first_by = at edges_here refl
        where
          at : (edges : List (Edge L)) → edges_here ≡ edges
              → first_like (like is accept shown) (paths (layer ∷ layers) state) ≡ labels_onto edge.label (first_like (like is accept (on is accept shown edge)) (paths layers edge.to))
          at [] same = absurd (none-some edge (ap (find (goes_on is shown with_it without_it)) (sym same) ∙ next))
          at (e ∷ es) same =
              ap (first_like (like is accept shown)) (paths_at layer state e es same)
              ∙ ap (option_map labels_of) (
              find-edges is accept (paths layers) with_it without_it are (e ∷ es) shown
              ∙ ap (by_next is accept (paths layers) with_it without_it are shown) (ap (find (goes_on is shown with_it without_it)) (sym same) ∙ next))
              ∙ labels-onto edge (find (like is accept (on is accept shown edge)) (paths layers edge.to))

      -- there is an allowed path from the state that the next edge leads to
      pub there_is : 0 < length (filter (like is accept (on is accept shown edge)) (paths layers edge.to))
      there_is =
          let some = ltb-true 0 (count_at (cond (on is accept shown edge) with_it without_it) edge.to) (found_is (goes_on is shown with_it without_it) edges_here edge next) in
          let number = are (on is accept shown edge) edge.to in
          omega (arith, some, number)

    -- if there is an allowed path but no next edge, the first allowed path is empty
    pub ends_here : next_edge ≡ None → 0 < length (filter (like is accept shown) (paths (layer ∷ layers) state))
        → first_like (like is accept shown) (paths (layer ∷ layers) state) ≡ Some []
    ends_here none = at edges_here refl
      where
        one : (t : Bool) → 0 < length (cond {A = List (Path L)} t ([] ∷ []) []) → option_map (labels_of {L = L}) (cond t (Some []) None) ≡ Some []
        one true some = refl
        one false some = absurd (omega (arith, some))

        at : (edges : List (Edge L)) → edges_here ≡ edges → 0 < length (filter (like is accept shown) (paths (layer ∷ layers) state))
            → first_like (like is accept shown) (paths (layer ∷ layers) state) ≡ Some []
        at [] same =
            no_edges layer state (λ ps. 0 < length (filter (like is accept shown) ps) → first_like (like is accept shown) ps ≡ Some [])
            (λ some. absurd (omega (arith, some))) (one (like is accept shown [])) same
        at (e ∷ es) same = λ some.
            let paths_are = paths_at layer state e es same in
            absurd (find_some (like is accept shown) (flat_map (λ x. onto x (paths layers x.to)) (e ∷ es)) (subst (λ ps. 0 < length (filter (like is accept shown) ps)) paths_are some) (
            find-edges is accept (paths layers) with_it without_it are (e ∷ es) shown
            ∙ ap (by_next is accept (paths layers) with_it without_it are shown) (ap (find (goes_on is shown with_it without_it)) (sym same) ∙ none)))

-- ---- a walk along the first path

option_map-id : {X : Type 0} (o : Option (List X)) → o ≡ option_map (λ more. [] ++ more) o
option_map-id None = refl
option_map-id (Some more) = refl

option_map-push : {X : Type 0} (labels : List X) (label : X) (o : Option (List X))
    → option_map (λ more. labels ++ more) (option_map (λ more. label ∷ more) o) ≡ option_map (λ more. (labels ++ label ∷ []) ++ more) o
option_map-push labels label None = refl
option_map-push labels label (Some more) = ap Some (sym (append_assoc labels (label ∷ []) more))

module _ {L : Type 0} (is : L → Bool) (accept : Bool → Bool) (layers : List (Layer L)) where
  -- The first allowed path from state 0 has the labels `labels`, and then the labels of the first allowed path from
  -- `state` in layer `depth`. There is an allowed path from that state.
  pub record IsOnWay (depth state : ℕ) (shown : Bool) (labels : List L) : Type 0 where
    pub first : first_like (like is accept false) (paths layers 0) ≡ option_map (λ more. labels ++ more) (first_like (like is accept shown) (paths (drop depth layers) state))
    pub some : 0 < length (filter (like is accept shown) (paths (drop depth layers) state))

  pub way_begins : (labels : List L) → labels ≡ [] → 0 < length (filter (like is accept false) (paths layers 0)) → IsOnWay 0 0 false labels
  way_begins labels none some = record {
    first = option_map-id (first_like (like is accept false) (paths layers 0)) ∙ ap (λ ls. option_map (λ more. ls ++ more) (first_like (like is accept false) (paths layers 0))) (sym none);
    some = some;
  }

  -- `IsOnWay` does not hold if `depth` is the number of layers or more
  pub way_is_over : (depth state : ℕ) (shown : Bool) (labels : List L) → length layers ≤ depth → IsOnWay depth state shown labels → ⊥
  way_is_over depth state shown labels past way = at (drop depth layers) (drop_of_length-le layers past) way.some
    where
      at : (ls : List (Layer L)) → ls ≡ [] → 0 < length (filter (like is accept shown) (paths ls state)) → ⊥
      at [] none some = omega (arith, some)
      at (l ∷ ls) none some = cc

  module _ (with_it without_it : List (List ℕ))
      (are_with : ArePathNumbers (λ path. accept true) layers with_it) (are_without : ArePathNumbers (λ path. accept (shows is path)) layers without_it)
      (depth state : ℕ) (shown : Bool) (labels : List L) (inside : depth < length layers) (way : IsOnWay depth state shown labels) where
    are_next : (shown : Bool) (state : ℕ) → count_at (cond shown (slice_index_or with_it (depth + 1) []) (slice_index_or without_it (depth + 1) [])) state
        ≡ length (filter (like is accept shown) (paths (drop (depth + 1) layers) state))
    are_next true state = are_with (depth + 1) state
    are_next false state = are_without (depth + 1) state

    abbrev here : List (Layer L)
    here = slice_index_or layers depth [] ∷ drop (depth + 1) layers

    at_here : drop depth layers ≡ here
    at_here = drop-cons layers depth [] inside ∙ ap (λ k. slice_index_or layers depth [] ∷ drop k layers) (sym (add-one depth))

    abbrev edge_next : Option (Edge L)
    edge_next = find (goes_on is shown (slice_index_or with_it (depth + 1) []) (slice_index_or without_it (depth + 1) [])) (slice_index_or (slice_index_or layers depth []) state [])

    pub way_goes_on : (edge : Edge L) → edge_next ≡ Some edge → IsOnWay (depth + 1) edge.to (shown || is edge.label) (labels ++ edge.label ∷ [])
    way_goes_on edge next = record {
      first =
          way.first
          ∙ ap (λ ls. option_map (λ more. labels ++ more) (first_like (like is accept shown) (paths ls state))) at_here
          ∙ ap (option_map (λ more. labels ++ more)) (first_by (drop (depth + 1) layers) is accept _ _ are_next (slice_index_or layers depth []) state shown edge next)
          ∙ option_map-push labels edge.label (first_like (like is accept (shown || is edge.label)) (paths (drop (depth + 1) layers) edge.to));
      some = there_is (drop (depth + 1) layers) is accept _ _ are_next (slice_index_or layers depth []) state shown edge next;
    }

    pub way_ends : edge_next ≡ None → first_like (like is accept false) (paths layers 0) ≡ Some labels
    way_ends none =
        way.first
        ∙ ap (λ ls. option_map (λ more. labels ++ more) (first_like (like is accept shown) (paths ls state))) at_here
        ∙ ap (option_map (λ more. labels ++ more)) (ends_here (drop (depth + 1) layers) is accept _ _ are_next (slice_index_or layers depth []) state shown none
        (subst (λ ls. 0 < length (filter (like is accept shown) (paths ls state))) at_here way.some))
        ∙ ap Some (append-nil labels)

-- ---- a search for the first, element by element

pub find_at : {X : Type 0} (p : X → Bool) (xs : List X) (i : ℕ) (x : X) → find p (take i xs) ≡ None → i < length xs → x ≡ slice_index_or xs i x → p x ≡ true → Some x ≡ find p xs
find_at p [] i x none inside is on = absurd (omega (arith, inside))
find_at p (y ∷ xs) zero x none inside is on = ap Some is ∙ sym (ap (λ t. cond t (Some y) (find p xs)) (ap p (sym is) ∙ on))
find_at p (y ∷ xs) (suc i) x none inside is on =
    (elim (p y) as (λ t. cond t (Some y) (find p (take i xs)) ≡ None → Some x ≡ cond t (Some y) (find p xs)) [
      | true ↦ λ clash. absurd (none-some y (sym clash))
      | false ↦ λ later. find_at p xs i x later (omega (arith, inside)) is on
    ]) none

find_past_suc : {X : Type 0} (p : X → Bool) (xs : List X) (i : ℕ) (x : X) → find p (take i xs) ≡ None → i < length xs → x ≡ slice_index_or xs i x → p x ≡ false → find p (take (suc i) xs) ≡ None
find_past_suc p [] i x none inside is off = absurd (omega (arith, inside))
find_past_suc p (y ∷ xs) zero x none inside is off = ap (λ t. cond t (Some y) None) (ap p (sym is) ∙ off)
find_past_suc p (y ∷ xs) (suc i) x none inside is off =
    (elim (p y) as (λ t. cond t (Some y) (find p (take i xs)) ≡ None → cond t (Some y) (find p (take (suc i) xs)) ≡ None) [
      | true ↦ λ clash. absurd (none-some y (sym clash))
      | false ↦ λ later. find_past_suc p xs i x later (omega (arith, inside)) is off
    ]) none

pub find_past : {X : Type 0} (p : X → Bool) (xs : List X) (i : ℕ) (x : X) → find p (take i xs) ≡ None → i < length xs → x ≡ slice_index_or xs i x → p x ≡ false → find p (take (i + 1) xs) ≡ None
find_past p xs i x none inside is off = ap (λ k. find p (take k xs)) (add-one i) ∙ find_past_suc p xs i x none inside is off

-- ---- vectors of layers

pub layer_in : {L : Type 0} (layers : List (Vec (Vec (Edge L) Global) Global)) (depth : ℕ) (layer : Vec (Vec (Edge L) Global) Global) → depth < length layers → layer ≡ slice_index_or layers depth layer
    → map vec_items (vec_items layer) ≡ slice_index_or (layers_in layers) depth []
layer_in {L} layers depth layer inside is =
    ap (λ (l : Vec (Vec (Edge L) Global) Global). map vec_items (vec_items l)) is
    ∙ sym (get_or-map (λ (l : Vec (Vec (Edge L) Global) Global). map vec_items (vec_items l)) layers depth layer [] inside)

pub layers_length : {L : Type 0} (layers : List (Vec (Vec (Edge L) Global) Global)) → length (layers_in layers) ≡ length layers
layers_length {L} layers = length-map layers (λ (l : Vec (Vec (Edge L) Global) Global). map vec_items (vec_items l))

-- ---- the first path from the first state

module _ {L : Type 0} (like : Path L → Bool) (layers : List (Layer L)) (counts : List (List ℕ)) (are : ArePathNumbers like layers counts) where
  pub no_first : nat_lt 0 (count_at (slice_index_or counts 0 []) 0) ≡ false → first_like like (paths layers 0) ≡ None
  no_first none =
      let fewer = ltb-false 0 (count_at (slice_index_or counts 0 []) 0) none in
      let number = are 0 0 in
      ap (option_map labels_of) (find_none like (paths layers 0) (omega (arith, fewer, number)))

none_kept : {X : Type 0} (xs : List X) → filter (λ x. false) xs ≡ []
none_kept [] = refl
none_kept (x ∷ xs) = none_kept xs

-- for a condition that no path satisfies, the empty list of path counts is right, as a missing count is 0
pub no_numbers : {L : Type 0} (layers : List (Layer L)) → ArePathNumbers {L = L} (λ path. false) layers []
no_numbers {L} layers zero state = sym (ap length (none_kept (paths layers state)))
no_numbers {L} layers (suc depth) state = sym (ap length (none_kept (paths (drop (suc depth) layers) state)))
