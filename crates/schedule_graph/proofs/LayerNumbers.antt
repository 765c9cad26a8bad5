-- Proofs that counting paths layer by layer, from the last layer to the first, gives the path counts of all layers.
use Rattle.std.proofs.Common.{◌≡◌, ℕ, zero, suc, ◌+◌, ◌-◌, ◌<◌, ◌≤◌, Vec, Global, vec_items, Bool, true, List, [], ◌∷◌, ◌++◌, map, length, drop, get_or, drop-cons, refl, sym, ap, ◌∙◌, subst, arith}
use Rattle.std.specs.Prelude.{filter, reverse, slice_index_or}
use Rattle.std.proofs.lemmas.List.{reverse-append, get_or-reverse, map-append, length-map}
use Rattle.schedule_graph.specs.Paths.{Layer, Path, paths, AreCounts, count_at}
use Rattle.schedule_graph.specs.First.{layers_in, path_numbers_in, any_path, ArePathNumbers}
use Rattle.schedule_graph.specs.declared.graph.Edge.{Edge}
use Rattle.schedule_graph.proofs.Firsts.{layer_in, layers_length}

all_kept : {X : Type 0} (xs : List X) → filter (λ x. true) xs ≡ xs
all_kept [] = refl
all_kept (x ∷ xs) = ap (λ ys. x ∷ ys) (all_kept xs)

module _ {L : Type 0} (like : Path L → Bool) where
  pub numbers-none : ArePathNumbers like [] []
  numbers-none zero state = refl
  numbers-none (suc depth) state = refl

  pub numbers-cons : (layer : Layer L) (layers : List (Layer L)) (here : List ℕ) (counts : List (List ℕ))
      → ((state : ℕ) → count_at here state ≡ length (filter like (paths (layer ∷ layers) state))) → ArePathNumbers like layers counts → ArePathNumbers like (layer ∷ layers) (here ∷ counts)
  numbers-cons layer layers here counts are rest zero state = are state
  numbers-cons layer layers here counts are rest (suc depth) state = rest depth state

-- counts of the paths that satisfy `any_path` are counts of all paths
pub any_counts : {L : Type 0} (layers : List (Layer L)) (next : List ℕ) → ((state : ℕ) → count_at next state ≡ length (filter any_path (paths layers state))) → AreCounts layers next
any_counts layers next are state = are state ∙ ap length (all_kept (paths layers state))

pub counts_any : {L : Type 0} (layers : List (Layer L)) (next : List ℕ) → AreCounts layers next → (state : ℕ) → count_at next state ≡ length (filter any_path (paths layers state))
counts_any layers next are state = are state ∙ ap length (sym (all_kept (paths layers state)))

-- ---- one layer more

last_first : {X : Type 0} (xs : List X) (d : X) → get_or (reverse xs) 0 d ≡ get_or xs (length xs - 1) d
last_first [] d = refl
last_first (x ∷ xs) d = get_or-reverse (x ∷ xs) 0 d (omega arith) ∙ ap (λ k. get_or (x ∷ xs) k d) (omega arith)

module _ {L : Type 0} (like : Path L → Bool) (layers : List (Layer L)) (counts : List (List ℕ)) (done : ℕ) (more : done < length layers) (long : length counts ≡ done)
    (are : ArePathNumbers like (drop (length layers - done) layers) (reverse counts)) where
  -- the counts that were added last are the path counts of layer `length layers - done`, the lowest layer that is
  -- counted so far
  pub next_numbers : (state : ℕ) → count_at (slice_index_or counts (done - 1) []) state ≡ length (filter like (paths (drop (length layers - done) layers) state))
  next_numbers state =
      ap (λ k. count_at (slice_index_or counts (k - 1) []) state) (sym long) ∙ ap (λ here. count_at here state) (sym (last_first counts [])) ∙ are 0 state

  pub numbers_more : (here : List ℕ)
      → ((state : ℕ) → count_at here state ≡ length (filter like (paths (get_or layers (length layers - 1 - done) [] ∷ drop (length layers - done) layers) state)))
      → ArePathNumbers like (drop (length layers - (done + 1)) layers) (reverse (counts ++ here ∷ []))
  numbers_more here counted =
      let one_less : length layers - (done + 1) ≡ length layers - 1 - done = omega arith in
      let inside : length layers - 1 - done < length layers = omega (arith, more) in
      let next : suc (length layers - 1 - done) ≡ length layers - done = omega (arith, more) in
      let at : drop (length layers - (done + 1)) layers ≡ get_or layers (length layers - 1 - done) [] ∷ drop (length layers - done) layers =
      ap (λ k. drop k layers) one_less ∙ drop-cons layers (length layers - 1 - done) [] inside
      ∙ ap (λ k. get_or layers (length layers - 1 - done) [] ∷ drop k layers) next in
      subst (λ ls. ArePathNumbers like ls (reverse (counts ++ here ∷ []))) (sym at)
      (subst (ArePathNumbers like (get_or layers (length layers - 1 - done) [] ∷ drop (length layers - done) layers)) (sym (reverse-append counts (here ∷ [])))
      (numbers-cons like (get_or layers (length layers - 1 - done) []) (drop (length layers - done) layers) here (reverse counts) counted are))

-- ---- vectors of layers, and of numbers

map-reverse : {X Y : Type 0} (f : X → Y) (xs : List X) → map f (reverse xs) ≡ reverse (map f xs)
map-reverse f [] = refl
map-reverse f (x ∷ xs) =
    ap (map f) (reverse-append (x ∷ []) xs)
    ∙ map-append f (reverse xs) (x ∷ [])
    ∙ ap (λ ys. ys ++ f x ∷ []) (map-reverse f xs)
    ∙ sym (reverse-append (f x ∷ []) (map f xs))

module _ {L : Type 0} (like : Path L → Bool) (layers : List (Vec (Vec (Edge L) Global) Global)) (counts : List (Vec ℕ Global)) (done : ℕ) where
  abbrev pub AreSoFar : Type 0
  AreSoFar = ArePathNumbers like (drop (length layers - done) (layers_in layers)) (reverse (path_numbers_in counts))

  module _ (below : done < length layers) (long : length counts ≡ done) (are : AreSoFar) where
    total : length (layers_in layers) ≡ length layers
    total = layers_length layers

    are_so_far : ArePathNumbers like (drop (length (layers_in layers) - done) (layers_in layers)) (reverse (path_numbers_in counts))
    are_so_far = subst (λ n. ArePathNumbers like (drop (n - done) (layers_in layers)) (reverse (path_numbers_in counts))) (sym total) are

    as_long : length (path_numbers_in counts) ≡ done
    as_long = length-map counts vec_items ∙ long

    within : done < length (layers_in layers)
    within = omega (arith, below, total)

    pub next_in : (next : List ℕ) → next ≡ slice_index_or (path_numbers_in counts) (done - 1) []
        → (state : ℕ) → count_at next state ≡ length (filter like (paths (drop (length layers - done) (layers_in layers)) state))
    next_in next is state =
        ap (λ ns. count_at ns state) is
        ∙ next_numbers like (layers_in layers) (path_numbers_in counts) done within as_long are_so_far state
        ∙ ap (λ n. length (filter like (paths (drop (n - done) (layers_in layers)) state))) total

    pub more_in : (layer : Vec (Vec (Edge L) Global) Global) → layer ≡ slice_index_or layers (length layers - 1 - done) layer → (here : Vec ℕ Global)
        → ((state : ℕ) → count_at (vec_items here) state ≡ length (filter like (paths (map vec_items (vec_items layer) ∷ drop (length layers - done) (layers_in layers)) state)))
        → (new : List (Vec ℕ Global)) → new ≡ counts ++ here ∷ []
        → ArePathNumbers like (drop (length layers - (done + 1)) (layers_in layers)) (reverse (path_numbers_in new))
    more_in layer is here counted new new_is =
        let inside : length layers - 1 - done < length layers = omega (arith, below) in
        let layer_is : map vec_items (vec_items layer) ≡ slice_index_or (layers_in layers) (length (layers_in layers) - 1 - done) [] =
        layer_in layers (length layers - 1 - done) layer inside is ∙ ap (λ n. slice_index_or (layers_in layers) (n - 1 - done) []) (sym total) in
        let numbers : path_numbers_in new ≡ path_numbers_in counts ++ vec_items here ∷ [] = ap path_numbers_in new_is ∙ map-append vec_items counts (here ∷ []) in
        subst (λ n. ArePathNumbers like (drop (n - (done + 1)) (layers_in layers)) (reverse (path_numbers_in new))) total
        (subst (λ ns. ArePathNumbers like (drop (length (layers_in layers) - (done + 1)) (layers_in layers)) (reverse ns)) (sym numbers)
        (numbers_more like (layers_in layers) (path_numbers_in counts) done within as_long are_so_far (vec_items here) (λ state.
        counted state
        ∙ (λ i. length (filter like (paths (layer_is i ∷ drop (sym total i - done) (layers_in layers)) state))))))

  pub all_in : length layers ≤ done → AreSoFar → (new : List (Vec ℕ Global)) → new ≡ reverse counts → ArePathNumbers like (layers_in layers) (path_numbers_in new)
  all_in past are new new_is =
      let none : length layers - done ≡ 0 = omega (arith, past) in
      subst (ArePathNumbers like (layers_in layers)) (sym (ap path_numbers_in new_is ∙ map-reverse vec_items counts))
      (subst (λ k. ArePathNumbers like (drop k (layers_in layers)) (reverse (path_numbers_in counts))) none are)
