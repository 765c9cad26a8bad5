-- Lemmas on tallies of paths: a tally has the number of an outcome's paths and the first of their schedules, and
-- tallies are sorted by these schedules.
use Rattle.std.proofs.Common.{◌≡◌, ℕ, zero, suc, ◌+◌, ◌<◌, ◌≤◌, Bool, true, false, cond, List, [], ◌∷◌, ◌++◌, map, length, min, get_or, take, drop, Vec, Global, vec_items, Option, Some, None, refl, sym, subst, ap, ◌∙◌, add-one, drop-cons, arith}
use Rattle.std.specs.Prelude.{filter, option_map, slice_index_or}
use Rattle.std.specs.List.{find, insert}
use Rattle.std.proofs.lemmas.List.{map-append, take-map, drop-map}
use Rattle.std.proofs.lemmas.Option.{none-some, same_Some}
use Rattle.std.proofs.lemmas.Simd.{map-map}
use Rattle.schedule_graph.specs.First.{first_like, any_path, layers_in, path_numbers_in, ArePathNumbers}
use Rattle.schedule_graph.specs.Paths.{Layer, Path, paths, count_at}
use Rattle.schedule_graph.specs.declared.graph.Edge.{Edge}
use Rattle.plan_states.specs.Tallies.{PathCount, all_added, builds_of_path, count_of_tally, tally_by_counts, tally_of, is_before, place_for, with_tally}
use Rattle.plan_states.specs.declared.edges.Label.{Label}
use Rattle.plan_states.specs.declared.tally.PathTally.{PathTally}

-- ---- the tally of the paths like that

module _ {K : Type 0} (like : Path Label → Bool) (outcome : K) (ps : List (Path Label)) where
  abbrev counted_as : ℕ → List ℕ → PathCount K
  counted_as count first = record { outcome = outcome; count = count; first = first }

  pub tally_of-none : first_like like ps ≡ None → None ≡ tally_of like outcome ps
  tally_of-none none = at (find like ps) none
    where
      at : (o : Option (Path Label)) → option_map (λ path. map (λ edge. edge.label) path) o ≡ None → None ≡ option_map (λ path. counted_as (length (filter like ps)) (builds_of_path path)) o
      at None same = refl
      at (Some path) same = absurd (none-some _ (sym same))

  pub tally_of-some : (labels : List Label) (count : ℕ) (first : List ℕ)
      → first_like like ps ≡ Some labels → count ≡ length (filter like ps) → first ≡ map (λ label. label.build) labels
      → Some (counted_as count first) ≡ tally_of like outcome ps
  tally_of-some labels count first some number schedule = at (find like ps) some
    where
      at : (o : Option (Path Label)) → option_map (λ path. map (λ edge. edge.label) path) o ≡ Some labels → Some (counted_as count first) ≡ option_map (λ path. counted_as (length (filter like ps)) (builds_of_path path)) o
      at None same = absurd (none-some labels same)
      at (Some path) same =
          let are : first ≡ builds_of_path path =
          schedule ∙ ap (λ (ls : List Label). map (λ label. label.build) ls) (sym (same_Some (map (λ edge. edge.label) path) labels same)) ∙ map-map (λ label. label.build) (λ edge. edge.label) path in
          (λ i. Some (counted_as (number i) (are i)))

-- if some path satisfies `like`, the tally of such paths has the count in `numbers` for the first state, and the
-- schedule of the first such path
pub tally-first : {K : Type 0} (like : Path Label → Bool) (outcome : K) (layers : List (Layer Label)) (numbers : List (List ℕ)) (labels : List Label) (count : ℕ) (first : List ℕ)
    → ArePathNumbers like layers numbers → first_like like (paths layers 0) ≡ Some labels
    → count ≡ count_at (slice_index_or numbers 0 []) 0 → first ≡ map (λ label. label.build) labels
    → Some (record { outcome = outcome; count = count; first = first }) ≡ tally_of like outcome (paths layers 0)
tally-first like outcome layers numbers labels count first are some number schedule =
    tally_of-some like outcome (paths layers 0) labels count first some (number ∙ are 0 0) schedule

pub tally-of_first : {K : Type 0} (like : Path Label → Bool) (outcome : K) (layers : List (Layer Label)) (numbers : List (List ℕ)) (path : Option (Vec Label Global))
    → ArePathNumbers like layers numbers → first_like like (paths layers 0) ≡ option_map vec_items path
    → option_map (λ (labels : Vec Label Global). tally_by_counts outcome numbers labels.items) path ≡ tally_of like outcome (paths layers 0)
tally-of_first like outcome layers numbers None are first = tally_of-none like outcome (paths layers 0) first
tally-of_first like outcome layers numbers (Some labels) are first =
    tally-first like outcome layers numbers labels.items (count_at (slice_index_or numbers 0 []) 0) (map (λ label. label.build) labels.items) are first refl refl

-- ---- the order of schedules

before-over : (one : List ℕ) → false ≡ is_before one []
before-over [] = refl
before-over (x ∷ xs) = refl

pub before-end : (one other : List ℕ) (turn : ℕ) → min (length one) (length other) ≤ turn → false ≡ is_before (drop turn one) (drop turn other)
before-end [] other zero over = refl
before-end [] other (suc turn) over = refl
before-end (x ∷ xs) [] zero over = refl
before-end (x ∷ xs) [] (suc turn) over = before-over (drop turn xs)
before-end (x ∷ xs) (y ∷ ys) zero over = absurd (omega (arith, over))
before-end (x ∷ xs) (y ∷ ys) (suc turn) over = before-end xs ys turn (omega (arith, over))

-- ---- the places of tallies

pub place_for-inside : {K : Type 0} (first : List ℕ) (tallies : List (PathCount K)) → place_for first tallies ≤ length tallies
place_for-inside first [] = omega arith
place_for-inside first (t ∷ tallies) = elim (is_before first t.first) as (λ b. cond b 0 (suc (place_for first tallies)) ≤ suc (length tallies)) [
  | true ↦ omega arith
  | false ↦ (let below = place_for-inside first tallies in omega (arith, below))
]

-- ---- one tally more

pub map-insert : {X Y : Type 0} (f : X → Y) (xs : List X) (i : ℕ) (x : X) → map f (insert xs i x) ≡ insert (map f xs) i (f x)
map-insert f xs i x = map-append f (take i xs) (x ∷ drop i xs) ∙ (λ j. sym (take-map f i xs) j ++ f x ∷ sym (drop-map f i xs) j)

-- ---- all paths

pub filter-any : (ps : List (Path Label)) → filter any_path ps ≡ ps
filter-any [] = refl
filter-any (path ∷ ps) = ap (λ qs. path ∷ qs) (filter-any ps)

-- if `ArePathNumbers` holds for layers and numbers, it also holds for layers and numbers that are equal to them
pub numbers-same : (layers others : List (Vec (Vec (Edge Label) Global) Global)) (numbers those : List (Vec ℕ Global)) → layers ≡ others → those ≡ numbers
    → ArePathNumbers any_path (layers_in layers) (path_numbers_in numbers) → ArePathNumbers any_path (layers_in others) (path_numbers_in those)
numbers-same layers others numbers those same same_numbers are =
    subst (λ (ls : List (Vec (Vec (Edge Label) Global) Global)). ArePathNumbers any_path (layers_in ls) (path_numbers_in those)) same
    (subst (λ (ns : List (Vec ℕ Global)). ArePathNumbers any_path (layers_in layers) (path_numbers_in ns)) (sym same_numbers) are)

-- ---- the tallies of one number more

pub added_more : {K : Type 0} (tally_at : ℕ → Option (PathCount K)) (n : ℕ) → all_added tally_at (n + 1) ≡ with_tally (tally_at n) (all_added tally_at n)
added_more tally_at n = rw add-one

-- ---- the place of a tally, one tally further on

pub place_more : {K : Type 0} (first : List ℕ) (tallies : List (PathTally K)) (place all : ℕ) (t : PathTally K)
    → place < length tallies → is_before first (get_or tallies place t).first.items ≡ false
    → place + place_for first (map count_of_tally (drop place tallies)) ≡ all
    → place + 1 + place_for first (map count_of_tally (drop (place + 1) tallies)) ≡ all
place_more {K} first tallies place all t inside later same =
    let rest : List (PathCount K) = map count_of_tally (drop (suc place) tallies) in
    let here : place_for first (map count_of_tally (drop place tallies)) ≡ suc (place_for first rest) =
    ap (λ (l : List (PathTally K)). place_for first (map count_of_tally l)) (drop-cons tallies place t inside) ∙ ap (λ b. cond b 0 (suc (place_for first rest))) later in
    let more : place_for first (map count_of_tally (drop (place + 1) tallies)) ≡ place_for first rest =
    ap (λ k. place_for first (map count_of_tally (drop k tallies))) (add-one place) in
    omega (arith, here, more, same)

-- the search for the index of a new tally ends at the first tally whose schedule comes after the new tally's
pub place_here : {K : Type 0} (first : List ℕ) (tallies : List (PathTally K)) (place all : ℕ) (t : PathTally K)
    → place < length tallies → is_before first (get_or tallies place t).first.items ≡ true
    → place + place_for first (map count_of_tally (drop place tallies)) ≡ all → place ≡ all
place_here {K} first tallies place all t inside sooner same =
    let rest : List (PathCount K) = map count_of_tally (drop (suc place) tallies) in
    let here : place_for first (map count_of_tally (drop place tallies)) ≡ 0 =
    ap (λ (l : List (PathTally K)). place_for first (map count_of_tally l)) (drop-cons tallies place t inside) ∙ ap (λ b. cond b 0 (suc (place_for first rest))) sooner in
    omega (arith, here, same)
