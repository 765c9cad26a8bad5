-- Theorems about a list in which a run of elements is overwritten with one value, as when a block is taken or given
-- back.
use Rattle.std.specs.Prelude.{◌≡◌, ℕ, ◌+◌, ◌-◌, ◌<◌, ◌≤◌, ◌⊎◌, List, [], ◌∷◌, ◌++◌, length, take, drop, replicate, get_or, set}
use Rattle.std.proofs.Common.{sym, ap, ◌∙◌, inl, inr, ⊎_elim, arith, length-append, append-nil, append_assoc, take-append-drop}
use Rattle.std.proofs.lemmas.List.{length-drop, length-replicate, length-take-le, drop_more, set_at, replicate_more}
use Rattle.std.proofs.lemmas.List.{get_or_append_left, get_or-append_right, get_or-take, get_or-drop, get_or-replicate, ext_get_or}
use Rattle.std.proofs.lemmas.Bool.{cases_lt}
use Rattle.page_arena.specs.Block.{with_run}

-- an index is inside a run, below it or above it
pub inside_or_outside : (first count i : ℕ) → ((first ≤ i) × (i < first + count)) ⊎ ((i < first) ⊎ (first + count ≤ i))
inside_or_outside first count i =
    ⊎_elim (λ below. inr (inl below)) (λ low. ⊎_elim (λ high. inl (low, high)) (λ above. inr (inr above)) (cases_lt i (first + count))) (cases_lt i first)

-- overwriting no items leaves the list as it is
pub with_run_none : {X : Type 0} (xs : List X) (first : ℕ) (x : X) → with_run xs first 0 x ≡ xs
unfolding with_run
with_run_none xs first x =
    let same : first + 0 ≡ first = omega arith in
    rw (same, append-nil) (take-append-drop first xs)

-- setting the item that follows a run to the run's value makes the run longer by one
pub with_run_more : {X : Type 0} (xs : List X) (first count : ℕ) (x : X) → first + count < length xs → set (with_run xs first count x) (first + count) x ≡ with_run xs first (count + 1) x
unfolding with_run
with_run_more xs first count x within =
    let front : length (take first xs ++ replicate count x) ≡ first + count =
    length-append (take first xs) (replicate count x) ∙ (let a = length-take-le first xs (omega arith) in let b = length-replicate count x in omega arith) in
    let next : first + count + 1 ≡ first + (count + 1) = omega arith in
    ap (λ rest. set ((take first xs ++ replicate count x) ++ rest) (first + count) x) (drop_more xs (first + count) x within)
    ∙ set_at (take first xs ++ replicate count x) _ _ x (first + count) front
    ∙ ap (λ rest. (take first xs ++ replicate count x) ++ x ∷ rest) (ap (λ (n : ℕ). drop n xs) next)
    ∙ sym (append_assoc (take first xs ++ replicate count x) (x ∷ []) _)
    ∙ ap (λ part. part ++ drop (first + (count + 1)) xs)
    (append_assoc (take first xs) (replicate count x) (x ∷ []) ∙ ap (λ part. take first xs ++ part) (replicate_more count x))

module _ {X : Type 0} (xs : List X) (first count : ℕ) (x : X) (fits : first + count ≤ length xs) where
  front : length (take first xs) ≡ first
  front = length-take-le first xs (omega arith)

  fronts : length (take first xs ++ replicate count x) ≡ first + count
  fronts = length-append (take first xs) (replicate count x) ∙ (let a = front in let b = length-replicate count x in omega arith)

  pub length-with_run : length (with_run xs first count x) ≡ length xs
  unfolding with_run
  length-with_run =
      length-append (take first xs ++ replicate count x) (drop (first + count) xs)
      ∙ (let a = fronts in let b = length-drop (first + count) xs in omega arith)

  -- after a run is overwritten with `x`, each item inside the run is `x`
  pub get_or-with_run_inside : (i : ℕ) (d : X) → first ≤ i → i < first + count → get_or (with_run xs first count x) i d ≡ x
  unfolding with_run
  get_or-with_run_inside i d low high =
      get_or_append_left (take first xs ++ replicate count x) _ d i (let a = fronts in omega arith)
      ∙ get_or-append_right (take first xs) (replicate count x) first i d front low
      ∙ get_or-replicate count (i - first) x d (omega arith)

  -- after a run is overwritten, each item outside the run is unchanged
  pub get_or-with_run_outside : (i : ℕ) (d : X) → (i < first) ⊎ (first + count ≤ i) → get_or (with_run xs first count x) i d ≡ get_or xs i d
  unfolding with_run
  get_or-with_run_outside i d (inl below) =
      get_or_append_left (take first xs ++ replicate count x) _ d i (let a = fronts in omega arith)
      ∙ get_or_append_left (take first xs) (replicate count x) d i (let a = front in omega arith)
      ∙ get_or-take first xs i d below
  get_or-with_run_outside i d (inr above) =
      let same : first + count + (i - (first + count)) ≡ i = omega arith in
      get_or-append_right (take first xs ++ replicate count x) _ (first + count) i d fronts above
      ∙ get_or-drop (first + count) xs (i - (first + count)) d
      ∙ ap (λ (n : ℕ). get_or xs n d) same

  -- if each item of a run is `x` already, overwriting the run with `x` leaves the list as it is
  pub with_run_same : (d : X) → ((i : ℕ) → first ≤ i → i < first + count → get_or xs i d ≡ x) → with_run xs first count x ≡ xs
  with_run_same d there = ext_get_or d _ _ length-with_run (λ i lt.
      ⊎_elim
      (λ h. get_or-with_run_inside i d h.0 h.1 ∙ sym (there i h.0 h.1))
      (λ h. get_or-with_run_outside i d h)
      (inside_or_outside first count i))

-- overwriting a run with `y` and then with `x` is the same as overwriting it with `x` alone
pub with_run-with_run : {X : Type 0} (xs : List X) (first count : ℕ) (x y : X) → first + count ≤ length xs → with_run (with_run xs first count y) first count x ≡ with_run xs first count x
with_run-with_run {X} xs first count x y fits =
    let ys : List X = with_run xs first count y in
    let len : length ys ≡ length xs = length-with_run xs first count y fits in
    let ys_fits : first + count ≤ length ys = omega arith in
    ext_get_or x _ _ (length-with_run ys first count x ys_fits ∙ len ∙ sym (length-with_run xs first count x fits)) (λ i lt.
    ⊎_elim
    (λ h. get_or-with_run_inside ys first count x ys_fits i x h.0 h.1 ∙ sym (get_or-with_run_inside xs first count x fits i x h.0 h.1))
    (λ h. get_or-with_run_outside ys first count x ys_fits i x h ∙ get_or-with_run_outside xs first count y fits i x h ∙ sym (get_or-with_run_outside xs first count x fits i x h))
    (inside_or_outside first count i))
