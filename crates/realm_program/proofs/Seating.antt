-- Proofs that creating a worker for each seat gives the new workers of a plan's builds, in sequence.
use Rattle.std.proofs.Common.{◌≡◌, ℕ, zero, suc, ◌+◌, ◌<◌, List, [], ◌∷◌, ◌++◌, length, map, get_or, refl, sym, ap, ◌∙◌, arith, zero-add}
use Rattle.std.specs.List.{range_with_len}
use Rattle.std.specs.Prelude.{All}
use Rattle.std.proofs.lemmas.List.{length-append}
use Rattle.std.proofs.lemmas.List.FromFn.{map-range_with_len_more, length-map-range_with_len, get_or-map-range_with_len}
use Rattle.build_seats.specs.Seats.{SeatView, new_seat}
use Rattle.builders.specs.Workers.{WorkerView}
use Rattle.realm_plan.specs.Plan.{Plan}
use Rattle.realm_program.specs.Workers.{new_worker}

middle : {X : Type 0} (xs ys : List X) (x d : X) → get_or (xs ++ x ∷ ys) (length xs) d ≡ x
middle [] ys x d = refl
middle (y ∷ xs) ys x d = middle xs ys x d

-- the list of the new seats of `count` builds: those already taken, then `seat`, and then those left
module _ (count : ℕ) (taken left : List SeatView) (seat : SeatView) (are : taken ++ seat ∷ left ≡ map new_seat (range_with_len 0 count)) where
  longer : length taken < length (taken ++ seat ∷ left)
  longer = let long = length-append taken (seat ∷ left) in omega arith

  pub is_there : length taken < count
  is_there = let long = longer in let same = ap length are ∙ length-map-range_with_len new_seat 0 count in omega arith

  pub is_next : seat ≡ new_seat (length taken)
  is_next = sym (middle taken left seat seat) ∙ ap (λ (l : List SeatView). get_or l (length taken) seat) are
      ∙ get_or-map-range_with_len new_seat 0 count (length taken) (length taken) seat is_there (zero-add (length taken))

-- the new workers of `count` builds, followed by the next build's new worker, are the new workers of `count + 1` builds
pub one_more : (plan : Plan) (count : ℕ) (workers after : List WorkerView) (worker : WorkerView) → workers ≡ map (new_worker plan) (range_with_len 0 count)
    → worker ≡ new_worker plan count → after ≡ workers ++ worker ∷ [] → after ≡ map (new_worker plan) (range_with_len 0 (count + 1))
one_more plan count workers after worker so_far is grows =
    grows ∙ (λ i. so_far i ++ is i ∷ []) ∙ sym (map-range_with_len_more (new_worker plan) 0 count count (zero-add count))

none_at : (plan : Plan) (b : ℕ) (bs : List ℕ) (k : ℕ) (d : WorkerView) → k < length (map (new_worker plan) (b ∷ bs)) → All (λ (worker : WorkerView). worker.lines ≡ []) (map (new_worker plan) bs)
    → (get_or (map (new_worker plan) (b ∷ bs)) k d).lines ≡ []
none_at plan b bs zero d lt rest = refl
none_at plan b bs (suc k) d lt rest = rest k d (omega arith)

-- a new worker has no line
pub no_lines : (plan : Plan) (builds : List ℕ) → All (λ (worker : WorkerView). worker.lines ≡ []) (map (new_worker plan) builds)
no_lines plan [] = λ k d lt. absurd (omega arith)
no_lines plan (b ∷ bs) = λ k d lt. none_at plan b bs k d lt (no_lines plan bs)
