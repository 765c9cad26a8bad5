-- Proofs that the loop that creates session handles (`Seat`) makes one for each build, and that no handle has counted
-- an event yet.
use Rattle.std.proofs.Common.{◌≡◌, ℕ, suc, ◌+◌, ◌-◌, ◌<◌, List, [], ◌∷◌, ◌++◌, length, map, take, get_or, replicate, Option, Some, None, sym, ap, ◌∙◌, subst, arith, zero-add}
use Rattle.std.specs.Array.Iter.{array_into_iter_items, array_steps}
use Rattle.std.specs.List.{range_with_len}
use Rattle.std.specs.Option.{IsSome}
use Rattle.std.specs.declared.array.IntoIter.{IntoIter}
use Rattle.std.proofs.lemmas.List.{take-replicate, get_or-replicate}
use Rattle.std.proofs.lemmas.List.FromFn.{map-range_with_len_more, length-map-range_with_len}
use Rattle.std.proofs.lemmas.Option.{same_Some}
use Rattle.realm_model.specs.declared.act.Event.{Event}
use Rattle.build_seats.specs.Passes.{PassView, unused}
use Rattle.build_seats.specs.Seats.{SeatView, new_seat}

first_left : (k : ℕ) → k < 8 → map unused (range_with_len k (8 - k)) ≡ unused k ∷ map unused (range_with_len (k + 1) (8 - (k + 1)))
first_left k below = let one : 8 - k ≡ suc (8 - (k + 1)) = omega arith in ap (λ n. map unused (range_with_len k n)) one

heads : (a b : PassView) (xs ys : List PassView) → a ∷ xs ≡ b ∷ ys → (a ≡ b) × (xs ≡ ys)
heads a b xs ys e = (cc, cc)

some_first : (r : Option PassView) (s t : IntoIter PassView 8) → array_steps s r t → 0 < length (array_into_iter_items s) → IsSome r
some_first (Some pass) s t steps left = search
some_first None s t steps left = absurd (let none = steps.0 in omega arith)

the_first : (r : Option PassView) (s t : IntoIter PassView 8) (pass : PassView) → r ≡ Some pass → array_steps s r t → array_into_iter_items s ≡ pass ∷ array_into_iter_items t
the_first r s t pass is steps = subst (λ (o : Option PassView). array_steps s o t) is steps

module _ (k : ℕ) (below : k < 8) (s t : IntoIter PassView 8) (r : Option PassView) (left : array_into_iter_items s ≡ map unused (range_with_len k (8 - k))) (steps : array_steps s r t) where
  -- if k is below 8, and the iterator still has the ledger share, or `Pass`, of each build from k to 7, the iterator
  -- gives another share
  pub some_pass : IsSome r
  some_pass = some_first r s t steps (let long = ap length left ∙ length-map-range_with_len unused k (8 - k) in omega arith)

  -- the share that the iterator gives is build k's, with no event counted, and the shares of builds k + 1 to 7 are left
  module _ (pass : PassView) (is : r ≡ Some pass) where
    both : (pass ≡ unused k) × (array_into_iter_items t ≡ map unused (range_with_len (k + 1) (8 - (k + 1))))
    both = heads _ _ _ _ (sym (the_first r s t pass is steps) ∙ left ∙ first_left k below)

    pub pass_is : pass ≡ unused k
    pass_is = both.0

    pub passes_left : array_into_iter_items t ≡ map unused (range_with_len (k + 1) (8 - (k + 1)))
    passes_left = both.1

-- if all of `n` event lists are empty, the last one is empty, and the other `n - 1` are too
module _ (trails rest : List (List Event)) (n m : ℕ) (empty : trails ≡ replicate n []) (one : m + 1 ≡ n) (trail : List Event) where
  pub trail_is : Some trail ≡ Some (get_or trails (n - 1) []) → trail ≡ []
  trail_is last = same_Some _ _ last ∙ ap (λ ts. get_or ts (n - 1) []) empty ∙ get_or-replicate n (n - 1) [] [] (omega arith)

  pub trails_left : rest ≡ take (n - 1) trails → rest ≡ replicate m []
  trails_left is =
      let fewer : n - 1 ≡ m = omega arith in
      is ∙ ap (take (n - 1)) empty ∙ take-replicate (n - 1) n [] (omega arith) ∙ ap (λ i. replicate i []) fewer

pub seats_grow : (k : ℕ) (seats after : List SeatView) (pass : PassView) (trail : List Event) → seats ≡ map new_seat (range_with_len 0 k) → pass ≡ unused k → trail ≡ []
    → after ≡ seats ++ record { build = pass.build; count = pass.count; trail = trail } ∷ [] → after ≡ map new_seat (range_with_len 0 (k + 1))
seats_grow k seats after pass trail so_far pass_is trail_is grows =
    grows ∙ (λ i. so_far i ++ record { build = (pass_is i).build; count = (pass_is i).count; trail = trail_is i } ∷ []) ∙ sym (map-range_with_len_more new_seat 0 k k (zero-add k))
