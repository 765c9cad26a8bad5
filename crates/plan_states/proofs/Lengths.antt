-- Lemmas on lengths: one more item makes a vector longer by one, and one more vector makes the total length of vectors
-- larger by its own length. What is left up to a limit on the total length becomes smaller by as much.
use Rattle.std.proofs.Common.{◌≡◌, ℕ, ◌+◌, ◌-◌, ◌≤◌, List, [], ◌∷◌, ◌++◌, Vec, Global, vec_len, length, sym, ap, ◌∙◌, arith, length-append}
use Rattle.std.specs.Prelude.{sum_by}
use Rattle.std.proofs.lemmas.List.Sums.{sum_by_push}

-- a vector with one more item at the end is longer by one
pub one_longer : {X : Type 0} (old new : Vec X Global) (x : X) (count : ℕ) → new.items ≡ old.items ++ x ∷ [] → vec_len old ≡ count → vec_len new ≡ count + 1
one_longer old new x count more long =
    new.ok.0 ∙ ap length more ∙ length-append old.items (x ∷ []) ∙ ap (λ n. n + 1) (sym old.ok.0 ∙ long)

room_after : (old new one room most : ℕ) → new ≡ old + one → one ≤ room → old + room ≡ most → new + (room - one) ≡ most
room_after old new one room most more inside all = omega arith

-- if `room` items are left up to the limit `most`, one more vector that fits leaves `room` minus the vector's length
pub room_left : {X : Type 0} (old new : List (Vec X Global)) (it : Vec X Global) (room most : ℕ)
    → new ≡ old ++ it ∷ [] → vec_len it ≤ room → sum_by vec_len old + room ≡ most → sum_by vec_len new + (room - vec_len it) ≡ most
room_left old new it room most more inside all =
    room_after (sum_by vec_len old) (sum_by vec_len new) (vec_len it) room most (ap (sum_by vec_len) more ∙ sum_by_push vec_len old it) inside all
