-- Proofs that a search of a list finds the first element that passes a test, or nothing if no element passes.
use Rattle.std.proofs.Common.{◌≡◌, ℕ, zero, suc, ◌<◌, Bool, true, false, List, [], ◌∷◌, length, get_or, refl, ◌∙◌, arith}
use Rattle.std.specs.Prelude.{None, Some}
use Rattle.std.specs.List.{find}
use Rattle.std.proofs.lemmas.Bool.{cond-true, cond-false}

-- if no element passes the test, `find` returns None
pub find_none : {X : Type 0} (test : X → Bool) (xs : List X) (d : X) → ((k : ℕ) → k < length xs → test (get_or xs k d) ≡ false) → find test xs ≡ None
find_none test [] d none = refl
find_none test (x ∷ xs) d none =
    cond-false (test x) (Some x) (find test xs) (none 0 (omega arith)) ∙ find_none test xs d (λ k lt. none (suc k) (omega arith))

-- if an element passes the test, and none before it does, `find` returns that element
pub find_at : {X : Type 0} (test : X → Bool) (xs : List X) (i : ℕ) (d : X) → i < length xs → test (get_or xs i d) ≡ true
    → ((k : ℕ) → k < i → test (get_or xs k d) ≡ false) → find test xs ≡ Some (get_or xs i d)
find_at test [] i d inside passes before = absurd (omega arith)
find_at test (x ∷ xs) zero d inside passes before = cond-true (test x) (Some x) (find test xs) passes
find_at test (x ∷ xs) (suc i) d inside passes before =
    cond-false (test x) (Some x) (find test xs) (before 0 (omega arith))
    ∙ find_at test xs i d (omega arith) passes (λ k lt. before (suc k) (omega arith))
