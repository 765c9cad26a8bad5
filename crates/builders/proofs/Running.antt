-- A proof that `AreRun` holds for two equally long lists of workers if `IsWorkerRun` holds for the two workers at each
-- index.
use Rattle.std.proofs.Common.{◌≡◌, ℕ, suc, ◌<◌, List, [], ◌∷◌, length, get_or, subst, arith}
use Rattle.std.specs.List.{AllZip}
use Rattle.host_ledger.specs.View.{HostView}
use Rattle.builders.specs.Runs.{AreRun}
use Rattle.builders.specs.Workers.{WorkerView, IsWorkerRun}

-- R holds of the elements that the lists `xs` and `ys` have at index `k`; past the end of a list, `d` is the element
abbrev pub HoldsOf : {X : Type 0} → (X → X → Type 0) → List X → List X → ℕ → X → Type 0
HoldsOf {X} R xs ys k d = (x : X) × (y : X) × (x ≡ get_or xs k d) × (y ≡ get_or ys k d) × R x y

at_place : {X : Type 0} (R : X → X → Type 0) (a b : X) → (x : X) × (y : X) × (x ≡ a) × (y ≡ b) × R x y → R a b
at_place R a b (x, y, is, after_is, r) = subst (λ v. R v b) is (subst (R x) after_is r)

zipped : {X : Type 0} (R : X → X → Type 0) (xs ys : List X) → length ys ≡ length xs → ((k : ℕ) (d : X) → k < length xs → HoldsOf R xs ys k d) → AllZip R xs ys
zipped R [] [] same each = tt
zipped R [] (y ∷ ys) same each = absurd (omega arith)
zipped R (x ∷ xs) [] same each = absurd (omega arith)
zipped R (x ∷ xs) (y ∷ ys) same each = (at_place R x y (each 0 x (omega arith)), zipped R xs ys (omega arith) (λ k d lt. each (suc k) d (omega arith)))

pub are_run : (opened : HostView) (passes stops : ℕ → ℕ → Type 0) (old new : List WorkerView) → length new ≡ length old
    → ((k : ℕ) (d : WorkerView) → k < length old → HoldsOf (λ before after. IsWorkerRun opened (passes before.seat.build) (stops before.seat.build) before after) old new k d)
    → AreRun opened passes stops old new
unfolding AreRun
are_run opened passes stops old new same each = zipped (λ before after. IsWorkerRun opened (passes before.seat.build) (stops before.seat.build) before after) old new same each
