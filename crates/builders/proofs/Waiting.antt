-- A proof that `reduce min`, over the numbers of the builds whose workers have not ended, gives the lowest number, or
-- None if all workers have ended.
use Rattle.std.proofs.Common.{◌≡◌, ℕ, zero, suc, ◌≤◌, min, Bool, true, false, not, cond, List, [], ◌∷◌, map, fold, filter, MatchOption, ◌⊎◌, inl, inr, refl, sym, subst, ◌∙◌, arith}
use Rattle.std.proofs.lemmas.Bool.Decides.{leb_tells}
use Rattle.std.proofs.lemmas.Iterator.Adapters.{option_map_id}
use Rattle.std.specs.List.{reduce}
use Rattle.std.specs.Option.{option_map}
use Rattle.std.specs.Prelude.{Option, Some, None, All, Any}
use Rattle.builders.specs.Runs.{IsLowestWaiting}
use Rattle.builders.specs.Workers.{WorkerView}

-- ---- words

abbrev HasEnded : WorkerView → Type 0
HasEnded worker = worker.ended ≡ true

abbrev WaitsAt : ℕ → WorkerView → Type 0
WaitsAt build worker = (worker.ended ≡ false) × (worker.seat.build ≡ build)

-- if the worker has not ended, the number of its build is at least `least`
abbrev IsAbove : ℕ → WorkerView → Type 0
IsAbove least worker = worker.ended ≡ false → least ≤ worker.seat.build

-- the builds whose workers have not ended
abbrev waiting : List WorkerView → List ℕ
waiting workers = map (λ worker. worker.seat.build) (filter (λ worker. not worker.ended) workers)

-- the builds whose workers have not ended, in a list with the worker `x` first; `ended` says whether `x` has ended
abbrev waiting_at : Bool → WorkerView → List WorkerView → List ℕ
waiting_at ended x xs = map (λ worker. worker.seat.build) (cond (not ended) (x ∷ filter (λ worker. not worker.ended) xs) (filter (λ worker. not worker.ended) xs))

all_cons : (P : WorkerView → Type 0) (x : WorkerView) (xs : List WorkerView) → P x → All P xs → All P (x ∷ xs)
all_cons P x xs p ps zero d lt = p
all_cons P x xs p ps (suc k) d lt = ps k d (omega arith)

any_cons : (P : WorkerView → Type 0) (x : WorkerView) (xs : List WorkerView) → Any P xs → Any P (x ∷ xs)
any_cons P x xs (k, y, lt, at, p) = (suc k, y, omega arith, at, p)

-- ---- the least of a number and the builds that wait

record IsLeast (a : ℕ) (workers : List WorkerView) (least : ℕ) : Type 0 where
  from : (least ≡ a) ⊎ Any (WaitsAt least) workers
  within : least ≤ a
  above : All (IsAbove least) workers

from_first : (a : ℕ) (x : WorkerView) (xs : List WorkerView) → x.ended ≡ false → (least : ℕ) → (least ≡ min a x.seat.build) ⊎ Any (WaitsAt least) xs → (least ≡ a) ⊎ Any (WaitsAt least) (x ∷ xs)
from_first a x xs is least (inl e) =
    elim (leb_tells a x.seat.build) [ inl below ↦ inl (omega arith) | inr above ↦ inr (0, x, omega arith, refl, (is, omega arith)) ]
from_first a x xs is least (inr any) = inr (any_cons (WaitsAt least) x xs any)

least_cons : (a : ℕ) (x : WorkerView) (xs : List WorkerView) → ((b : ℕ) → IsLeast b xs (fold min b (waiting xs))) → (ended : Bool) → x.ended ≡ ended
    → IsLeast a (x ∷ xs) (fold min a (waiting_at ended x xs))
least_cons a x xs rest true is =
    let r = rest a in
    record { from = elim r.from [ inl e ↦ inl e | inr any ↦ inr (any_cons (WaitsAt _) x xs any) ]; within = r.within; above = all_cons (IsAbove _) x xs (λ waits. cc) r.above }
least_cons a x xs rest false is =
    let r = rest (min a x.seat.build) in
    record { from = from_first a x xs is _ r.from; within = omega arith; above = all_cons (IsAbove _) x xs (λ waits. omega arith) r.above }

least : (a : ℕ) (workers : List WorkerView) → IsLeast a workers (fold min a (waiting workers))
least a [] = record { from = inl refl; within = omega arith; above = λ k d lt. absurd (omega arith) }
least a (x ∷ xs) = least_cons a x xs (λ b. least b xs) x.ended refl

-- ---- the lowest build that waits, if there is one

abbrev IsTold : List WorkerView → Option ℕ → Type 0
IsTold workers found = MatchOption found (All HasEnded workers) (λ build. IsLowestWaiting workers build)

told_ended : (x : WorkerView) (xs : List WorkerView) → x.ended ≡ true → (found : Option ℕ) → IsTold xs found → IsTold (x ∷ xs) found
told_ended x xs is None all = all_cons HasEnded x xs is all
told_ended x xs is (Some build) low = record { waits = any_cons (WaitsAt build) x xs low.waits; lowest = all_cons (IsAbove build) x xs (λ waits. cc) low.lowest }

told_cons : (x : WorkerView) (xs : List WorkerView) → IsTold xs (reduce min (waiting xs)) → (ended : Bool) → x.ended ≡ ended → IsTold (x ∷ xs) (reduce min (waiting_at ended x xs))
told_cons x xs rest true is = told_ended x xs is (reduce min (waiting xs)) rest
told_cons x xs rest false is =
    let r = least x.seat.build xs in
    record {
      waits = elim r.from [ inl e ↦ (0, x, omega arith, refl, (is, sym e)) | inr any ↦ any_cons (WaitsAt _) x xs any ];
      lowest = all_cons (IsAbove _) x xs (λ waits. r.within) r.above;
    }

told : (workers : List WorkerView) → IsTold workers (reduce min (waiting workers))
told [] = λ k d lt. absurd (omega arith)
told (x ∷ xs) = told_cons x xs (told xs) x.ended refl

-- `reduce min` over the builds whose workers have not ended finds the lowest such build, or None if all workers have
-- ended
pub least_is_told : (workers : List WorkerView) (found : Option ℕ) → option_map (λ build. build) found ≡ reduce min (waiting workers) → IsTold workers found
least_is_told workers found is = subst (IsTold workers) (sym is ∙ option_map_id found) (told workers)
