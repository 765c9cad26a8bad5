-- Lemmas about membership in a range of numbers, and about lists with one value at each index of a range.
use Rattle.std.proofs.Common.{◌≡◌, ℕ, zero, suc, ◌+◌, ◌-◌, ◌^◌, ◌<◌, ◌≤◌, ◌⊎◌, true, false, ◌||◌, cond, List, [], ◌∷◌, length, map, set, get_or, sym, ap, ◌∙◌, subst, arith, refl, ⊎_elim}
use Rattle.std.specs.List.{range_with_len}
use Rattle.std.proofs.lemmas.Bool.{cases_eq, ne_eqb}
use Rattle.std.proofs.lemmas.List.{ext_get_or, map-set}
use Rattle.page_arena.specs.Block.{with_run}
use Rattle.page_arena.specs.Runs.{inside_or_outside, length-with_run, get_or-with_run_inside, get_or-with_run_outside}
use Rattle.realm_model.specs.Act.{block}
use Rattle.realm_model.specs.StepLaw.{set_each}
use Rattle.realm_model.proofs.Booleans.{false_from}
use Rattle.realm_model.specs.Command.Check.{is_in}
use Rattle.realm_model.proofs.Lists.{is_in_head, is_in_more}
use Rattle.realm_model.proofs.SetEach.{length-set_each, get_or-set_each}

-- ---- whether a number is in a range

pub in_range_from : (first count k : ℕ) → first ≤ k → k < first + count → is_in k (range_with_len first count) ≡ true
in_range_from first zero k low high = absurd (omega arith)
in_range_from first (suc count) k low high = ⊎_elim
    (λ same. subst (λ n. is_in k (n ∷ range_with_len (first + 1) count) ≡ true) same (is_in_head k (range_with_len (first + 1) count)))
    (λ other. is_in_more k first (range_with_len (first + 1) count) (in_range_from (first + 1) count k (above k first other low) (omega arith)))
    (cases_eq k first)
  where
    above : (k first : ℕ) → (k ≡ first → ⊥) → first ≤ k → first + 1 ≤ k
    above k first other low = omega arith

pub record IsBetween (first count k : ℕ) : Type 0 where
  pub low : first ≤ k
  pub high : k < first + count

pub range_in : (first count k : ℕ) → is_in k (range_with_len first count) ≡ true → IsBetween first count k
range_in first zero k h = cc
range_in first (suc count) k h = ⊎_elim
    (λ same. record { low = omega arith; high = omega arith })
    (λ other.
    let rest = range_in (first + 1) count k (ap (λ t. t || is_in k (range_with_len (first + 1) count)) (sym (ne_eqb k first other)) ∙ h) in
    record { low = omega (arith, rest.low); high = omega (arith, rest.high) })
    (cases_eq k first)

out_of : (first count i : ℕ) → (i < first) ⊎ (first + count ≤ i) → is_in i (range_with_len first count) ≡ false
out_of first count i outside = false_from (is_in i (range_with_len first count)) (λ here.
    let between = range_in first count i here in
    ⊎_elim (λ below. absurd (omega (arith, between.low))) (λ above. absurd (omega (arith, between.high))) outside)

-- ---- one thing at each place of a block

pub map-set_each : {X Y : Type 0} (f : X → Y) (x : X) (places : List ℕ) (xs : List X) → map f (set_each x places xs) ≡ set_each (f x) places (map f xs)
unfolding set_each
map-set_each f x [] xs = refl
map-set_each f x (p ∷ places) xs = map-set_each f x places (set xs p x) ∙ ap (set_each (f x) places) (map-set f xs p x)

pub set_each-block : {X : Type 0} (x : X) (order first : ℕ) (xs : List X) → first + 2 ^ order ≤ length xs → set_each x (block order first) xs ≡ with_run xs first (2 ^ order) x
set_each-block x order first xs fits =
    ext_get_or x _ _ (length-set_each x (block order first) xs ∙ sym (length-with_run xs first (2 ^ order) x fits)) (λ i lt.
    get_or-set_each x (block order first) xs i
    ∙ ⊎_elim
    (λ h. ap (λ t. cond t x (get_or xs i x)) (in_range_from first (2 ^ order) i h.0 h.1) ∙ sym (get_or-with_run_inside xs first (2 ^ order) x fits i x h.0 h.1))
    (λ h. ap (λ t. cond t x (get_or xs i x)) (out_of first (2 ^ order) i h) ∙ sym (get_or-with_run_outside xs first (2 ^ order) x fits i x h))
    (inside_or_outside first (2 ^ order) i))
