-- Proofs that the number of free granules falls by the size of a block that is taken, and rises by the size of one that
-- is given back.
use Rattle.std.proofs.Common.{◌≡◌, ℕ, zero, suc, ◌+◌, ◌^◌, ◌≤◌, Bool, true, false, List, [], ◌∷◌, ◌++◌, length, take, drop, replicate, refl, ap, ◌∙◌, arith, length-append}
use Rattle.std.specs.Prelude.{filter}
use Rattle.std.proofs.lemmas.List.Elements.{filter-append}
use Rattle.page_arena.specs.Block.{IsFreeBlock, IsTakenBlock, with_run, with_taken, with_given}
use Rattle.page_arena.specs.Runs.{with_run_same}

abbrev pub count_of : List Bool → ℕ
count_of flags = length (filter (λ flag. flag) flags)

pub count_of-append : (flags more : List Bool) → count_of (flags ++ more) ≡ count_of flags + count_of more
count_of-append flags more = ap length (filter-append (λ flag. flag) flags more) ∙ length-append (filter (λ flag. flag) flags) (filter (λ flag. flag) more)

pub count_of_free : (n : ℕ) → count_of (replicate n true) ≡ n
count_of_free zero = refl
count_of_free (suc n) = let rest = count_of_free n in ap suc rest

pub count_of_taken : (n : ℕ) → count_of (replicate n false) ≡ 0
count_of_taken zero = refl
count_of_taken (suc n) = count_of_taken n

pub count_of_most : (flags : List Bool) → count_of flags ≤ length flags
count_of_most [] = omega arith
count_of_most (true ∷ flags) = let rest = count_of_most flags in omega arith
count_of_most (false ∷ flags) = let rest = count_of_most flags in omega arith

module _ (flags : List Bool) (first n : ℕ) where
  abbrev beside : ℕ
  beside = count_of (take first flags) + count_of (drop (first + n) flags)

  run_is : (flag : Bool) → with_run flags first n flag ≡ take first flags ++ replicate n flag ++ drop (first + n) flags
  unfolding with_run
  run_is flag = refl

  parts : (flag : Bool) → count_of (with_run flags first n flag) ≡ count_of (take first flags) + count_of (replicate n flag) + count_of (drop (first + n) flags)
  parts flag =
      ap count_of (run_is flag)
      ∙ count_of-append (take first flags ++ replicate n flag) (drop (first + n) flags)
      ∙ ap (λ (k : ℕ). k + count_of (drop (first + n) flags)) (count_of-append (take first flags) (replicate n flag))

  count_of_run : count_of (with_run flags first n true) ≡ beside + n
  count_of_run = let all = count_of_free n in let sum = parts true in omega arith

  count_of_none : count_of (with_run flags first n false) ≡ beside
  count_of_none = let none = count_of_taken n in let sum = parts false in omega arith

module _ (flags : List Bool) (order first : ℕ) where
  pub count_of-with_taken : IsFreeBlock flags order first → count_of (with_taken flags order first) + 2 ^ order ≡ count_of flags
  count_of-with_taken block =
      let before = ap count_of (with_run_same flags first (2 ^ order) true block.inside false block.run.each) in
      let all = count_of_run flags first (2 ^ order) in
      let none = count_of_none flags first (2 ^ order) in
      omega arith

  pub count_of-with_given : IsTakenBlock flags order first → count_of (with_given flags order first) ≡ count_of flags + 2 ^ order
  count_of-with_given block =
      let before = ap count_of (with_run_same flags first (2 ^ order) false block.inside false block.run.each) in
      let all = count_of_run flags first (2 ^ order) in
      let none = count_of_none flags first (2 ^ order) in
      omega arith
