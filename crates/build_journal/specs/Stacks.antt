-- The leased pages of each build, as a stack whose top is the page that was taken last.
use Rattle.std.specs.Prelude.{ℕ, ◌-◌, ◌^◌, ◌≤◌, ◌++◌, List, [], length, take, map, slice_index_or, slice_set, vec_len, vec_capacity, All}
use Rattle.std.specs.List.{range_with_len}
use Rattle.std.specs.Global.{Vec}

-- The pages of each build in the sequence in which they were taken, and the greatest number of pages that a build can
-- have.
pub record Stacks : Type 0 where
  pub stacks : List (List ℕ)
  pub room : ℕ

-- The pages of a build, with page k at index k.
abbrev pub stack_of : Stacks → ℕ → List ℕ
stack_of leases build = slice_index_or leases.stacks build []

-- the stacks of all builds after one build's stack is replaced by the given pages
abbrev pub with_stack : Stacks → ℕ → List ℕ → Stacks
with_stack leases build pages = record leases { stacks = slice_set leases.stacks build pages }

-- the pages of a build, followed by the granules of a block from the lowest to the highest
abbrev pub pushed : List ℕ → ℕ → ℕ → List ℕ
pushed pages first order = pages ++ range_with_len first (2 ^ order)

-- the pages of a build without the last 2^order of them
abbrev pub popped : List ℕ → ℕ → List ℕ
popped pages order = take (length pages - 2 ^ order) pages

-- ---- stacks as they are kept

-- A stack has at most `room` pages, and the memory for `room` pages is already allocated.
pub record IsRoomy (room : ℕ) (stack : Vec ℕ) : Type 0 where
  pub memory : room ≤ vec_capacity stack
  pub fits : vec_len stack ≤ room

abbrev pub contents : List (Vec ℕ) → List (List ℕ)
contents stacks = map (λ stack. stack.items) stacks

pub record IsKept (room : ℕ) (stacks : List (Vec ℕ)) : Type 0 where
  pub few_pages : room ≤ 4096
  pub roomy : All (IsRoomy room) stacks
