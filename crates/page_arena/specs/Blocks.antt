-- Theorems about blocks that are taken and given back: a take turns a free block into a taken one, and giving it back
-- restores the flags.
use Rattle.std.specs.Prelude.{◌≡◌, ℕ, ◌+◌, ◌^◌, ◌<◌, ◌≤◌, ◌⊎◌, Bool, true, false, List, length}
use Rattle.std.proofs.Common.{◌∙◌, arith}
use Rattle.std.proofs.lemmas.Nat.{pow_pos}
use Rattle.page_arena.specs.Page.{is_free}
use Rattle.page_arena.specs.Block.{IsBlock, IsFreeBlock, IsTakenBlock, with_run, with_taken, with_given}
use Rattle.page_arena.specs.Runs.{length-with_run, get_or-with_run_inside, get_or-with_run_outside, with_run_same, with_run-with_run}

module _ (was flag : Bool) (flags : List Bool) (order first : ℕ) (block : IsBlock was flags order first) where
  -- after all flags of a block are set to `flag`, `IsBlock` holds with `flag`
  block_set : IsBlock flag (with_run flags first (2 ^ order) flag) order first
  block_set =
      let inside = block.inside in
      let len = length-with_run flags first (2 ^ order) flag inside in
      record {
        aligned = block.aligned;
        inside = omega arith;
        run = record { each = λ granule low high. get_or-with_run_inside flags first (2 ^ order) flag inside granule false low high };
      }

  -- if the flags of a block, which are all `was`, are set to `flag` and then to `was` again, the list of flags is
  -- unchanged
  block_back : with_run (with_run flags first (2 ^ order) flag) first (2 ^ order) was ≡ flags
  block_back =
      with_run-with_run flags first (2 ^ order) was flag block.inside
      ∙ with_run_same flags first (2 ^ order) was block.inside false block.run.each

module _ (flags : List Bool) (order first : ℕ) (block : IsFreeBlock flags order first) where
  -- a take turns a free block into a taken block
  pub taken_block : IsTakenBlock (with_taken flags order first) order first
  taken_block = block_set true false flags order first block

  -- giving a block back after its take restores the flags
  pub given_back : with_given (with_taken flags order first) order first ≡ flags
  given_back = block_back true false flags order first block

  pub length-with_taken : length (with_taken flags order first) ≡ length flags
  length-with_taken = length-with_run flags first (2 ^ order) false block.inside

  -- after a take, each granule of the block, the first included, is taken; the flags of all granules outside the block
  -- are unchanged
  pub is_free-with_taken_first : is_free (with_taken flags order first) first ≡ false
  is_free-with_taken_first = let some = pow_pos order in get_or-with_run_inside flags first (2 ^ order) false block.inside first false (omega arith) (omega arith)

  pub is_free-with_taken_inside : (granule : ℕ) → first ≤ granule → granule < first + 2 ^ order → is_free (with_taken flags order first) granule ≡ false
  is_free-with_taken_inside granule low high = get_or-with_run_inside flags first (2 ^ order) false block.inside granule false low high

  pub is_free-with_taken_outside : (granule : ℕ) → (granule < first) ⊎ (first + 2 ^ order ≤ granule) → is_free (with_taken flags order first) granule ≡ is_free flags granule
  is_free-with_taken_outside granule beside = get_or-with_run_outside flags first (2 ^ order) false block.inside granule false beside

module _ (flags : List Bool) (order first : ℕ) (block : IsTakenBlock flags order first) where
  -- giving back a taken block makes it a free block
  pub given_block : IsFreeBlock (with_given flags order first) order first
  given_block = block_set false true flags order first block

  pub length-with_given : length (with_given flags order first) ≡ length flags
  length-with_given = length-with_run flags first (2 ^ order) true block.inside

  -- after a block is given back, each granule of the block is free, and the flags of all granules outside the block are
  -- unchanged
  pub is_free-with_given_inside : (granule : ℕ) → first ≤ granule → granule < first + 2 ^ order → is_free (with_given flags order first) granule ≡ true
  is_free-with_given_inside granule low high = get_or-with_run_inside flags first (2 ^ order) true block.inside granule false low high

  pub is_free-with_given_outside : (granule : ℕ) → (granule < first) ⊎ (first + 2 ^ order ≤ granule) → is_free (with_given flags order first) granule ≡ is_free flags granule
  is_free-with_given_outside granule beside = get_or-with_run_outside flags first (2 ^ order) true block.inside granule false beside
