-- Lemmas on a free block that is in no free list: its split, its merge with its buddy, and its insertion into a free
-- list.
use Rattle.std.proofs.Common.{◌≡◌, ◌≢◌, ℕ, ◌+◌, ◌^◌, ◌<◌, ◌≤◌, Bool, true, false, List, length, set, sym, subst, ◌∙◌, arith}
use Rattle.std.proofs.lemmas.Nat.{pow_pos}
use Rattle.page_arena.specs.Block.{IsFreeBlock, IsTakenBlock, with_taken, with_given}
use Rattle.page_arena.specs.Blocks.{given_block, length-with_taken, is_free-with_taken_first}
use Rattle.page_arena.specs.Runs.{with_run_same, with_run-with_run}
use Rattle.buddy.specs.Halves.{AreHalves}
use Rattle.buddy.specs.Heads.{head_at, AreMaximal}
use Rattle.buddy.specs.InHand.{InHand}
use Rattle.buddy.proofs.Halves.{swapped, halves_apart}
use Rattle.buddy.proofs.Flags.{half_block, whole_block, block_before, block_beside, none_inside, second_half, both_taken}
use Rattle.buddy.proofs.Maximal.{alone_maximal}
use Rattle.buddy.proofs.Heads.{of_head, head_of, no_head, take_step, put_step}

-- a maximal block that is taken out of its free list is free and in no list (`InHand`)
pub come_to_hand : (heads : List ℕ) (flags : List Bool) (order first : ℕ) → AreMaximal heads flags → head_at heads first ≡ order + 1 → InHand (set heads first 0) flags order first
come_to_hand heads flags order first lists head =
    let maximal = of_head heads flags lists order first head in
    record { free = maximal.free; others = take_step flags order first maximal heads lists }

-- a taken block that is given back is free, and in no list yet (`InHand`)
pub given_to_hand : (heads : List ℕ) (flags : List Bool) (order first : ℕ) → AreMaximal heads flags → IsTakenBlock flags order first → InHand heads (with_given flags order first) order first
given_to_hand heads flags order first lists block =
    let back : with_taken (with_given flags order first) order first ≡ flags =
    with_run-with_run flags first (2 ^ order) false true block.inside ∙ with_run_same flags first (2 ^ order) false block.inside false block.run.each in
    record { free = given_block flags order first block; others = subst (AreMaximal heads) (sym back) lists }

module _ (heads : List ℕ) (flags : List Bool) (order first : ℕ) (hand : InHand heads flags order first) where
  -- once the block's granules are taken, the block is not free
  gone : ¬ (IsFreeBlock (with_taken flags order first) order first)
  gone = let some = pow_pos order in none_inside flags order first hand.free order first (omega arith, omega arith)

  -- if the block has order 9, or its buddy is not listed with the same order, listing the block makes the listed blocks
  -- exactly the maximal free ones
  pub put_back : order ≤ 9 → (base other : ℕ) → AreHalves order base first other → (order < 9 → head_at heads other ≢ order + 1)
      → (head_at heads first ≡ 0) × (first < length heads) × AreMaximal (set heads first (order + 1)) flags
  put_back low base other halves differs =
      let less = with_taken flags order first in
      let turned = swapped order base first other halves in
      let alone : order < 9 → ¬ (IsFreeBlock flags order other) = λ below free. differs below (head_of heads less hand.others order other (
      alone_maximal less order base other first turned low (block_beside flags order first hand.free order other (halves_apart order base first other halves) free) (λ _. gone))) in
      let sized = hand.others.sized in
      let len = length-with_taken flags order first hand.free in
      let fits = hand.free.inside in
      let some = pow_pos order in (
        no_head heads less hand.others first (is_free-with_taken_first flags order first hand.free),
        omega arith,
        put_step flags order first (alone_maximal flags order base first other halves low hand.free alone) heads hand.others,
      )

module _ (heads : List ℕ) (flags : List Bool) (order base one other : ℕ) (halves : AreHalves order base one other) where
  -- if a free block in no list is split, and its half `other` is put into a list, the half `one` is free and in no list
  -- (`InHand`)
  pub split : InHand heads flags (order + 1) base → order < 9 → (head_at heads other ≡ 0) × (other < length heads) × InHand (set heads other (order + 1)) flags order one
  split hand low =
      let less = with_taken flags order one in
      let turned = swapped order base one other halves in
      let free : IsFreeBlock flags order one = half_block true flags order base one other halves hand.free in
      let second : IsFreeBlock less order other = second_half flags order base one other halves hand.free in
      let before : AreMaximal heads (with_taken less order other) = subst (AreMaximal heads) (sym (both_taken flags order base one other halves hand.free)) hand.others in
      let some = pow_pos order in
      let gone : ¬ (IsFreeBlock less order one) = none_inside flags order one free order one (omega arith, omega arith) in
      let sized = before.sized in
      let len = length-with_taken less order other second in
      let fits = second.inside in (
        no_head heads (with_taken less order other) before other (is_free-with_taken_first less order other second),
        omega arith,
        record {
          free = free;
          others = put_step less order other (alone_maximal less order base other one turned (omega arith) second (λ _. gone)) heads before;
        },
      )

  -- if the block is merged with its buddy, which is taken out of its list, the merged block is free and in no list
  -- (`InHand`)
  pub merge : InHand heads flags order one → head_at heads other ≡ order + 1 → InHand (set heads other 0) flags (order + 1) base
  merge hand head =
      let less = with_taken flags order one in
      let maximal = of_head heads less hand.others order other head in
      let second = block_before flags order one hand.free order other maximal.free in
      let whole = whole_block true flags order base one other halves hand.free second in
      record {
        free = whole;
        others = subst (AreMaximal (set heads other 0)) (both_taken flags order base one other halves whole) (take_step less order other maximal heads hand.others);
      }
