-- The proof that the allocator chooses the first block in the first nonempty free list, from the requested order
-- upwards.
use Rattle.std.proofs.Common.{◌≡◌, ℕ, ◌+◌, ◌-◌, ◌<◌, ◌≤◌, true, false, List, length, get_or, inl, inr, sym, ap, ◌∙◌, arith}
use Rattle.std.specs.Prelude.{◌==◌, None, Some, option_map}
use Rattle.std.specs.List.{range_with_len}
use Rattle.std.proofs.lemmas.Bool.{cases_Bool, eqb-true, eq-eqb}
use Rattle.std.proofs.lemmas.List.{get_or_default}
use Rattle.std.proofs.lemmas.List.Folds.{Any-from_list_any, list_any_at}
use Rattle.std.proofs.lemmas.List.FromFn.{length-range_with_len, get_or-range_with_len}
use Rattle.page_arena.proofs.Find.{find_none, find_at}
use Rattle.buddy.specs.Heads.{head_at}
use Rattle.buddy.specs.FirstBlock.{ListsView, has_head, first_block}
use Rattle.buddy.specs.Links.{at, HasHead}
use Rattle.buddy.proofs.Masks.{head_inside}

-- if a listed block of an order begins at some granule, `has_head` is true for the order
block_of_head : (heads : List ℕ) (order g : ℕ) → head_at heads g ≡ order + 1 → has_head heads order ≡ true
block_of_head heads order g head =
    list_any_at (λ head. head == order + 1) heads g 0 (head_inside heads g order head) (eq-eqb (head_at heads g) (order + 1) head)

no_block : (heads : List ℕ) (order : ℕ) → ¬ (HasHead heads order) → has_head heads order ≡ false
no_block heads order none =
    elim (cases_Bool (has_head heads order)) [
      | inl is ↦
          let any = Any-from_list_any (λ head. head == order + 1) heads is in
          let head : any.1 ≡ order + 1 = eqb-true any.1 (order + 1) any.4 in
          let same : head_at heads any.0 ≡ any.1 = sym (get_or_default heads any.0 any.1 0 any.2) ∙ any.3 in
          absurd (none (any.0, same ∙ head))
      | inr is_not ↦ is_not
    ]

module _ (lists : ListsView) (order : ℕ) where
  abbrev orders : List ℕ
  orders = range_with_len order (10 - order)

  none_at : (k : ℕ) → k < length orders → ¬ (HasHead lists.heads (order + k)) → has_head lists.heads (get_or orders k 0) ≡ false
  none_at k inside none =
      let less : k < 10 - order = omega (arith, length-range_with_len order (10 - order)) in
      ap (has_head lists.heads) (get_or-range_with_len order (10 - order) k 0 less) ∙ no_block lists.heads (order + k) none

  -- if no list from the given order on has a block, `first_block` is None
  pub none_chosen : ((k : ℕ) → order ≤ k → k < 10 → ¬ (HasHead lists.heads k)) → first_block lists order ≡ None
  unfolding first_block
  none_chosen none =
      ap (option_map (at lists.firsts)) (find_none (has_head lists.heads) orders 0 (λ k inside.
      let less : k < 10 - order = omega (arith, length-range_with_len order (10 - order)) in
      none_at k inside (none (order + k) (omega arith) (omega arith))))

  -- if the list of each order from `order` to `found` - 1 is empty, and the list of order `found` begins with `first`,
  -- `first_block` is `first`
  pub chosen : (found first : ℕ) → order ≤ found → found < 10 → head_at lists.heads first ≡ found + 1 → first ≡ at lists.firsts found
      → ((k : ℕ) → order ≤ k → k < found → ¬ (HasHead lists.heads k)) → first_block lists order ≡ Some first
  unfolding first_block
  chosen found first from low head first_is lowest =
      let less : found - order < 10 - order = omega arith in
      let inside : found - order < length orders = omega (arith, length-range_with_len order (10 - order)) in
      let sum : order + (found - order) ≡ found = omega arith in
      let read : get_or orders (found - order) 0 ≡ found = get_or-range_with_len order (10 - order) (found - order) 0 less ∙ sum in
      ap (option_map (at lists.firsts))
      (find_at (has_head lists.heads) orders (found - order) 0 inside (ap (has_head lists.heads) read ∙ block_of_head lists.heads found first head)
      (λ k before. none_at k (omega arith) (lowest (order + k) (omega arith) (omega arith))))
      ∙ ap (λ (k : ℕ). Some (at lists.firsts k)) read
      ∙ ap Some (sym first_is)
