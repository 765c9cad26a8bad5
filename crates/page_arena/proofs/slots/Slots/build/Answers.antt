use Rattle.std.proofs.Common.{ℕ, List, sym, subst}
use Rattle.page_arena.specs.Slots.{IsSlots}
use Rattle.page_arena.proofs.InSlots.{no_owners}
use Rattle.page_arena.proofs.slots.Slots.build.Goals as goal

pub invariant_of-result : goal.invariant_of-result
invariant_of-result c = record { own = subst (λ (slots : List ℕ). IsSlots slots 1) (sym (c.in_ok-vec.ensures.items_if_clones_equal (λ y same. same))) (no_owners c.args.pages) }
