use Rattle.std.proofs.Common.{◌≡◌, ◌+◌, subst, ap, ◌∙◌, sym}
use Rattle.buddy.specs.Heads.{head_at}
use Rattle.buddy.specs.Links.{IsMask, HasHead}
use Rattle.buddy.specs.FirstBlock.{ListsView}
use Rattle.buddy.proofs.Masks.{mask_kept, mask_cleared, head_inside, of_none, of_some}
use Rattle.buddy.proofs.lists.FreeLists.take_out.Goals as goal

pub invariant_of-self : goal.invariant_of-self
invariant_of-self c =
    let heads = c.self.inside.links.heads in let g = c.args.granule in let k = c.args.order in
    let head : head_at heads g ≡ k + 1 = ap (λ (lists : ListsView). head_at lists.heads g) c.self.view_is ∙ c.requires.head in
    let none = of_none c.first.result c.if-is_none.ensures c.first.ensures.none in
    subst (IsMask _) (sym c.take_out.ensures)
    (mask_cleared c.self.inside.mask heads c.self.invariant g k (head_inside heads g k head) c.requires.order head (λ has. none (subst (λ now. HasHead now k) (sym c.take_out.ensures) has)))

pub invariant_of-self-else-is_none : goal.invariant_of-self-else-is_none
invariant_of-self-else-is_none c =
    let heads = c.self.inside.links.heads in let g = c.args.granule in let k = c.args.order in
    let head : head_at heads g ≡ k + 1 = ap (λ (lists : ListsView). head_at lists.heads g) c.self.view_is ∙ c.requires.head in
    let some = of_some c.first.result c.if-is_none.ensures c.first.ensures.head in
    subst (IsMask _) (sym c.take_out.ensures)
    (mask_kept c.self.inside.mask heads c.self.invariant g k (head_inside heads g k head) c.requires.order head (subst (λ now. HasHead now k) c.take_out.ensures some))
