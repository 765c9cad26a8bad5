use Rattle.std.proofs.Common.{length, ap, subst, ◌∙◌, sym, arith}
use Rattle.buddy.specs.Heads.{head_at}
use Rattle.buddy.specs.Links.{IsMask}
use Rattle.buddy.specs.FirstBlock.{ListsView}
use Rattle.buddy.proofs.Masks.{mask_put}
use Rattle.buddy.proofs.lists.FreeLists.put.Goals as goal

pub invariant_of-self : goal.invariant_of-self
invariant_of-self c =
    let seen = ap (λ (lists : ListsView). length lists.heads) c.self.view_is in let inside = c.requires.inside in
    subst (IsMask _) (sym c.put.ensures.heads)
    (mask_put c.self.inside.mask c.self.inside.links.heads c.self.invariant c.args.granule c.args.order (omega arith) c.requires.order
    (ap (λ (lists : ListsView). head_at lists.heads c.args.granule) c.self.view_is ∙ c.requires.no_head))
