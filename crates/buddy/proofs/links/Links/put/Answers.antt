use Rattle.std.proofs.Common.{◌+◌, length, sym, ap, ◌∙◌, arith, length-set}
use Rattle.buddy.specs.Heads.{head_at}
use Rattle.buddy.specs.FirstBlock.{ListsView}
use Rattle.buddy.proofs.Linking.{put_first, put_before, recounted}
use Rattle.buddy.proofs.links.Links.put.Goals as goal

pub invariant_of-self : goal.invariant_of-self
invariant_of-self c =
    let i = c.self.inside in let g = c.args.granule in let k = c.args.order in
    let seen = ap (λ (lists : ListsView). length lists.heads) c.self.view_is in let inside = c.requires.inside in
    recounted (sym (length-set i.heads.items g (k + 1)))
    (put_before _ _ _ _ _ c.self.invariant g k (omega arith) c.requires.order (ap (λ (lists : ListsView). head_at lists.heads g) c.self.view_is ∙ c.requires.no_head) (omega arith))

pub invariant_of-self-else-first-len : goal.invariant_of-self-else-first-len
invariant_of-self-else-first-len c =
    let i = c.self.inside in let g = c.args.granule in let k = c.args.order in
    let seen = ap (λ (lists : ListsView). length lists.heads) c.self.view_is in let inside = c.requires.inside in
    recounted (sym (length-set i.heads.items g (k + 1)))
    (put_first _ _ _ _ _ c.self.invariant g k (omega arith) c.requires.order (ap (λ (lists : ListsView). head_at lists.heads g) c.self.view_is ∙ c.requires.no_head) (omega arith))
