use Rattle.std.proofs.Common.{◌+◌, subst, ap, sym, ◌∙◌}
use Rattle.std.proofs.lemmas.Bool.{eqb-true, eq-eqb}
use Rattle.buddy.specs.MaximalBlock.{IsMaximalBlock}
use Rattle.buddy.proofs.Heads.{of_head, head_of}
use Rattle.buddy.specs.FirstBlock.{IndexView}
use Rattle.buddy.proofs.index.FreeIndex.is_free_block.Goals as goal

pub returns : goal.returns
returns c =
    let seen = ap (λ (i : IndexView). i.flags) c.self.view_is in
    let heads = c.self.inside.lists.heads in let order = c.args.order in let first = c.args.first in let lists = c.self.invariant.lists in (
      λ is. subst (λ flags. IsMaximalBlock flags order first) seen (of_head heads _ lists order first (sym c.head.ensures ∙ eqb-true c.head.result (order + 1) is)),
      λ maximal. eq-eqb c.head.result (order + 1) (c.head.ensures ∙ head_of heads _ lists order first (subst (λ flags. IsMaximalBlock flags order first) (sym seen) maximal)),
    )
