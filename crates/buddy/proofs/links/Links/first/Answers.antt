use Rattle.std.proofs.Common.{ap, ◌∙◌, arith}
use Rattle.buddy.specs.Heads.{head_at}
use Rattle.buddy.specs.FirstBlock.{ListsView}
use Rattle.buddy.proofs.Linking.{has_first}
use Rattle.buddy.proofs.links.Links.first.Goals as goal

pub returns-else-first-len-clause-none : goal.returns-else-first-len-clause-none
returns-else-first-len-clause-none c = λ has.
    let i = c.self.inside in
    let linked = has_first _ _ _ _ _ c.self.invariant has.0 c.args.order (ap (λ (lists : ListsView). head_at lists.heads has.0) c.self.view_is ∙ has.1) in
    omega arith
