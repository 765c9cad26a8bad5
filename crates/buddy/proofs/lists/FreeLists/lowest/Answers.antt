use Rattle.std.proofs.Common.{subst, sym, arith}
use Rattle.buddy.specs.Links.{HasHead}
use Rattle.buddy.specs.FirstBlock.{ListsView}
use Rattle.buddy.proofs.Masks.{none_above, found_low, found_head, none_below}
use Rattle.buddy.proofs.lists.FreeLists.lowest.Goals as goal

pub returns-then-above-eq0-clause-none : goal.returns-then-above-eq0-clause-none
returns-then-above-eq0-clause-none c = λ k le low has.
    none_above c.self.inside.mask c.self.inside.links.heads c.self.invariant c.args.order c.if-above-eq0.true k le low (subst (λ (lists : ListsView). HasHead lists.heads k) (sym c.self.view_is) has)

pub first-requires : goal.first-requires
first-requires c = found_low c.self.inside.mask c.self.inside.links.heads c.self.invariant c.args.order (omega arith)

pub returns-in_err-first-clause-none : goal.returns-in_err-first-clause-none
returns-in_err-first-clause-none c =
    absurd (c.in_err-first.ensures.none (found_head c.self.inside.mask c.self.inside.links.heads c.self.invariant c.args.order (omega arith)))

pub returns-clause-lowest : goal.returns-clause-lowest
returns-clause-lowest c = λ k le less has.
    none_below c.self.inside.mask c.self.inside.links.heads c.self.invariant c.args.order (omega arith) k le less (subst (λ (lists : ListsView). HasHead lists.heads k) (sym c.self.view_is) has)
