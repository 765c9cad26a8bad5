use Rattle.std.proofs.Common.{◌+◌, subst, ap, sym, ◌∙◌, arith}
use Rattle.page_arena.specs.Block.{IsTakenBlock, with_given}
use Rattle.buddy.specs.MaximalBlock.{TurnsUp}
use Rattle.buddy.specs.Heads.{IsIndex}
use Rattle.buddy.proofs.Held.{flags_are}
use Rattle.buddy.proofs.Tally.{given_count, more_index}
use Rattle.buddy.specs.FirstBlock.{IndexView}
use Rattle.buddy.proofs.index.FreeIndex.give.Goals as goal

pub overflow_add-self : goal.overflow_add-self
overflow_add-self c =
    let seen = ap (λ (i : IndexView). i.flags) c.self.view_is in
    let i = c.self.inside in let order = c.args.order in let first = c.args.first in
    let most = given_count i.count i.lists.heads c.give_to-turns.new.lists.heads order first c.self.invariant
    (subst (λ flags. IsTakenBlock flags order first) (sym seen) c.requires.block) c.give_to-turns.ensures.lists in
    let size = c.size_of.ensures.size in
    record { fits = omega arith }

pub invariant_of-self : goal.invariant_of-self
invariant_of-self c =
    let seen = ap (λ (i : IndexView). i.flags) c.self.view_is in
    let i = c.self.inside in let order = c.args.order in let first = c.args.first in
    subst (λ n. IsIndex (i.count + n) c.give_to-turns.new.lists.heads) (sym c.size_of.ensures.size)
    (more_index i.count i.lists.heads c.give_to-turns.new.lists.heads order first c.self.invariant (subst (λ flags. IsTakenBlock flags order first) (sym seen) c.requires.block)
    c.give_to-turns.ensures.lists)

pub returns-clause-given : goal.returns-clause-given
returns-clause-given c =
    let seen = ap (λ (i : IndexView). i.flags) c.self.view_is in
    sym (flags_are c.give_to-turns.new.lists.heads _ c.give_to-turns.ensures.lists) ∙ ap (λ flags. with_given flags c.args.order c.args.first) seen

pub returns-clause-turns : goal.returns-clause-turns
returns-clause-turns c =
    subst (λ flags. TurnsUp flags c.args.order c.args.first c.give_to-turns.result) (flags_are c.give_to-turns.new.lists.heads _ c.give_to-turns.ensures.lists) c.give_to-turns.ensures.turns
