use Rattle.std.proofs.Common.{◌-◌, ◌≤◌, subst, ap, sym, ◌∙◌}
use Rattle.std.proofs.lemmas.Bool.{OnTrue_at, OnTrue_from}
use Rattle.page_arena.specs.Block.{with_taken}
use Rattle.buddy.specs.Heads.{IsIndex}
use Rattle.buddy.proofs.Held.{flags_are}
use Rattle.buddy.proofs.Tally.{taken_count, taken_index}
use Rattle.buddy.specs.FirstBlock.{IndexView}
use Rattle.buddy.proofs.index.FreeIndex.take_at.Goals as goal

pub overflow_sub-self : goal.overflow_sub-self
overflow_sub-self c =
    let i = c.self.inside in let heads = i.lists.heads in let order = c.args.order in let first = c.args.first in
    let free = c.cut_out-taken.ensures.answer.0 c.if-taken.true in
    let cut = OnTrue_at c.if-taken.true c.cut_out-taken.ensures.cut in
    subst (λ n. n ≤ i.count) (sym c.size_of.ensures.size) (taken_count i.count heads c.cut_out-taken.new.lists.heads order first c.self.invariant free cut)

pub invariant_of-self : goal.invariant_of-self
invariant_of-self c =
    let i = c.self.inside in let heads = i.lists.heads in let order = c.args.order in let first = c.args.first in
    let free = c.cut_out-taken.ensures.answer.0 c.if-taken.true in
    let cut = OnTrue_at c.if-taken.true c.cut_out-taken.ensures.cut in
    subst (λ n. IsIndex (i.count - n) c.cut_out-taken.new.lists.heads) (sym c.size_of.ensures.size) (taken_index i.count heads c.cut_out-taken.new.lists.heads order first c.self.invariant free cut)

pub returns-then-taken-clause-taken : goal.returns-then-taken-clause-taken
returns-then-taken-clause-taken c =
    let seen = ap (λ (i : IndexView). i.flags) c.self.view_is in
    let order = c.args.order in let first = c.args.first in
    let cut = OnTrue_at c.if-taken.true c.cut_out-taken.ensures.cut in
    OnTrue_from c.cut_out-taken.result.0 _ (λ _. sym (flags_are c.cut_out-taken.new.lists.heads _ cut) ∙ ap (λ flags. with_taken flags order first) seen)
