use Rattle.std.proofs.Common.{◌≡◌, ◌-◌, ◌≤◌, subst, ap, sym, ◌∙◌, arith, rules}
use Rattle.std.specs.Prelude.{ℕ, None, option_map}
use Rattle.std.proofs.lemmas.Bool.{OnTrue_at}
use Rattle.page_arena.specs.Block.{IsFreeBlock, with_taken}
use Rattle.buddy.specs.MaximalBlock.{IsMaximalBlock, TurnsUp}
use Rattle.buddy.specs.Heads.{IsIndex, held}
use Rattle.buddy.specs.FirstBlock.{IndexView, first_block}
use Rattle.buddy.proofs.Choosing.{none_chosen, chosen}
use Rattle.buddy.proofs.Heads.{none_free}
use Rattle.buddy.proofs.Held.{flags_are}
use Rattle.buddy.proofs.Taking.{if_none, whole, aligned, block, inside, alone_above, turns_up, least}
use Rattle.buddy.proofs.Tally.{taken_count, taken_index}
use Rattle.buddy.proofs.index.FreeIndex.take.Goals as goal

pub returns-in_err-found-clause-none : goal.returns-in_err-found-clause-none
returns-in_err-found-clause-none c =
    let seen = ap (λ (i : IndexView). i.flags) c.self.view_is in
    let heads = c.self.inside.lists.heads in let order = c.args.order in
    if_none c.from_residual.result (λ first free.
    none_free heads (held heads) c.self.invariant.lists order (omega arith) (λ k g le low head. c.in_err-found.ensures.none k le (omega arith) (g, head)) first
    (subst (λ flags. IsFreeBlock flags order first) (sym seen) free))

pub cut_out-cut-requires : goal.cut_out-cut-requires
cut_out-cut-requires c =
    let heads = c.self.inside.lists.heads in let flags = held heads in let lists = c.self.invariant.lists in let order = c.args.order in
    let found = c.in_ok-found.found in let first = c.in_ok-found.first in let head = c.in_ok-found.ensures.head in let from = c.in_ok-found.ensures.from in
    let maximal = whole heads flags lists order found first head from in let low = maximal.low in
    let within = inside heads flags lists order found first head from in let few = c.self.invariant.few in
    ((from, low), (omega arith, (aligned heads flags lists order found first head from, (lists, alone_above heads flags lists order found first head from))))

pub overflow_sub-self : goal.overflow_sub-self
overflow_sub-self c =
    let i = c.self.inside in let heads = i.lists.heads in let order = c.args.order in let first = c.in_ok-found.first in
    let free = block heads (held heads) c.self.invariant.lists order c.in_ok-found.found first c.in_ok-found.ensures.head c.in_ok-found.ensures.from in
    let cut = OnTrue_at (c.cut_out-cut.ensures.answer.1 free) c.cut_out-cut.ensures.cut in
    subst (λ n. n ≤ i.count) (sym c.size_of.ensures.size) (taken_count i.count heads c.cut_out-cut.new.lists.heads order first c.self.invariant free cut)

pub invariant_of-self : goal.invariant_of-self
invariant_of-self c =
    let i = c.self.inside in let heads = i.lists.heads in let order = c.args.order in let first = c.in_ok-found.first in
    let free = block heads (held heads) c.self.invariant.lists order c.in_ok-found.found first c.in_ok-found.ensures.head c.in_ok-found.ensures.from in
    let cut = OnTrue_at (c.cut_out-cut.ensures.answer.1 free) c.cut_out-cut.ensures.cut in
    subst (λ n. IsIndex (i.count - n) c.cut_out-cut.new.lists.heads) (sym c.size_of.ensures.size) (taken_index i.count heads c.cut_out-cut.new.lists.heads order first c.self.invariant free cut)

pub returns-clause-block : goal.returns-clause-block
returns-clause-block c =
    let seen = ap (λ (i : IndexView). i.flags) c.self.view_is in
    let heads = c.self.inside.lists.heads in let order = c.args.order in let first = c.in_ok-found.first in
    subst (λ flags. IsFreeBlock flags order first) seen
    (block heads (held heads) c.self.invariant.lists order c.in_ok-found.found first c.in_ok-found.ensures.head c.in_ok-found.ensures.from)

pub returns-clause-taken : goal.returns-clause-taken
returns-clause-taken c =
    let seen = ap (λ (i : IndexView). i.flags) c.self.view_is in
    let i = c.self.inside in let heads = i.lists.heads in let order = c.args.order in let first = c.in_ok-found.first in
    let free = block heads (held heads) c.self.invariant.lists order c.in_ok-found.found first c.in_ok-found.ensures.head c.in_ok-found.ensures.from in
    let cut = OnTrue_at (c.cut_out-cut.ensures.answer.1 free) c.cut_out-cut.ensures.cut in
    sym (flags_are c.cut_out-cut.new.lists.heads _ cut) ∙ ap (λ flags. with_taken flags order first) seen

pub returns-clause-turns : goal.returns-clause-turns
returns-clause-turns c =
    let seen = ap (λ (i : IndexView). i.flags) c.self.view_is in
    let heads = c.self.inside.lists.heads in let order = c.args.order in let first = c.in_ok-found.first in let turns = c.cut_out-cut.result.1 in
    subst (λ flags. TurnsUp flags order first turns) seen
    (turns_up heads (held heads) c.self.invariant.lists order c.in_ok-found.found first c.in_ok-found.ensures.head c.in_ok-found.ensures.from turns c.cut_out-cut.ensures.turns)

pub returns-clause-smallest : goal.returns-clause-smallest
returns-clause-smallest c = λ larger start from maximal.
    let seen = ap (λ (i : IndexView). i.flags) c.self.view_is in
    let heads = c.self.inside.lists.heads in let order = c.args.order in
    least heads (held heads) c.self.invariant.lists order c.in_ok-found.found c.in_ok-found.first c.in_ok-found.ensures.head c.in_ok-found.ensures.from
    c.cut_out-cut.result.1 c.cut_out-cut.ensures.turns
    c.in_ok-found.ensures.lowest larger start from (subst (λ flags. IsMaximalBlock flags larger start) (sym seen) maximal)

pub returns-in_err-found-clause-first : goal.returns-in_err-found-clause-first
returns-in_err-found-clause-first c =
    let order = c.args.order in
    let none : c.from_residual.result ≡ None = search rules in
    ap (option_map (λ (r : ℕ × ℕ). r.0)) none
    ∙ sym (none_chosen c.self.inside.lists order c.in_err-found.ensures.none)
    ∙ ap (λ (i : IndexView). first_block i.lists order) c.self.view_is

pub returns-clause-first : goal.returns-clause-first
returns-clause-first c =
    let heads = c.self.inside.lists.heads in let order = c.args.order in let found = c.in_ok-found.ensures in let first = c.in_ok-found.first in
    let low = (whole heads (held heads) c.self.invariant.lists order c.in_ok-found.found first found.head found.from).low in
    sym (chosen c.self.inside.lists order c.in_ok-found.found first found.from (omega arith) found.head found.first found.lowest)
    ∙ ap (λ (i : IndexView). first_block i.lists order) c.self.view_is
