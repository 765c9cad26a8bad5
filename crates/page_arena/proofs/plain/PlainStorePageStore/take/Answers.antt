use Rattle.std.proofs.Common.{◌≡◌, ◌<◌, subst, sym, ◌∙◌, arith, rules}
use Rattle.std.specs.Prelude.{None, Some}
use Rattle.page_arena.specs.LowestBlock.{lowest_block}
use Rattle.page_arena.proofs.Lowest.{granule_at, none_found, lowest_found}
use Rattle.page_arena.proofs.plain.PlainStorePageStore.take.Goals as goal

pub returns-in_err-first-clause-first : goal.returns-in_err-first-clause-first
returns-in_err-first-clause-first c =
    let order = c.args.order in
    let none : c.from_residual.result ≡ None = search rules in
    none
    ∙ sym (subst (λ flags. lowest_block flags order ≡ None) c.deref.ensures.value
    (none_found c.deref.result.now order c.size-size.result c.size-size.ensures.value c.in_err-first.ensures.none))

pub returns-clause-first : goal.returns-clause-first
returns-clause-first c =
    let order = c.args.order in
    let first = c.in_ok-first.first in
    let found = c.in_ok-first.ensures in
    let low : first < 4096 = omega (arith, c.in_ok-first.ensures.inside, c.size-size.ensures.some, c.deref.ensures.len, c.args.self.now.sized) in
    c.new.ensures
    ∙ granule_at first low
    ∙ sym (subst (λ flags. lowest_block flags order ≡ Some first) c.deref.ensures.value
    (lowest_found c.deref.result.now order c.size-size.result c.size-size.ensures.value first found.aligned found.inside found.free found.lowest))
