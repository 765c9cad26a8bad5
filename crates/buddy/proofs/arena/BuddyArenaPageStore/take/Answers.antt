use Rattle.std.proofs.Common.{◌≡◌, ◌^◌, ◌<◌, false, subst, sym, ap, ◌∙◌, arith, rules}
use Rattle.std.specs.Prelude.{None}
use Rattle.std.proofs.lemmas.Nat.{pow_pos}
use Rattle.page_arena.specs.Page.{IsSized}
use Rattle.page_arena.specs.Pages.{IsSized-flags}
use Rattle.page_arena.proofs.Lowest.{granule_at}
use Rattle.buddy.specs.FirstBlock.{first_block}
use Rattle.buddy.proofs.arena.BuddyArenaPageStore.take.Goals as goal

pub invariant_of-self-2 : goal.invariant_of-self-2
invariant_of-self-2 c =
    let was = c.args.self.now in let taken = c.in_ok-first.ensures in
    record { sized = subst (IsSized was.pages) (sym taken.taken) (IsSized-flags was.pages was.index.flags was.sized c.in_ok-first.first (2 ^ c.number.result) false taken.block.inside) }

pub returns-in_err-first-clause-first : goal.returns-in_err-first-clause-first
returns-in_err-first-clause-first c =
    let none : c.from_residual.result ≡ None = search rules in
    none ∙ c.in_err-first.ensures.first ∙ ap (first_block c.args.self.now.index.lists) c.number.ensures.value

pub returns-clause-first : goal.returns-clause-first
returns-clause-first c =
    let sized = c.args.self.now.sized in let few = sized.few_pages in let flagged = sized.flagged in
    let taken = c.in_ok-first.ensures in let inside = taken.block.inside in let some = pow_pos c.number.result in
    let low : c.in_ok-first.first < 4096 = omega arith in
    c.new.ensures ∙ granule_at c.in_ok-first.first low ∙ taken.first ∙ ap (first_block c.args.self.now.index.lists) c.number.ensures.value
