use Rattle.std.proofs.Common.{ℕ, set, ap, ◌∙◌}
use Rattle.granule_addr.specs.Page.{page_of}
use Rattle.page_arena.specs.Pages.{IsSized-set, length-page_of}
use Rattle.buddy.proofs.arena.BuddyArenaPageStore.fill.Goals as goal

pub invariant_of-self : goal.invariant_of-self
invariant_of-self c =
    let was = c.args.self.now in
    record { sized = rw c.fill.ensures (IsSized-set was.pages was.index.flags was.sized c.number.result (page_of c.args.value) (length-page_of c.args.value)) }

pub returns-clause-filled : goal.returns-clause-filled
unfolding page_of
returns-clause-filled c = c.fill.ensures ∙ ap (λ (k : ℕ). set c.args.self.now.pages k (page_of c.args.value)) c.number.ensures.value
