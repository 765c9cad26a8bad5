use Rattle.std.proofs.Common.{◌≡◌, ◌+◌, ◌≤◌, ◌^◌, true, length, ap, ◌∙◌, sym}
use Rattle.granule_addr.specs.Page.{zero_page}
use Rattle.page_arena.specs.Block.{with_run}
use Rattle.page_arena.specs.Pages.{IsSized-with_run}
use Rattle.buddy.proofs.arena.BuddyArenaPageStore.give.Goals as goal

pub invariant_of-self : goal.invariant_of-self
invariant_of-self c =
    let was = c.args.self.now in let first = c.number-first.result in let size = c.size.result in
    let fits : first + size ≤ length was.index.flags = rw (c.number-first.ensures.value, c.size.ensures.value) c.requires.inside in
    let pages : c.clear.new.self ≡ with_run was.pages first size zero_page = c.clear.ensures in
    let power : 2 ^ c.number.result ≡ size = ap (λ k. 2 ^ k) c.number.ensures.value ∙ sym c.size.ensures.value in
    let flags : c.give-self.new.self.flags ≡ with_run was.index.flags first size true = c.give-self.ensures.given ∙ ap (λ n. with_run was.index.flags first n true) power in
    record { sized = rw (pages, flags) (IsSized-with_run was.pages was.index.flags was.sized first size true fits) }
