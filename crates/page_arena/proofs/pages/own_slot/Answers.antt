use Rattle.std.proofs.Common.{◌≡◌, ℕ, get_or, ap, ◌∙◌, arith}
use Rattle.granule_addr.specs.Page.{page_of, zero_page}
use Rattle.page_arena.specs.Owned.{put_at}
use Rattle.page_arena.proofs.InSlots.{page_placed, page_shared}
use Rattle.page_arena.proofs.pages.own_slot.Goals as goal

pub returns-clause-pages : goal.returns-clause-pages
unfolding page_of
returns-clause-pages c =
    let was = c.args.slots.now in let row = c.args.row.now in let put = c.put.ensures in let next = c.own-next.ensures in let whole = c.requires.whole in
    let slot = c.slot-slot.ensures in let zero = c.if-slot-ne0.false in
    let none : get_or was.of.items c.args.index 0 ≡ 0 = omega arith in
    page_placed row.items was.of.items was.used was.own whole.mark c.args.index c.requires.inside zero_page c.put.new.self.items c.own-next.new.self.of.items
    (put.3 ∙ ap (λ (k : ℕ). put_at row.items k zero_page) next.slot) next.of
    ∙ page_shared row.items was.of.items c.args.index whole.zeros c.requires.inside none
