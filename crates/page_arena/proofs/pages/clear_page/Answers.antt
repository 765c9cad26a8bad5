use Rattle.std.proofs.Common.{◌≡◌, [], get_or, sym, ◌∙◌, arith}
use Rattle.granule_addr.specs.Page.{page_of, zero_page}
use Rattle.page_arena.proofs.Puts.{put_inside}
use Rattle.page_arena.proofs.InSlots.{slot_inside, used_few, page_shared, page_written}
use Rattle.page_arena.proofs.pages.clear_page.Goals as goal

pub put-requires : goal.put-requires
put-requires c =
    let at = c.args.slots.now in let row = c.args.row.now in let whole = c.requires.whole in let slot = c.slot-slot.ensures in
    let inside = slot_inside row.items at.of.items at.used at.own whole.mark c.args.index c.requires.inside [] in
    let few = used_few at.of.items at.used at.own in let most = whole.few in let mark = whole.mark in let room = whole.whole in
    (sym whole.place, omega arith, omega arith, (omega arith, omega arith))

pub returns-then-slot-eq0-clause-pages : goal.returns-then-slot-eq0-clause-pages
returns-then-slot-eq0-clause-pages c =
    let slot = c.slot-slot.ensures in let zero = c.if-slot-eq0.true in
    let none : get_or c.args.slots.now.of.items c.args.index 0 ≡ 0 = omega arith in
    sym (page_shared c.args.row.now.items c.args.slots.now.of.items c.args.index c.requires.whole.zeros c.requires.inside none)

pub returns-clause-pages : goal.returns-clause-pages
unfolding page_of
returns-clause-pages c =
    let at = c.args.slots.now in let row = c.args.row.now in let whole = c.requires.whole in let slot = c.slot-slot.ensures in let own = c.if-slot-eq0.false in
    let inside = slot_inside row.items at.of.items at.used at.own whole.mark c.args.index c.requires.inside [] in
    page_written row.items at.of.items at.used at.own whole.mark c.args.index c.requires.inside zero_page c.slot-slot.result c.put.new.self.items slot (omega arith)
    (c.put.ensures.3 ∙ sym (put_inside row.items c.slot-slot.result zero_page (omega arith)))
