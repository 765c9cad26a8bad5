use Rattle.std.proofs.Common.{◌≡◌, ℕ, List, [], length, set, get_or, sym, ap, ◌∙◌, arith}
use Rattle.granule_addr.specs.Page.{page_of, zero_page}
use Rattle.page_arena.specs.Owned.{put_at}
use Rattle.page_arena.proofs.Puts.{put_inside}
use Rattle.page_arena.proofs.InSlots.{length-pages_in, slot_inside, used_few, page_shared, page_written, page_placed}
use Rattle.page_arena.proofs.pages.RawPages.fill.Goals as goal

pub slot-slot-requires : goal.slot-slot-requires
slot-slot-requires c = let p = c.self.inside in let n = length-pages_in p.row.items p.slots.of.items in let seen = ap length c.self.view_is in let asked = c.requires in omega arith

pub own-next-requires-clause-inside : goal.own-next-requires-clause-inside
own-next-requires-clause-inside c = let p = c.self.inside in let n = length-pages_in p.row.items p.slots.of.items in let seen = ap length c.self.view_is in let asked = c.requires in omega arith

pub put-requires : goal.put-requires
put-requires c =
    let p = c.self.inside in let whole = c.self.invariant in let n = length-pages_in p.row.items p.slots.of.items in let seen = ap length c.self.view_is in let asked = c.requires in
    let inside = slot_inside p.row.items p.slots.of.items p.slots.used p.slots.own whole.mark c.args.index (omega arith) [] in let slot = c.slot-slot.ensures in
    let few = used_few p.slots.of.items p.slots.used p.slots.own in let most = whole.few in let mark = whole.mark in let room = whole.whole in
    (sym whole.place, omega arith, omega arith, (omega arith, omega arith))

pub returns-then-value-ne0 : goal.returns-then-value-ne0
unfolding page_of
returns-then-value-ne0 c =
    let p = c.self.inside in let n = length-pages_in p.row.items p.slots.of.items in let seen = ap length c.self.view_is in let asked = c.requires in
    let next = c.own-next.ensures in let page = page_of c.args.value in
    page_placed p.row.items p.slots.of.items p.slots.used p.slots.own c.self.invariant.mark c.args.index (omega arith) page c.put-then-value-ne0.new.self.items c.own-next.new.self.of.items
    (c.put-then-value-ne0.ensures.3 ∙ ap (λ (k : ℕ). put_at p.row.items k page) next.slot) next.of
    ∙ ap (λ (pages : List (List ℕ)). set pages c.args.index page) c.self.view_is

pub returns-then-slot-ne0 : goal.returns-then-slot-ne0
unfolding page_of
returns-then-slot-ne0 c =
    let p = c.self.inside in let n = length-pages_in p.row.items p.slots.of.items in let seen = ap length c.self.view_is in let asked = c.requires in
    let page = page_of c.args.value in let own = c.if-slot-ne0.true in let slot = c.slot-slot.ensures in
    let inside = slot_inside p.row.items p.slots.of.items p.slots.used p.slots.own c.self.invariant.mark c.args.index (omega arith) [] in
    page_written p.row.items p.slots.of.items p.slots.used p.slots.own c.self.invariant.mark c.args.index (omega arith) page c.slot-slot.result c.put.new.self.items
    slot (omega arith) (c.put.ensures.3 ∙ sym (put_inside p.row.items c.slot-slot.result page (omega arith)))
    ∙ ap (λ (pages : List (List ℕ)). set pages c.args.index page) c.self.view_is

-- a page that was never written is zero already
pub returns-else-value-ne0 : goal.returns-else-value-ne0
unfolding page_of
returns-else-value-ne0 c =
    let p = c.self.inside in let n = length-pages_in p.row.items p.slots.of.items in let seen = ap length c.self.view_is in let asked = c.requires in
    let slot = c.slot-slot.ensures in let unwritten = c.if-slot-ne0.false in let value = c.if-value-ne0.false in
    let none : get_or p.slots.of.items c.args.index 0 ≡ 0 = omega arith in let zero : 0 ≡ c.args.value = omega arith in
    sym c.self.view_is ∙ sym (page_shared p.row.items p.slots.of.items c.args.index c.self.invariant.zeros (omega arith) none)
    ∙ ap (λ (pages : List (List ℕ)). set pages c.args.index zero_page) c.self.view_is
    ∙ ap (λ (k : ℕ). set c.args.self.now c.args.index (page_of k)) zero
