use Rattle.std.proofs.Common.{ℕ, List, [], length, get_or, sym, ap, ◌∙◌, arith}
use Rattle.std.proofs.lemmas.List.{get_or_default}
use Rattle.granule_addr.specs.Page.{zero_page}
use Rattle.page_arena.specs.Page.{page_at}
use Rattle.page_arena.proofs.InSlots.{length-pages_in, page_in, slot_inside, used_few}
use Rattle.page_arena.proofs.pages.RawPages.page.Goals as goal

pub slot-requires : goal.slot-requires
slot-requires c = let p = c.self.inside in let n = length-pages_in p.row.items p.slots.of.items in let seen = ap length c.self.view_is in let asked = c.requires in omega arith

pub get-requires : goal.get-requires
get-requires c =
    let p = c.self.inside in let whole = c.self.invariant in let n = length-pages_in p.row.items p.slots.of.items in let seen = ap length c.self.view_is in let asked = c.requires in
    let inside = slot_inside p.row.items p.slots.of.items p.slots.used p.slots.own whole.mark c.args.index (omega arith) [] in let slot = c.slot.ensures in
    let few = used_few p.slots.of.items p.slots.used p.slots.own in let most = whole.few in let mark = whole.mark in
    (sym whole.place, omega arith, (omega arith, omega arith))

pub returns : goal.returns
returns c =
    let p = c.self.inside in let whole = c.self.invariant in let n = length-pages_in p.row.items p.slots.of.items in let seen = ap length c.self.view_is in let asked = c.requires in
    let inside = slot_inside p.row.items p.slots.of.items p.slots.used p.slots.own whole.mark c.args.index (omega arith) [] in let slot = c.slot.ensures in
    c.get.ensures
    ∙ get_or_default p.row.items c.slot.result c.get.result.now zero_page (omega arith)
    ∙ ap (λ (k : ℕ). get_or p.row.items k zero_page) slot
    ∙ sym (page_in p.row.items p.slots.of.items c.args.index [] (omega arith))
    ∙ ap (λ (pages : List (List ℕ)). page_at pages c.args.index) c.self.view_is
