use Rattle.std.proofs.Common.{ℕ, List, [], length, set, get_or, refl, sym, ap, ◌∙◌, arith}
use Rattle.std.proofs.lemmas.List.{get_or_default}
use Rattle.granule_addr.specs.Page.{zero_page}
use Rattle.page_arena.specs.Page.{page_at}
use Rattle.page_arena.proofs.InSlots.{length-pages_in, page_in, slot_inside, used_few, page_written}
use Rattle.page_arena.proofs.pages.RawPages.page_mut.Goals as goal

pub own_slot-slot-requires-clause-inside : goal.own_slot-slot-requires-clause-inside
own_slot-slot-requires-clause-inside c =
    let p = c.self.inside in let n = length-pages_in p.row.items p.slots.of.items in let seen = ap length c.self.view_is in let asked = c.requires in omega arith

pub get_mut-requires : goal.get_mut-requires
get_mut-requires c =
    let p = c.self.inside in let n = length-pages_in p.row.items p.slots.of.items in let seen = ap length c.self.view_is in let asked = c.requires in
    let it = c.own_slot-slot.new in let own = c.own_slot-slot.ensures in let count = own.count in
    let inside = slot_inside it.row.items it.slots.of.items it.slots.used it.slots.own own.whole.mark c.args.index (omega arith) [] in let slot = own.slot in
    let few = used_few it.slots.of.items it.slots.used it.slots.own in let most = own.whole.few in let mark = own.whole.mark in
    (sym own.whole.place, omega arith, (omega arith, omega arith))

pub returns : goal.returns
returns c =
    let p = c.self.inside in let n = length-pages_in p.row.items p.slots.of.items in let seen = ap length c.self.view_is in let asked = c.requires in
    let it = c.own_slot-slot.new in let own = c.own_slot-slot.ensures in let count = own.count in let slot = own.slot in
    let inside = slot_inside it.row.items it.slots.of.items it.slots.used it.slots.own own.whole.mark c.args.index (omega arith) [] in (
      (
        refl,
        λ w.
            page_written it.row.items it.slots.of.items it.slots.used it.slots.own own.whole.mark c.args.index (omega arith) w c.own_slot-slot.result
            (set it.row.items c.own_slot-slot.result w) slot own.own refl
            ∙ ap (λ (pages : List (List ℕ)). set pages c.args.index w) (own.pages ∙ c.self.view_is),
      ),
      record {
        writes_back = tt;
        value = c.get_mut.ensures.value
            ∙ get_or_default it.row.items c.own_slot-slot.result c.get_mut.result.now zero_page (omega arith)
            ∙ ap (λ (k : ℕ). get_or it.row.items k zero_page) slot
            ∙ sym (page_in it.row.items it.slots.of.items c.args.index [] (omega arith))
            ∙ ap (λ (pages : List (List ℕ)). page_at pages c.args.index) (own.pages ∙ c.self.view_is);
      },
    )
