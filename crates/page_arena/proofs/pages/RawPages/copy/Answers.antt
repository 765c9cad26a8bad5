use Rattle.std.proofs.Common.{◌≡◌, ℕ, List, [], length, set, get_or, refl, sym, ap, ◌∙◌, arith}
use Rattle.std.proofs.lemmas.List.{get_or_default}
use Rattle.granule_addr.specs.Page.{zero_page}
use Rattle.page_arena.specs.Page.{page_at}
use Rattle.page_arena.proofs.InSlots.{length-pages_in, page_in, slot_inside, used_few, page_written}
use Rattle.page_arena.proofs.pages.RawPages.copy.Goals as goal

pub own_slot-slot-requires-clause-inside : goal.own_slot-slot-requires-clause-inside
own_slot-slot-requires-clause-inside c =
    let p = c.self.inside in let n = length-pages_in p.row.items p.slots.of.items in let seen = ap length c.self.view_is in let asked = c.requires.target in omega arith

pub slot-requires : goal.slot-requires
slot-requires c =
    let p = c.self.inside in let n = length-pages_in p.row.items p.slots.of.items in let seen = ap length c.self.view_is in let asked = c.requires.source in
    let count = c.own_slot-slot.ensures.count in omega arith

pub two-written-requires : goal.two-written-requires
two-written-requires c =
    let p = c.self.inside in let n = length-pages_in p.row.items p.slots.of.items in let seen = ap length c.self.view_is in let target = c.requires.target in let source = c.requires.source in
    let it = c.own_slot-slot.new in let own = c.own_slot-slot.ensures in let count = own.count in let pos = own.own in
    let inside = slot_inside it.row.items it.slots.of.items it.slots.used it.slots.own own.whole.mark c.args.target (omega arith) [] in let slot = own.slot in
    let reads = slot_inside it.row.items it.slots.of.items it.slots.used it.slots.own own.whole.mark c.args.source (omega arith) [] in let read = c.slot.ensures in
    let few = used_few it.slots.of.items it.slots.used it.slots.own in let most = own.whole.few in let mark = own.whole.mark in (
      (sym own.whole.place, omega arith, (omega arith, omega arith)),
      (sym own.whole.place, omega arith, (omega arith, omega arith)),
      (λ (same : c.slot.result ≡ c.own_slot-slot.result).
          let none = it.slots.own.apart c.args.target c.args.source (omega arith) (omega arith) c.requires.different (sym slot ∙ sym same ∙ read) in omega arith),
    )

pub returns : goal.returns
returns c =
    let p = c.self.inside in let n = length-pages_in p.row.items p.slots.of.items in let seen = ap length c.self.view_is in let target = c.requires.target in let source = c.requires.source in
    let it = c.own_slot-slot.new in let own = c.own_slot-slot.ensures in let count = own.count in let read = c.slot.ensures in let x = c.two-written.result.0.now in
    let reads = slot_inside it.row.items it.slots.of.items it.slots.used it.slots.own own.whole.mark c.args.source (omega arith) [] in
    page_written it.row.items it.slots.of.items it.slots.used it.slots.own own.whole.mark c.args.target (omega arith) x c.own_slot-slot.result
    (set it.row.items c.own_slot-slot.result x) own.slot own.own refl
    ∙ ap (λ (pages : List (List ℕ)). set pages c.args.target x) (own.pages ∙ c.self.view_is)
    ∙ ap (λ (page : List ℕ). set c.args.self.now c.args.target page)
    (c.two-written.ensures.values.0
    ∙ get_or_default it.row.items c.slot.result x zero_page (omega arith)
    ∙ ap (λ (k : ℕ). get_or it.row.items k zero_page) read
    ∙ sym (page_in it.row.items it.slots.of.items c.args.source [] (omega arith))
    ∙ ap (λ (pages : List (List ℕ)). page_at pages c.args.source) (own.pages ∙ c.self.view_is))
