use Rattle.std.proofs.Common.{◌≡◌, length, set, ap, ◌∙◌, arith}
use Rattle.std.proofs.lemmas.List.{take_at, length-set}
use Rattle.granule_addr.specs.Page.{page_of}
use Rattle.page_arena.specs.Pages.{length-page_of, IsSized-set}
use Rattle.page_arena.proofs.plain.PlainStorePageStore.fill.Goals as goal

pub invariant_of-self : goal.invariant_of-self
invariant_of-self c =
    let pages = c.args.self.now.pages in
    let free = c.args.self.now.free in
    let page = c.number.result in
    let new_pages : c.fill_page.new.pages ≡ set pages.items page (page_of c.args.value) =
    c.fill_page.ensures ∙ ap (λ xs. set xs page (page_of c.args.value)) c.deref_mut.ensures.value in
    let count : length c.fill_page.new.pages ≡ pages.len = ap length new_pages ∙ length-set pages.items page (page_of c.args.value) ∙ (omega (arith, pages.ok.0)) in
    record {
      sized = rw (take_at c.fill_page.new.pages _ pages.len count, new_pages)
          (IsSized-set pages.items free.items c.args.self.now.sized page (page_of c.args.value) (length-page_of c.args.value));
    }
