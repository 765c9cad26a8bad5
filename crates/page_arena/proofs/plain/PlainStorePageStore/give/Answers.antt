use Rattle.std.proofs.Common.{◌≡◌, ◌+◌, ◌≤◌, true, length, ap, ◌∙◌, arith}
use Rattle.std.proofs.lemmas.List.{take_at}
use Rattle.granule_addr.specs.Page.{zero_page}
use Rattle.page_arena.specs.Block.{with_run}
use Rattle.page_arena.specs.Runs.{length-with_run}
use Rattle.page_arena.specs.Pages.{IsSized-with_run}
use Rattle.page_arena.proofs.plain.PlainStorePageStore.give.Goals as goal

pub invariant_of-self : goal.invariant_of-self
invariant_of-self c =
    let pages = c.args.self.now.pages in
    let flags = c.args.self.now.free in
    let first = c.number-first.result in
    let size = c.size-size.result in
    let sized = c.args.self.now.sized in
    let flagged = sized.flagged in
    let fits : first + size ≤ length flags.items = rw (c.number-first.ensures.value, c.size-size.ensures.value) c.requires.inside in
    let fits_pages : first + size ≤ length pages.items = omega arith in
    let new_pages : c.clear_run.new.pages ≡ with_run pages.items first size zero_page =
    c.clear_run.ensures ∙ ap (λ xs. with_run xs first size zero_page) c.deref_mut.ensures.value in
    let new_flags : c.set_run.new.flags ≡ with_run flags.items first size true =
    c.set_run.ensures ∙ ap (λ xs. with_run xs first size true) c.deref_mut-2.ensures.value in
    let page_count : length c.clear_run.new.pages ≡ pages.len = ap length new_pages ∙ length-with_run pages.items first size zero_page fits_pages ∙ (omega (arith, pages.ok.0)) in
    let flag_count : length c.set_run.new.flags ≡ flags.len = ap length new_flags ∙ length-with_run flags.items first size true fits ∙ (omega (arith, flags.ok.0)) in
    record {
      sized = rw (take_at c.clear_run.new.pages _ pages.len page_count, take_at c.set_run.new.flags _ flags.len flag_count, new_pages, new_flags)
          (IsSized-with_run pages.items flags.items sized first size true fits);
    }
