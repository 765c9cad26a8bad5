use Rattle.std.proofs.Common.{◌≡◌, true, replicate, arith, rules}
use Rattle.granule_addr.specs.Page.{zero_page}
use Rattle.page_arena.specs.Pages.{IsSized-replicate}
use Rattle.page_arena.proofs.plain.PlainStore.build.Goals as goal

pub invariant_of-result : goal.invariant_of-result
invariant_of-result c =
    let new_pages : c.in_ok-pages.pages.items ≡ replicate c.args.pages zero_page = search rules in
    let new_flags : c.in_ok-free.free.items ≡ replicate c.args.pages true = search rules in
    record { sized = rw (new_pages, new_flags) (IsSized-replicate c.args.pages true (omega arith) (omega arith)) }
