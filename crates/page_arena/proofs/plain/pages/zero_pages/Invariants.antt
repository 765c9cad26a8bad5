use Rattle.std.proofs.Common.{◌≡◌, replicate}
use Rattle.granule_addr.specs.Page.{zero_page}
use Rattle.page_arena.proofs.plain.pages.zero_pages.Given as goal

abbrev pub invariant-loop-i : goal.invariant-loop-i
invariant-loop-i l = l.pages.items ≡ replicate l._i zero_page
