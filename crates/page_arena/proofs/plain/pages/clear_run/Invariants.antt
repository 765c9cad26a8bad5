use Rattle.std.proofs.Common.{◌≡◌, ◌-◌}
use Rattle.granule_addr.specs.Page.{zero_page}
use Rattle.page_arena.specs.Block.{with_run}
use Rattle.page_arena.proofs.plain.pages.clear_run.Given as goal

abbrev pub invariant-loop-i : goal.invariant-loop-i
invariant-loop-i l = l.pages ≡ with_run l.fn.pages l.first (l.i - l.first) zero_page
