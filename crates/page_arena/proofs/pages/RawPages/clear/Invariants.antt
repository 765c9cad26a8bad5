use Rattle.std.proofs.Common.{◌≡◌, ◌-◌}
use Rattle.granule_addr.specs.Page.{zero_page}
use Rattle.page_arena.specs.Block.{with_run}
use Rattle.page_arena.specs.Slots.{pages_in}
use Rattle.page_arena.specs.Whole.{IsWhole}
use Rattle.page_arena.proofs.pages.RawPages.clear.Given as goal

abbrev pub invariant-loop-i : goal.invariant-loop-i
invariant-loop-i l = let p = l.self-inside in let was = l.initial.self-inside in record {
  whole : IsWhole p.start.first p.row.at p.slots.of.items p.slots.used p.row.room p.row.items p.alloc p.row.alloc;
  slots : p.slots.of.items ≡ was.slots.of.items;
  cleared : pages_in p.row.items p.slots.of.items ≡ with_run (pages_in was.row.items was.slots.of.items) l.first (l.i - l.first) zero_page;
}
