use Rattle.std.proofs.Common.{◌≡◌, ◌+◌, length, Ok}
use Rattle.std.specs.List.{range_with_len}
use Rattle.host_commands.specs.PageLookup.{AreFoundNext}
use Rattle.host_commands.proofs.pages.find_run.Given as goal

abbrev pub invariant-run : goal.invariant-run
invariant-run g l = record {
  next : AreFoundNext (g.D.BuildsView.seen l.view) l.build (range_with_len l.first l.counter) l.initial.found.items (Ok tt) l.found.items;
  count : length l.found.items ≡ length l.initial.found.items + l.counter;
  page : l.page ≡ l.first + l.counter;
}
