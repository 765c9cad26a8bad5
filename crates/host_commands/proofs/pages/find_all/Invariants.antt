use Rattle.std.proofs.Common.{◌≡◌, ◌+◌, take, length, Ok}
use Rattle.host_commands.specs.PageLookup.{AreFoundNext}
use Rattle.host_commands.proofs.pages.find_all.Given as goal

abbrev pub invariant-pages : goal.invariant-pages
invariant-pages g l = record {
  next : AreFoundNext (g.D.BuildsView.seen l.view) l.build (take l.page-index l.pages) l.initial.found.items (Ok tt) l.found.items;
  count : length l.found.items ≡ length l.initial.found.items + l.page-index;
}
