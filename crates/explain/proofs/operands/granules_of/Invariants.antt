use Rattle.std.proofs.Common.{◌≡◌, ◌≤◌, length, take}
use Rattle.std.specs.List.{filter_map}
use Rattle.host_ledger.specs.View.{granule_of_page}
use Rattle.explain.proofs.operands.granules_of.Given as goal

abbrev pub invariant-loop-page : goal.invariant-loop-page
invariant-loop-page g l = record {
  items : l.granules.items ≡ filter_map (granule_of_page l.host l.build) (take l.page-index l.pages);
  few : length l.granules.items ≤ l.page-index;
}
