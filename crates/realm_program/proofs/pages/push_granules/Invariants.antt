use Rattle.std.proofs.Common.{take}
use Rattle.std.specs.List.{flat_map}
use Rattle.realm_model.specs.History.{pages_held}
use Rattle.realm_program.specs.Fitting.{ArePushed}
use Rattle.realm_program.proofs.pages.push_granules.Given as goal

-- the granules of the pages so far are added at the end of the list
abbrev pub invariant-loop-page : goal.invariant-loop-page
invariant-loop-page l = ArePushed (flat_map pages_held l.opened) (take l.page-index l.pages) l.initial.granules.items l.granules.items
