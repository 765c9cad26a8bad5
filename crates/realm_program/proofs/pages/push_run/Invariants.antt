use Rattle.std.specs.List.{flat_map, range_with_len}
use Rattle.realm_model.specs.History.{pages_held}
use Rattle.realm_program.specs.Fitting.{ArePushed}
use Rattle.realm_program.proofs.pages.push_run.Given as goal

-- the granules of the pages so far are added at the end of the list
abbrev pub invariant-loop-place : goal.invariant-loop-place
invariant-loop-place l = ArePushed (flat_map pages_held l.opened) (range_with_len l.first l.place) l.initial.granules.items l.granules.items
