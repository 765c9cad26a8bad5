use Rattle.std.proofs.Common.{◌≡◌, drop}
use Rattle.std.specs.List.{flat_map}
use Rattle.realm_model.specs.History.{pages_held}
use Rattle.realm_program.specs.Fitting.{granule_of_number}
use Rattle.realm_program.proofs.pages.granule_at.Given as goal

-- the page sought is page `left` of the operations still to be searched: both have the same granule, or both have none
abbrev pub invariant-loop-act : goal.invariant-loop-act
invariant-loop-act l = granule_of_number (flat_map pages_held l.opened) l.page ≡ granule_of_number (flat_map pages_held (drop l.act-index l.opened)) l.left
