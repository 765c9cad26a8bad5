use Rattle.std.proofs.Common.{◌∙◌, sym, ap}
use Rattle.std.specs.Option.{option_or}
use Rattle.view_program.specs.Chosen.{lowest_of}
use Rattle.view_program.specs.Rotation.{in_rotation}
use Rattle.view_program.proofs.schedules.rotation.in_rotation.Goals as goal

pub returns-in-Some : goal.returns-in-Some
unfolding in_rotation
returns-in-Some c = ap (λ found. option_or found (lowest_of c.args.left.now)) (sym c.in-Some.is ∙ c.lowest_from.ensures)

pub returns-in-None : goal.returns-in-None
unfolding in_rotation
returns-in-None c = c.lowest_of.ensures ∙ ap (λ found. option_or found (lowest_of c.args.left.now)) (sym c.in-None.is ∙ c.lowest_from.ensures)
