use Rattle.std.proofs.Common.{◌∙◌}
use Rattle.realm_program.proofs.text.map_without.Goals as goal

pub apply_without-requires : goal.apply_without-requires
apply_without-requires c = c.in_ok-fresh.ensures ∙ c.requires
