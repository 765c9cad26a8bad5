use Rattle.std.proofs.Common.{◌∙◌}
use Rattle.view_program.proofs.plan_page.fresh_without.Goals as goal

pub apply_without-requires : goal.apply_without-requires
apply_without-requires c = c.in_ok-fresh.ensures ∙ c.requires

pub returns : goal.returns
returns c = c.apply_without.ensures
