use Rattle.std.proofs.Common.{◌∙◌}
use Rattle.host_commands.proofs.ActOf.{no_granule}
use Rattle.host_commands.proofs.act.act_on_pages.Goals as goal

pub returns-in_err-granule-clause-act : goal.returns-in_err-granule-clause-act
returns-in_err-granule-clause-act c = c.from_residual.ensures ∙ no_granule c.args.cmd.now c.args.granules.now c.args.allocated c.requires.some c.in_err-granule.ensures
