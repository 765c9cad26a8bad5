use Rattle.std.proofs.Common.{sym}
use Rattle.host_commands.proofs.FoundNext.{page_missing}
use Rattle.host_commands.proofs.pages.find.Goals as goal

pub returns-in_default-clause-next : goal.returns-in_default-clause-next
returns-in_default-clause-next g c = page_missing (g.D.BuildsView.seen c.args.view.now) c.args.build c.args.page c.args.found.now.items c.args.found.now.items (sym c.in_default.ensures.value)
