use Rattle.std.proofs.Common.{◌≡◌, take}
use Rattle.host_commands.proofs.cmd.clone_pages.Given as goal

abbrev pub invariant-loop-page : goal.invariant-loop-page
invariant-loop-page l = l.clone.items ≡ take l.page-index l.pages.items
