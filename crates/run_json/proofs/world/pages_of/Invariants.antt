use Rattle.std.proofs.Common.{◌≡◌}
use Rattle.run_json.specs.Worlds.{page_items}
use Rattle.run_json.proofs.world.pages_of.Given as goal

abbrev pub invariant-loop-page : goal.invariant-loop-page
invariant-loop-page g l = l.items.items ≡ page_items l.host l.build l.page
