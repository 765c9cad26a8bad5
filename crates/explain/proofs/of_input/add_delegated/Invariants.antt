use Rattle.std.proofs.Common.{◌≡◌, ◌++◌, map, take}
use Rattle.explain.specs.OfInput.{page_delegated}
use Rattle.explain.proofs.of_input.add_delegated.Given as goal

abbrev pub invariant-loop-page : goal.invariant-loop-page
invariant-loop-page g l = l.checks.items ≡ l.fn.checks.items ++ map (page_delegated l.host l.build) (take l.page-index l.pages)
