use Rattle.std.proofs.Common.{◌≡◌, ◌++◌, map, take}
use Rattle.explain.specs.OfBuild.{page_there}
use Rattle.explain.proofs.of_build.add_pages.Given as goal

abbrev pub invariant-loop-page : goal.invariant-loop-page
invariant-loop-page g l = l.checks.items ≡ l.fn.checks.items ++ map (page_there l.host l.build) (take l.page-index l.pages)
