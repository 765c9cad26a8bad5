use Rattle.std.proofs.Common.{◌≡◌, ◌++◌, take}
use Rattle.explain.proofs.operands.push_all.Given as goal

abbrev pub invariant-loop-page : goal.invariant-loop-page
invariant-loop-page l = l.pages.items ≡ l.fn.pages.items ++ take l.page-index l.more
