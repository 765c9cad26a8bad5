use Rattle.std.proofs.Common.{length}
use Rattle.explain.proofs.error.repeated_page.Given as goal

abbrev pub decreases-pages : goal.decreases-pages
decreases-pages l = length l.rest
