use Rattle.realm_program.proofs.Reading.{IsReadTo}
use Rattle.realm_program.proofs.audit.fits.Given as goal

abbrev pub invariant-loop-line : goal.invariant-loop-line
invariant-loop-line l = IsReadTo l.report.build l.steps l.line-items l.history l.line-index l.next l.opened.items
