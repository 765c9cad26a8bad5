use Rattle.std.specs.Prelude.{slice_get}
use Rattle.realm_program.proofs.line.step_fits.Goals as goal

pub returns-in-Mark : goal.returns-in-Mark
returns-in-Mark c = rw c.in-Mark.is (c.mark_fits.ensures (slice_get c.args.history.now c.args.next))
