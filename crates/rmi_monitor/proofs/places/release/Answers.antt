use Rattle.std.proofs.lemmas.Bool.{OnTrue_at}
use Rattle.rmi_monitor.proofs.places.release.Goals as goal

pub fill-requires : goal.fill-requires
fill-requires g c = record { inside = c.requires.page.inside; taken = c.requires.page.taken }

pub shift-requires : goal.shift-requires
shift-requires g c = c.requires.stands.inside

pub returns : goal.returns
returns g c = record {
  cleared = c.fill.ensures.filled;
  flags = c.fill.ensures.flags;
  shifted = OnTrue_at (c.shift.ensures.answer.1 c.requires.stands.is) c.shift.ensures.shifted;
}
