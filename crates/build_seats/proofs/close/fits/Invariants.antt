use Rattle.std.specs.Prelude.{take}
use Rattle.build_seats.specs.Close.{Fits}
use Rattle.build_seats.proofs.close.fits.Given as goal

abbrev pub invariant-loop-seat : goal.invariant-loop-seat
invariant-loop-seat g l = Fits l.build l.history (take l.seat-index l.seats)
