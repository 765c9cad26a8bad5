use Rattle.std.proofs.Common.{◌≡◌, false, length}
use Rattle.checked_io.proofs.Written.{Wrote}
use Rattle.checked_io.proofs.told.Told.write_whole.Given as goal

abbrev pub invariant-loop-rest : goal.invariant-loop-rest
invariant-loop-rest g l = record {
  fine : l.self.failed ≡ false;
  uncounted : l.self.reads ≡ l.fn.self.reads;
  wrote : Wrote (g.W.Write.contents l.fn.self.device) (g.W.Write.contents l.self.device) l.fn.text l.rest;
}

abbrev pub decreases-loop-rest : goal.decreases-loop-rest
decreases-loop-rest g l = length l.rest
