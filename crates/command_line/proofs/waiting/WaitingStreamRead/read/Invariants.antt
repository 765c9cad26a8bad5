use Rattle.std.specs.Io.KnownBytes.{Keeps}
use Rattle.command_line.proofs.waiting.WaitingStreamRead.read.Given as goal

-- the reads so far, each of which would have blocked, have consumed nothing
abbrev pub invariant-loop : goal.invariant-loop
invariant-loop g l = Keeps (g.R.Read.remaining l.fn.self.stream) (g.R.Read.remaining l.self.stream)
