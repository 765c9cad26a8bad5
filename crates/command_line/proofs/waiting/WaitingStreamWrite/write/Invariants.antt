use Rattle.std.specs.Io.KnownBytes.{Keeps}
use Rattle.command_line.proofs.waiting.WaitingStreamWrite.write.Given as goal

-- the writes so far, each of which would have blocked, have appended nothing
abbrev pub invariant-loop : goal.invariant-loop
invariant-loop g l = Keeps (g.W.Write.contents l.fn.self.stream) (g.W.Write.contents l.self.stream)
