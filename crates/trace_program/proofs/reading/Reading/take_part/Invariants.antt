use Rattle.std.proofs.Common.{length}
use Rattle.trace_program.proofs.Fronts.{HasFront}
use Rattle.trace_program.proofs.reading.Reading.take_part.Given as goal

abbrev pub invariant-lines : goal.invariant-lines
invariant-lines l = HasFront l.request.asked.now l.request.source.now l.fn.self.session l.fn.self.line.items l.fn.self.text l.part l.rest l.self.session l.self.line.items l.self.text

abbrev pub decreases-lines : goal.decreases-lines
decreases-lines l = length l.rest
