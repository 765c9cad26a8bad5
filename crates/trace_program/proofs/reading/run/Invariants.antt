use Rattle.std.proofs.Common.{◌≡◌, false, []}
use Rattle.trace_program.specs.Session.{is_check_done}
use Rattle.trace_program.specs.Reading.{HasRead, IsUnderway}
use Rattle.trace_program.proofs.reading.run.Given as goal

abbrev pub invariant-reads : goal.invariant-reads
invariant-reads g l = record {
  readable : l.input.failed ≡ false;
  writable : l.output.failed ≡ false;
  empty : l.reading.text ≡ [];
  going : is_check_done l.request.asked.now l.reading.session ≡ false;
  underway : IsUnderway l.request.asked.now l.request.source.now (g.R.Read.remaining l.fn.input.device) (g.R.Read.remaining l.input.device) (g.W.Write.contents l.fn.output.device)
      (g.W.Write.contents l.output.device) l.reading.session l.reading.line.items;
  read : HasRead l.counter (g.R.Read.remaining l.fn.input.device) (g.R.Read.remaining l.input.device);
}
