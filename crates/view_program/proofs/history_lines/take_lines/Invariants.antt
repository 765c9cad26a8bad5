use Rattle.std.proofs.Common.{◌≡◌, ◌+◌, false, length}
use Rattle.std.specs.Io.KnownBytes.{prepend_known}
use Rattle.view_program.proofs.Takings.{SoFar}
use Rattle.view_program.proofs.history_lines.take_lines.Given as goal

abbrev pub invariant-loop : goal.invariant-loop
invariant-loop g l = record {
  fine : l.input.failed ≡ false;
  count : length l.host.history ≡ length l.fn.host.history + l.counter;
  so_far : SoFar (prepend_known l.fn.lines (g.R.Read.remaining l.fn.input.device)) (prepend_known l.lines (g.R.Read.remaining l.input.device)) l.fn.host l.host;
}
