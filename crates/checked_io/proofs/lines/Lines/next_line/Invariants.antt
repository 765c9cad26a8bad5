use Rattle.std.proofs.Common.{◌≡◌, ◌≤◌, false, length}
use Rattle.std.specs.Io.KnownBytes.{Consumes, prepend_known}
use Rattle.checked_io.proofs.Parts.{HasNoFeed}
use Rattle.checked_io.proofs.lines.Lines.next_line.Given as goal

abbrev pub invariant-loop : goal.invariant-loop
invariant-loop g l = record {
  fine : l.input.failed ≡ false;
  len : length l.line.items ≡ l.counter;
  few : length l.line.items ≤ l.most;
  none : HasNoFeed l.line.items;
  taken : Consumes (prepend_known l.fn.self (g.R.Read.remaining l.fn.input.device)) (prepend_known l.self (g.R.Read.remaining l.input.device)) l.line.items;
}
