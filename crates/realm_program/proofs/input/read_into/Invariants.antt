use Rattle.std.proofs.Common.{◌≡◌, ◌+◌, ◌<◌, ◌≤◌, false, length}
use Rattle.std.specs.Io.KnownBytes.{Consumes}
use Rattle.realm_program.proofs.input.read_into.Given as goal

abbrev pub invariant-loop : goal.invariant-loop
invariant-loop g l = record {
  fine : l.input.failed ≡ false;
  not_lowered : l.fn.input.reads ≤ l.input.reads;
  asked : l.input.reads ≤ l.fn.input.reads + l.counter;
  some : l.counter ≤ length l.bytes.items;
  few : length l.bytes.items < 1048577;
  taken : Consumes (g.R.Read.remaining l.fn.input.device) (g.R.Read.remaining l.input.device) l.bytes.items;
}
