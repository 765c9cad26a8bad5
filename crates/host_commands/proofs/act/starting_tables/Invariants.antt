use Rattle.std.proofs.Common.{◌≡◌, ◌+◌, take}
use Rattle.std.specs.List.{range_with_len}
use Rattle.host_commands.proofs.act.starting_tables.Given as goal

abbrev pub invariant-tables : goal.invariant-tables
invariant-tables l = record {
  run : take l.table-index l.tables ≡ range_with_len l.first l.table-index;
  number : l.number ≡ l.first + l.table-index;
}
