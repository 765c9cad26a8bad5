use Rattle.std.proofs.Common.{◌≡◌, ◌++◌, ◌-◌}
use Rattle.std.specs.List.{flat_map, range_with_len}
use Rattle.host_ledger.specs.View.{world_of}
use Rattle.realm_host.specs.Readings.{row_at}
use Rattle.run_json.specs.Rows.{beginning_at}
use Rattle.run_json.proofs.rows.push_rows_above.Given as goal

abbrev pub invariant-loop-number : goal.invariant-loop-number
invariant-loop-number g l =
    l.items.items ≡ l.fn.items.items ++ flat_map (λ level. beginning_at l.row.first (row_at (world_of l.host) l.build l.row.first level)) (range_with_len 1 (l.number - 1))
