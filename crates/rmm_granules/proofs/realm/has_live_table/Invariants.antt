use Rattle.std.proofs.Common.{◌≡◌, ◌+◌, ◌-◌}
use Rattle.rmm_model.specs.Command.RealmDestroy.{has_live_table}
use Rattle.rmm_granules.proofs.realm.has_live_table.Given as goal

abbrev pub invariant-loop-k : goal.invariant-loop-k
invariant-loop-k g l =
    has_live_table l.granules (l.realm.first_table + l.k) (l.realm.table_count - l.k) ≡ has_live_table l.granules l.realm.first_table l.realm.table_count
