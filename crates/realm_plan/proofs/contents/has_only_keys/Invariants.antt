use Rattle.std.proofs.Common.{◌≡◌, map}
use Rattle.realm_plan.specs.Contents.{has_only}
use Rattle.toml.specs.View.{table_view}
use Rattle.realm_plan.proofs.Fronts.{keys_are}
use Rattle.realm_plan.proofs.contents.has_only_keys.Given as goal

abbrev pub invariant-loop-key : goal.invariant-loop-key
invariant-loop-key l = keys_are (map (λ n. n.now) l.names) l.key-iterator ≡ has_only (map (λ n. n.now) l.names) (table_view l.table)
