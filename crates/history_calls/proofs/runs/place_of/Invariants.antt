use Rattle.std.proofs.Common.{◌≡◌, drop}
use Rattle.std.specs.List.{position_from}
use Rattle.history_calls.specs.Runs as runs
use Rattle.history_calls.proofs.runs.place_of.Given as goal

abbrev pub invariant-loop-place : goal.invariant-loop-place
invariant-loop-place l = position_from (runs.is_same l.rec) l.place (drop l.place l.recs) ≡ position_from (runs.is_same l.rec) 0 l.recs
