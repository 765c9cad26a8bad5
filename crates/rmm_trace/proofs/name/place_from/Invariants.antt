use Rattle.std.proofs.Common.{◌≡◌, map, drop}
use Rattle.std.specs.List.{position_from}
use Rattle.std.specs.Str.{bytes_eq}
use Rattle.rmm_trace.proofs.name.place_from.Given as goal

abbrev pub invariant-loop-place : goal.invariant-loop-place
invariant-loop-place l = position_from (bytes_eq l.text) l.place (map (λ t. t.now) (drop l.place l.texts)) ≡ position_from (bytes_eq l.text) l.first (map (λ t. t.now) (drop l.first l.texts))
