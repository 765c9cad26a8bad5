use Rattle.std.proofs.Common.{◌≡◌, ◌++◌, take, string_bytes}
use Rattle.std.specs.List.{flat_map}
use Rattle.plan_states.specs.Lines.{map_shown_by}
use Rattle.plan_states.proofs.text.push_maps.Given as goal

abbrev pub invariant-loop-map : goal.invariant-loop-map
invariant-loop-map l = string_bytes l.text ≡ string_bytes l.fn.text ++ flat_map (map_shown_by l.schedule_count l.maps) (take l.map-index l.tallies)
