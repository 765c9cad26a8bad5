use Rattle.std.proofs.Common.{◌≡◌, ◌++◌, take, string_bytes}
use Rattle.std.specs.List.{flat_map}
use Rattle.view_program.specs.Lines.{map_lines}
use Rattle.view_program.proofs.schedules.text.push_maps.Given as goal

abbrev pub invariant-loop-map : goal.invariant-loop-map
invariant-loop-map l = string_bytes l.text ≡ string_bytes l.fn.text ++ flat_map (map_lines l.schedule_count) (take l.map-index l.maps)
