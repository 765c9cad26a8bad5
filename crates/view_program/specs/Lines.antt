-- The text of the outcomes of randomly drawn schedules.
use Rattle.std.specs.Prelude.{ℕ, List, [], ◌∷◌, ◌++◌, codes, string_bytes}
use Rattle.std.specs.List.{flat_map}
use Rattle.std.specs.declared.alloc.Global.{Global}
use Rattle.std.specs.declared.string.String.{String}
use Rattle.realm_plan.specs.Plan.{Plan}
use Rattle.schedule_graph.specs.Number.{numeral}
use Rattle.plan_states.specs.Lines.{map_shown, step_outcomes_text}
use Rattle.plan_states.specs.declared.tally.PathTally.{PathTally}
use Rattle.view_program.specs.declared.schedules.totals.Totals.{Totals}

-- the line that states the number of drawn schedules
abbrev pub drawn_line : ℕ → List ℕ
drawn_line schedule_count = codes "schedules drawn " ++ (numeral schedule_count ++ 10 ∷ [])

-- lines that say how many schedules end with a final map, followed by the lines of the map
abbrev pub map_lines : ℕ → PathTally (String Global) → List ℕ
map_lines schedule_count tally = map_shown schedule_count (string_bytes tally.outcome) tally.first.items tally.count

-- the text of the outcomes of randomly drawn schedules
abbrev pub drawn_text : Plan → Totals → List ℕ
drawn_text plan totals =
    drawn_line totals.steps.schedule_count ++ (step_outcomes_text plan totals.steps ++ flat_map (map_lines totals.steps.schedule_count) totals.maps.items)
