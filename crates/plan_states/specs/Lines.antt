-- The lines of text that report the outcomes of a plan's schedules.
use Rattle.std.specs.Prelude.{ℕ, ◌==◌, Bool, true, false, ◌&&◌, List, [], ◌∷◌, ◌++◌, codes, filter, length, if◌then◌else◌, Option, Some, None, option_map, unwrap_or, slice_get, string_bytes}
use Rattle.std.specs.List.{flat_map, range_with_len}
use Rattle.std.specs.Fmt.{decimal}
use Rattle.std.specs.declared.alloc.Global.{Global}
use Rattle.std.specs.declared.string.String.{String}
use Rattle.host_commands.specs.declared.refusal.Refusal.{Refusal}
use Rattle.realm_plan.specs.Answers.{refusal_text}
use Rattle.realm_plan.specs.StepsWritten.{spelling}
use Rattle.realm_plan.specs.declared.step.PlanStep.{PlanStep}
use Rattle.realm_plan.specs.Plan.{Plan}
use Rattle.plan_replay.specs.Place.{giving_up}
use Rattle.plan_replay.specs.Run.{step_after}
use Rattle.schedule_graph.specs.Number.{numeral}
use Rattle.plan_states.specs.declared.tally.PathTally.{PathTally}
use Rattle.plan_states.specs.declared.tally.Outcomes.{Outcomes}
use Rattle.plan_states.specs.declared.tally.StepOutcomes.{StepOutcomes}
use Rattle.plan_states.specs.declared.step_end.EndOfStep.{EndOfStep}
use Rattle.plan_states.specs.OrderText.{schedule_text}

-- ---- single lines

-- the words for the outcome of a step, which are `ok`, or `no` and the refusal
abbrev pub words_of_end : Option Refusal → List ℕ
words_of_end None = codes "ok"
words_of_end (Some refusal) = codes "no " ++ refusal_text refusal

-- the line with the number of schedules
abbrev pub schedules_line : ℕ → List ℕ
schedules_line schedule_count = codes "schedules " ++ (numeral schedule_count ++ 10 ∷ [])

-- how many schedules have an outcome, as text: all, or a number with the first such schedule
abbrev pub share_text : ℕ → ℕ → List ℕ → List ℕ
share_text schedule_count count first = if count == schedule_count then codes " in all\n" else codes " in " ++ (numeral count ++ (codes ", " ++ (schedule_text first ++ 10 ∷ [])))

-- the words for the schedules with a refused step if the argument is true, and for those without one if it is false
abbrev pub refusal_words : Bool → List ℕ
refusal_words true = codes "some step refused"
refusal_words false = codes "no step refused"

abbrev pub refusals_line : ℕ → PathTally Bool → List ℕ
refusals_line schedule_count tally = refusal_words tally.outcome ++ share_text schedule_count tally.count tally.first.items

-- the line for an outcome of a step: the build, the step's index and text, the outcome, and how many schedules have it
abbrev pub end_shown : ℕ → PlanStep → PathTally EndOfStep → List ℕ
end_shown schedule_count step tally =
    codes "step "
    ++ (decimal tally.outcome.build
    ++ (32 ∷ decimal tally.outcome.step
    ++ (32 ∷ spelling step ++ (codes " = " ++ (words_of_end tally.outcome.refusal ++ share_text schedule_count tally.count tally.first.items)))))

-- the line for an outcome of giving up: the build, the outcome of its abort, and how many schedules have it
abbrev pub give_up_shown : ℕ → PathTally EndOfStep → List ℕ
give_up_shown schedule_count tally =
    codes "give up "
    ++ (decimal tally.outcome.build ++ (codes " = " ++ (words_of_end tally.outcome.refusal ++ share_text schedule_count tally.count tally.first.items)))

-- the line with the number of schedules in which a build was never refused
abbrev pub never_refused_line : ℕ → PathTally ℕ → List ℕ
never_refused_line schedule_count tally = codes "never refused " ++ (decimal tally.outcome ++ share_text schedule_count tally.count tally.first.items)

-- the text of a final map: how many schedules end with it, and then the map
abbrev pub map_shown : ℕ → List ℕ → List ℕ → ℕ → List ℕ
map_shown schedule_count map first count = codes "map" ++ (share_text schedule_count count first ++ map)

abbrev pub map_shown_by : ℕ → List (String Global) → PathTally ℕ → List ℕ
map_shown_by schedule_count maps tally =
    elim (slice_get maps tally.outcome) [ Some map ↦ map_shown schedule_count (string_bytes map) tally.first.items tally.count | None ↦ [] ]

-- ---- the whole text

-- the tally counts an outcome of this step of the build
abbrev pub is_of_step : ℕ → ℕ → PathTally EndOfStep → Bool
is_of_step build place tally = tally.outcome.build == build && tally.outcome.step == place

-- the lines for the outcomes of the step, if the plan has the step
abbrev pub step_ends : StepOutcomes → ℕ → ℕ → Option PlanStep → List ℕ
step_ends outcomes build place None = []
step_ends outcomes build place (Some step) = flat_map (end_shown outcomes.schedule_count step) (filter (is_of_step build place) outcomes.ends.items)

abbrev pub step_number : Plan → ℕ → ℕ
step_number plan build = unwrap_or (option_map length (slice_get plan.builds build)) 0

abbrev pub ends_of_step : Plan → StepOutcomes → ℕ → ℕ → List ℕ
ends_of_step plan outcomes build place = step_ends outcomes build place (step_after plan build place)

-- the lines on how a build's abort ends after the build gave up; none for a plan whose builds do not give up
abbrev pub ends_of_giving_up : Plan → StepOutcomes → ℕ → List ℕ
ends_of_giving_up plan outcomes build =
    if plan.gives_up then flat_map (give_up_shown outcomes.schedule_count) (filter (is_of_step build giving_up) outcomes.ends.items) else []

-- the lines for the outcomes of a build's steps and of its giving up
abbrev pub ends_of_build : Plan → StepOutcomes → ℕ → List ℕ
ends_of_build plan outcomes build =
    flat_map (ends_of_step plan outcomes build) (range_with_len 0 (step_number plan build)) ++ ends_of_giving_up plan outcomes build

-- the line with the number of schedules in which the build was never refused, even if this number is 0
abbrev pub never_refused_lines : ℕ → List (PathTally ℕ) → ℕ → List ℕ
never_refused_lines schedule_count [] build = codes "never refused " ++ (decimal build ++ codes " in 0\n")
never_refused_lines schedule_count (tally ∷ never_refused) build = if tally.outcome == build then never_refused_line schedule_count tally else never_refused_lines schedule_count never_refused build

-- The text that reports the step outcomes of schedules. It has the numbers of schedules with a refused step and without
-- one. Then it has the numbers of those with each outcome of each step, and of those in which each build was never
-- refused.
abbrev pub step_outcomes_text : Plan → StepOutcomes → List ℕ
step_outcomes_text plan outcomes =
    flat_map (refusals_line outcomes.schedule_count) outcomes.by_refusal.items
    ++ (flat_map (ends_of_build plan outcomes) (range_with_len 0 (length plan.builds))
    ++ flat_map (never_refused_lines outcomes.schedule_count outcomes.never_refused.items) (range_with_len 0 (length plan.builds)))

-- the text that reports the outcomes of all schedules
abbrev pub outcomes_text : Plan → List (String Global) → Outcomes → List ℕ
outcomes_text plan maps outcomes =
    schedules_line outcomes.steps.schedule_count
    ++ (step_outcomes_text plan outcomes.steps ++ flat_map (map_shown_by outcomes.steps.schedule_count maps) outcomes.maps.items)
