-- The meaning of `realmview` options for the schedules to explore, the condition to search for, and the behaviour of
-- builds after a refusal.
use Rattle.std.specs.Prelude.{ℕ, ◌==◌, ◌||◌, Bool, true, false, Option, Some, None, unwrap_or, nat_lt, if◌then◌else◌, Result, Ok, Err}
use Rattle.command_line.specs.declared.realmview.Schedules.{Schedules}
use Rattle.command_line.specs.declared.realmview.Schedules.TheVariants.{All, Drawn}
use Rattle.command_line.specs.declared.realmview.AfterRefusal.{AfterRefusal}
use Rattle.command_line.specs.declared.realmview.AfterRefusal.TheVariants.{GoOn, GiveUp}
use Rattle.command_line.specs.declared.realmview.BadOption.{BadOption}
use Rattle.command_line.specs.declared.realmview.BadOption.TheVariants.{SampleAboveMost, GiveUpInPlan, NoStep, GranulesOutOfRange, TwoQuestions}
use Rattle.command_line.specs.declared.realmview.ScheduleQuestion.{ScheduleQuestion}
use Rattle.command_line.specs.declared.realmview.ScheduleQuestion.TheVariants.{Refused, Waiting, Leased}
use Rattle.command_line.specs.declared.realmview.StepPlace.{StepPlace}

-- the request to draw a number of schedules at random with a seed, or an error if the number is above a million
abbrev pub schedules_drawn : ℕ → ℕ → Result Schedules BadOption
schedules_drawn sample seed = if nat_lt 1000000 sample then Err (SampleAboveMost sample) else Ok (Drawn sample seed)

-- The schedules that the options ask for: drawn at random if `--sample` or `--seed` is given, and otherwise all, with a
-- limit on the number of states of their runs. The limit is given by `--most-states`, or is a million without it. If
-- only the seed is given, a thousand schedules are drawn. If no seed is given, it is 0.
abbrev pub schedules_asked : Option ℕ → Option ℕ → Option ℕ → Result Schedules BadOption
schedules_asked most None None = Ok (All (unwrap_or most 1000000))
schedules_asked most None (Some seed) = Ok (Drawn 1000 seed)
schedules_asked most (Some sample) seed = schedules_drawn sample (unwrap_or seed 0)

-- The behaviour of builds after a refusal: they go on, or give up if the options ask for that. To give up is an error
-- in a search for a shortest schedule: the search results in a plan, and no plan can say that builds give up.
abbrev pub after_refusal : Bool → Schedules → Result AfterRefusal BadOption
after_refusal false schedules = Ok GoOn
after_refusal true (All most) = Ok GiveUp
after_refusal true (Drawn count seed) = Ok GiveUp
after_refusal true _ = Err GiveUpInPlan

-- ---- questions

-- the condition `Leased` with this number of granules, or an error if the number is 0 or above 4,096, the most that a
-- machine has
abbrev pub question_of_leased : ℕ → Result ScheduleQuestion BadOption
question_of_leased granules = if granules == 0 || nat_lt 4096 granules then Err (GranulesOutOfRange granules) else Ok (Leased granules)

abbrev pub asked_of_leased : ℕ → Result (Option ScheduleQuestion) BadOption
asked_of_leased granules = if granules == 0 || nat_lt 4096 granules then Err (GranulesOutOfRange granules) else Ok (Some (Leased granules))

-- The condition of a search for a shortest schedule, if an option gives one: `--refused` names a step, `--waiting` a
-- build, and `--leased` a number of granules. More than one condition is an error. So are a text of `--refused` that
-- does not name a step, and a number of granules that is out of range.
abbrev pub question_asked : Option (Option StepPlace) → Option ℕ → Option ℕ → Result (Option ScheduleQuestion) BadOption
question_asked None None None = Ok None
question_asked (Some (Some place)) None None = Ok (Some (Refused place))
question_asked (Some None) None None = Err NoStep
question_asked None (Some build) None = Ok (Some (Waiting build))
question_asked None None (Some granules) = asked_of_leased granules
question_asked _ _ _ = Err TwoQuestions
