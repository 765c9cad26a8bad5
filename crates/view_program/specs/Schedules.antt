-- The text that `explore` prints about a plan's schedules, and the reasons why there may be no text.
use Rattle.std.specs.Prelude.{◌≡◌, ℕ, true, List}
use Rattle.rand_core.specs.Steps.{stream_of, steps_u64_high}
use Rattle.rand_core.specs.Stream.{Stream}
use Rattle.rand_xoshiro.specs.SplitMix64.{splitmix_seed}
use Rattle.rand_xoshiro.specs.Xoshiro256.{of_seed, plus_plus}
use Rattle.realm_plan.specs.Plan.{Plan}
use Rattle.realm_program.specs.Replay.{opening_host}
use Rattle.realm_program.specs.declared.fault.Fault.{Fault}
use Rattle.realm_program.specs.declared.fault.Fault.TheVariants.{Memory}
use Rattle.view_program.specs.Drawn.{IsSampled}
use Rattle.plan_states.specs.Exploration.{HasNoGraph}
use Rattle.plan_states.specs.StatesText.{IsStatesText}
use Rattle.view_program.specs.declared.schedules.totals.Totals.{Totals}
use Rattle.view_program.specs.Lines.{drawn_text}
use Rattle.view_program.specs.ToAnswer.{IsAnswerText}
use Rattle.command_line.specs.declared.realmview.AfterRefusal.{AfterRefusal}
use Rattle.command_line.specs.declared.realmview.AfterRefusal.TheVariants.{GoOn, GiveUp}
use Rattle.command_line.specs.declared.realmview.Schedules.{Schedules}
use Rattle.command_line.specs.declared.realmview.Schedules.TheVariants.{All, Drawn, Shortest}

-- the numbers that the generator xoshiro256++ gives from a seed
abbrev pub random_numbers : ℕ → Stream
random_numbers seed = stream_of (steps_u64_high plus_plus) (of_seed (splitmix_seed 32 seed))

-- the text shows the outcomes of `count` schedules, drawn with the random numbers from a seed
pub record IsDrawnText (count seed : ℕ) (plan : Plan) (text : List ℕ) : Type 0 where
  pub totals : Totals
  pub sampled : IsSampled plan (opening_host plan) (random_numbers seed) count totals
  pub whole : text ≡ drawn_text plan totals

-- the text shows the requested schedules of a plan that was read from `source`
abbrev pub IsSchedulesText : Schedules → (source : List ℕ) → Plan → List ℕ → Type 0
IsSchedulesText (All most) source plan text = IsStatesText most plan text
IsSchedulesText (Drawn count seed) source plan text = IsDrawnText count seed plan text
IsSchedulesText (Shortest most question) source plan text = IsAnswerText most question source plan text

-- the fault is a reason why there is no text: `Memory` for any schedules, and `Mismatch` for all schedules or a
-- shortest one
abbrev pub IsWithoutSchedules : Schedules → Plan → Fault → Type 0
IsWithoutSchedules (All most) plan fault = HasNoGraph fault
IsWithoutSchedules (Shortest most question) plan fault = HasNoGraph fault
IsWithoutSchedules (Drawn count seed) plan Memory = Unit {0}
IsWithoutSchedules (Drawn count seed) plan fault = ⊥

-- ---- after a refusal

-- the plan as it is, or with builds that give up after a refusal
abbrev pub plan_after : AfterRefusal → Plan → Plan
plan_after GoOn plan = plan
plan_after GiveUp plan = record plan { gives_up = true }

abbrev pub IsExploredText : Schedules → AfterRefusal → (source : List ℕ) → Plan → List ℕ → Type 0
IsExploredText schedules after source plan text = IsSchedulesText schedules source (plan_after after plan) text

abbrev pub IsWithoutExplored : Schedules → AfterRefusal → Plan → Fault → Type 0
IsWithoutExplored schedules after plan fault = IsWithoutSchedules schedules (plan_after after plan) fault
