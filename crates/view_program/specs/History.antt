-- The history of a plan's run as text, complete or without one build's events.
use Rattle.std.specs.Prelude.{◌≡◌, ◌<◌, ℕ, List, [], length, Option, Some, None}
use Rattle.host_ledger.specs.View.{HostView}
use Rattle.history_text.specs.Histories.{history_text, shown}
use Rattle.history_text.specs.declared.opening.Opening.{Opening}
use Rattle.realm_plan.specs.Plan.{Plan}
use Rattle.plan_replay.specs.Run.{IsReportedRun}
use Rattle.realm_program.specs.Replay.{opening_host}

-- the size of a plan's machine, as the first line of a history states it
abbrev pub opening_of : Plan → Opening
opening_of plan = record { pages = plan.pages; vmids = plan.vmids; aux = plan.aux; history = plan.history; builds = length plan.builds }

-- the build to leave out, if any, is one of the plan's
abbrev pub IsBuildOfPlan : Option ℕ → Plan → Type 0
IsBuildOfPlan None plan = Unit {0}
IsBuildOfPlan (Some build) plan = build < length plan.builds

-- The text is the history of some run of the plan, complete or without one build's events.
pub record IsHistoryText (erase : Option ℕ) (plan : Plan) (text : List ℕ) : Type 0 where
  pub of_plan : IsBuildOfPlan erase plan
  pub last : HostView
  pub lines : List ℕ
  pub run : IsReportedRun plan (opening_host plan) last [] lines
  pub whole : text ≡ history_text (opening_of plan) (shown erase last.history)
