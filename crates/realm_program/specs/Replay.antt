-- The output text of a plan's replay, with all builds or with one left out, and the reasons why there may be none.
use Rattle.std.specs.Prelude.{◌≡◌, ◌<◌, ◌≤◌, ℕ, List, [], ◌++◌, length, Option, Some, None}
use Rattle.host_ledger.specs.View.{HostView}
use Rattle.host_ledger.specs.Booted.{booted}
use Rattle.realm_host.specs.Recorded.{IsWithout}
use Rattle.realm_plan.specs.Plan.{Plan}
use Rattle.plan_replay.specs.Run.{IsReportedRun, map_text}
use Rattle.realm_program.specs.declared.fault.Fault.{Fault}
use Rattle.realm_program.specs.declared.fault.Fault.TheVariants.{EraseNamesNoBuild, Memory}

-- the host on which a run of a plan begins
abbrev pub opening_host : Plan → HostView
opening_host plan = booted plan.pages plan.vmids plan.aux (length plan.builds) plan.history

-- some run of the plan leads to this host
pub record RunLeadsTo (plan : Plan) (last : HostView) : Type 0 where
  pub lines : List ℕ
  pub run : IsReportedRun plan (opening_host plan) last [] lines

-- the text is the map of a host's history without the build's events
pub record IsMapWithout (host : HostView) (build : ℕ) (text : List ℕ) : Type 0 where
  pub fresh : HostView
  pub without : IsWithout host build fresh
  pub whole : text ≡ map_text fresh

-- The text is the output of some run of the plan: the lines of the run's turns, and the map of the world in which the
-- run ends.
pub record IsText (plan : Plan) (text : List ℕ) : Type 0 where
  pub last : HostView
  pub lines : List ℕ
  pub run : IsReportedRun plan (opening_host plan) last [] lines
  pub whole : text ≡ lines ++ map_text last

-- The text is the output of a replay of the plan with `build` left out. The text is the map of some run's history
-- without the build's events.
pub record IsErasedText (plan : Plan) (build : ℕ) (text : List ℕ) : Type 0 where
  pub of_plan : build < length plan.builds
  pub last : HostView
  pub lines : List ℕ
  pub run : IsReportedRun plan (opening_host plan) last [] lines
  pub fresh : HostView
  pub without : IsWithout last build fresh
  pub whole : text ≡ map_text fresh

-- the text is the output that was asked for: that of a whole run, or the map with a build left out
abbrev pub IsAskedText : Option ℕ → Plan → List ℕ → Type 0
IsAskedText None plan text = IsText plan text
IsAskedText (Some build) plan text = IsErasedText plan build text

-- The fault is why a replay has no output text: allocation failed, or the plan does not have the build that is to be
-- left out. No recorded event is ever refused.
abbrev pub IsWithoutText : Option ℕ → Plan → Fault → Type 0
IsWithoutText erase plan Memory = Unit {0}
IsWithoutText (Some build) plan EraseNamesNoBuild = length plan.builds ≤ build
IsWithoutText erase plan fault = ⊥
