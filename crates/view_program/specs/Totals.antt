-- Definitions of the totals of several runs of a plan, which count step outcomes and final host maps.
use mathlib.Core.Bool.{beq}
use Rattle.std.specs.Prelude.{◌≡◌, ℕ, ◌==◌, nat_eq, Bool, not, ◌&&◌, List, map, filter, length, is_some, string_bytes}
use Rattle.std.specs.List.{flat_map, list_any, range_with_len}
use Rattle.std.specs.Str.{bytes_eq}
use Rattle.std.specs.declared.alloc.Global.{Global}
use Rattle.std.specs.declared.string.String.{String}
use Rattle.view_program.specs.Same.{same_end}
use Rattle.view_program.specs.Tally.{Sighting, counted}
use Rattle.plan_states.specs.Tallies.{count_of_tally}
use Rattle.view_program.specs.declared.schedules.choice.Choice.{Choice}
use Rattle.plan_states.specs.declared.step_end.EndOfStep.{EndOfStep}
use Rattle.view_program.specs.declared.schedules.totals.Totals.{Totals}

-- A run's schedule, the outcomes of the run's steps, and the host's final map.
pub record Visit : Type 0 where
  pub choices : List Choice
  pub ends : List EndOfStep
  pub map : String Global

abbrev pub chosen_schedule : List Choice → List ℕ
chosen_schedule choices = map (λ choice. choice.build) choices

abbrev pub sighting_in : {K : Type 0} → List Choice → K → Sighting K
sighting_in choices outcome = record { outcome = outcome; schedule = chosen_schedule choices }

abbrev pub ends_seen : Visit → List (Sighting EndOfStep)
ends_seen visit = map (sighting_in visit.choices) visit.ends

abbrev pub map_seen : Visit → Sighting (String Global)
map_seen visit = sighting_in visit.choices visit.map

-- the outcome belongs to a refused step of the build
abbrev pub refuses : ℕ → EndOfStep → Bool
refuses build end = end.build == build && is_some end.refusal

-- some step was refused
abbrev pub has_refusal : List EndOfStep → Bool
has_refusal ends = list_any (λ end. is_some end.refusal) ends

abbrev pub whole_seen : Visit → Sighting Bool
whole_seen visit = sighting_in visit.choices (has_refusal visit.ends)

-- no step of the build was refused
abbrev pub is_smooth : List EndOfStep → ℕ → Bool
is_smooth ends build = not (list_any (refuses build) ends)

-- each of the first `builds` builds that had no refused step in a run, with the run's schedule
abbrev pub smooth_seen : ℕ → Visit → List (Sighting ℕ)
smooth_seen builds visit = map (sighting_in visit.choices) (filter (is_smooth visit.ends) (range_with_len 0 builds))

abbrev pub same_text : String Global → String Global → Bool
same_text text other = bytes_eq (string_bytes text) (string_bytes other)

-- The totals count the given runs of a plan with `builds` builds.
pub record AreTotals (builds : ℕ) (visits : List Visit) (totals : Totals) : Type 0 where
  pub schedule_count : totals.steps.schedule_count ≡ length visits
  pub by_refusal : map count_of_tally totals.steps.by_refusal.items ≡ counted beq (map whole_seen visits)
  pub ends : map count_of_tally totals.steps.ends.items ≡ counted same_end (flat_map ends_seen visits)
  pub maps : map count_of_tally totals.maps.items ≡ counted same_text (map map_seen visits)
  pub never_refused : map count_of_tally totals.steps.never_refused.items ≡ counted nat_eq (flat_map (smooth_seen builds) visits)
