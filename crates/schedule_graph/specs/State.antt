-- The equivalence of two positions in runs of a plan: each build has the same events, progress and abort flag, and a
-- valid mark in both or in neither.
use Rattle.std.specs.Prelude.{◌≡◌, ℕ, Bool, false, List, map, Option, Some, None, option_map}
use Rattle.host_ledger.specs.declared.mark.Mark.{Mark}
use Rattle.realm_host.specs.Interleaving.{DifferInInterleaving}
use Rattle.realm_host.specs.Marked.{is_kept}
use Rattle.realm_plan.specs.Plan.{Plan}
use Rattle.plan_replay.specs.Run.{Position, Turn, place_of, IsTurn, AreTurns}
use Rattle.plan_replay.specs.declared.place.PlanCursor.{PlanCursor}

-- a mark without its place in the history: the build, and how many operations the build had open
pub record Point : Type 0 where
  pub build : ℕ
  pub length : ℕ

abbrev pub mark_point : Mark → Point
mark_point mark = record { build = mark.build; length = mark.length }

-- a build's cursor in its plan, with the mark, if any, as a `Point`
pub record Progress : Type 0 where
  pub done : ℕ
  pub left : ℕ
  pub mark : Option Point

abbrev pub progress_of : PlanCursor → Progress
progress_of place = record { done = place.done; left = place.left; mark = option_map mark_point place.mark }

-- the build's cursor has a mark, and the host keeps this mark for the build
abbrev pub has_way_back : Position → ℕ → Bool
has_way_back at build = elim (place_of at.places build).mark [ Some mark ↦ is_kept at.host build mark | None ↦ false ]

-- Each build did the same on both hosts, is equally far in its plan, and can go back to its mark at both positions or
-- at neither.
pub record AreOneState (one other : Position) : Type 0 where
  pub hosts : DifferInInterleaving one.host other.host
  pub progress : map progress_of other.places ≡ map progress_of one.places
  pub ways_back : (build : ℕ) → has_way_back other build ≡ has_way_back one build

-- The turn can also be taken at `other`, with the same answer, and leads to the state of `to`.
pub record IsAlsoTaken (plan : Plan) (other : Position) (turn : Turn) (to : Position) : Type 0 where
  pub then : Position
  pub is_turn : IsTurn plan other turn then
  pub same : AreOneState to then

-- the turns of a schedule can also be taken at `other`, with the same answers, and lead to the state of `to`
pub record AreAlsoTaken (plan : Plan) (schedule : List ℕ) (other : Position) (turns : List Turn) (to : Position) : Type 0 where
  pub then : Position
  pub are_turns : AreTurns plan schedule other turns then
  pub same : AreOneState to then
