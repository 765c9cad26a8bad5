-- Schedules in which a pseudorandom number selects the build of each turn among the builds with a step left.
use Rattle.std.specs.Prelude.{◌≡◌, ℕ, ◌%◌, Bool, List, [], ◌∷◌, length, filter, Option, Some, None, slice_get, string_bytes}
use Rattle.std.specs.List.{range_with_len}
use Rattle.rand_core.specs.Stream.{Stream, next_u32}
use Rattle.host_ledger.specs.View.{HostView}
use Rattle.realm_plan.specs.Plan.{Plan}
use Rattle.plan_replay.specs.Run.{map_text}
use Rattle.view_program.specs.Chosen.{could, builds_left, lowest_of, Stage, AreChosen, IsChosenRun}
use Rattle.view_program.specs.Totals.{Visit, AreTotals}
use Rattle.view_program.specs.declared.schedules.choice.Choice.{Choice}
use Rattle.view_program.specs.declared.schedules.totals.Totals.{Totals}

-- the builds that have a step left
unfoldable pub builds_with_steps : List Bool → List ℕ
builds_with_steps left = filter (could left) (range_with_len 0 8)

-- the build that the next random number n selects among the c builds with a step left: the one at index n modulo c;
-- none if c is 0
abbrev pub drawn : Stream → List Bool → Option ℕ
drawn stream left = slice_get (builds_with_steps left) ((next_u32 stream).0 % length (builds_with_steps left))

-- The build of each turn is the one that the next random number of the stream selects. `after` is the rest of the
-- stream.
abbrev pub AreDrawn : Stream → List Choice → Stream → Type 0
AreDrawn stream [] after = after ≡ stream
AreDrawn stream (choice ∷ choices) after = (drawn stream choice.left ≡ Some choice.build) × AreDrawn (next_u32 stream).1 choices after

-- From this stage on, the build of each turn is drawn at random from `stream`, until no build has a step left. The
-- choices lead to `to`, and `after` is the rest of the stream.
pub record IsDrawnTo (plan : Plan) (stream : Stream) (from : Stage) (choices : List Choice) (to : Stage) (after : Stream) : Type 0 where
  pub are_drawn : AreDrawn stream choices after
  pub chosen : AreChosen plan from choices to
  pub whole : lowest_of (builds_left plan to.at.places) ≡ None

-- The visit records a run of the plan in a randomly drawn schedule: the choices, the step outcomes and the final map.
-- `after` is the rest of the stream.
pub record IsDrawn (plan : Plan) (host : HostView) (stream : Stream) (visit : Visit) (after : Stream) : Type 0 where
  pub are_drawn : AreDrawn stream visit.choices after
  pub to : HostView
  pub is_run : IsChosenRun plan host visit.choices to visit.ends
  pub map : string_bytes visit.map ≡ map_text to

-- The visits record runs of the plan in schedules that are drawn one after another from the stream of random numbers.
abbrev pub AreSamples : Plan → HostView → Stream → List Visit → Stream → Type 0
AreSamples plan host stream [] after = after ≡ stream
AreSamples plan host stream (visit ∷ visits) after =
    (between : Stream) × IsDrawn plan host stream visit between × AreSamples plan host between visits after

-- The totals count the runs in `count` schedules drawn from the stream.
pub record IsSampled (plan : Plan) (host : HostView) (stream : Stream) (count : ℕ) (totals : Totals) : Type 0 where
  pub visits : List Visit
  pub after : Stream
  pub are_samples : AreSamples plan host stream visits after
  pub are_totals : AreTotals (length plan.builds) visits totals
  pub so_many : length visits ≡ count
