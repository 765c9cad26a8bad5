-- The JSON document of a plan's run, with the machine's settings, the turns, and the state of the host after the last
-- turn.
use Rattle.std.specs.Prelude.{◌≡◌, ℕ, List, [], ◌∷◌, ◌++◌, length, option_map}
use Rattle.host_ledger.specs.View.{HostView}
use Rattle.realm_plan.specs.Plan.{Plan}
use Rattle.plan_replay.specs.Run.{Position, Turn, start, place_of, IsTurn}
use Rattle.run_json.specs.Turns.{step_view, placed, IsAfterTurn}
use Rattle.run_json.specs.Worlds.{IsWorldItem}
use Rattle.run_json.specs.declared.document.MachineSettings.{MachineSettings}
use Rattle.run_json.specs.declared.document.Document.{Document}
use Rattle.run_json.specs.declared.turn.TurnItem.{TurnItem}

abbrev pub settings_of : Plan → MachineSettings
settings_of plan = record { pages = plan.pages; vmids = plan.vmids; aux = plan.aux; history = plan.history; builds = length plan.builds }

-- The item describes a turn of the build that leads from one position to the other. The item has the build, its step
-- with the step's index, and the host's answer. Then come the event that the turn added to the history, what that
-- changed, and what the host keeps of the build.
pub record IsTurnItem (plan : Plan) (from : Position) (build : ℕ) (to : Position) (item : TurnItem) : Type 0 where
  pub turn : Turn
  pub of_build : turn.build ≡ build
  pub is_turn : IsTurn plan from turn to
  pub build_is : item.build ≡ build
  pub step_is : option_map step_view item.step ≡ option_map (placed (place_of from.places build).done) turn.told
  pub after : IsAfterTurn to.host build (length from.host.history) item

-- a turn of the build leads from one position to the other, and its item is appended
pub record AddsTurnItem (plan : Plan) (from : Position) (build : ℕ) (to : Position) (old new : List TurnItem) : Type 0 where
  pub item : TurnItem
  pub is_item : IsTurnItem plan from build to item
  pub appended : new ≡ old ++ item ∷ []

-- the items describe turns of the given builds, in sequence, that lead from one position to the other
abbrev pub AreTurnItems : Plan → List ℕ → Position → Position → List TurnItem → Type 0
AreTurnItems plan [] from to [] = to ≡ from
AreTurnItems plan (build ∷ order) from to (item ∷ items) = (between : Position) × IsTurnItem plan from build between item × AreTurnItems plan order between to items
AreTurnItems plan _ from to _ = ⊥

-- the items describe the plan's turns, which lead from the first state of the host to the second
pub record HasTurnItems (plan : Plan) (from to : HostView) (items : List TurnItem) : Type 0 where
  pub end : Position
  pub host : end.host ≡ to
  pub turns : AreTurnItems plan plan.order (start from) end items

-- The document describes some run of the plan from one host state to another, with format version, machine settings,
-- turns and last world.
pub record IsDocument (plan : Plan) (from to : HostView) (document : Document) : Type 0 where
  pub version_is : document.realmview ≡ 1
  pub settings_are : document.settings ≡ settings_of plan
  pub turns_are : HasTurnItems plan from to document.turns.items
  pub world_is : IsWorldItem to document.world
