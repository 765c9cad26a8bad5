-- The conditions and the effect of a step of the model, as a relation between two worlds.
use Rattle.std.specs.Prelude.{◌≡◌, ◌<◌, ◌↔◌, ℕ, List, [], ◌∷◌, IsTrue, Option, Some, None, Ok, slice_get, slice_set}
use Rattle.std.specs.List.{All}
use Rattle.realm_model.specs.declared.act.Act.{Act}
use Rattle.realm_model.specs.declared.act.Act.TheVariants.{Take, UnTake}
use Rattle.realm_model.specs.declared.act.Event.{Event}
use Rattle.realm_model.specs.Machine.{Limits}
use Rattle.realm_model.specs.Update.{Update, machine_after_all}
use Rattle.realm_model.specs.Act.{block, named, holder}
use Rattle.realm_model.specs.Outcome.{is_in_range, fits}
use Rattle.realm_model.specs.World.{World, realm_of}
use Rattle.realm_model.specs.Step.{step, named_cells, outcome_in}

-- the list after the same element is written at each of the indexes
unfoldable pub set_each : {X : Type 0} → X → List ℕ → List X → List X
set_each x [] xs = xs
set_each x (place ∷ places) xs = set_each x places (slice_set xs place x)

-- The leases after an operation of a build: a Take leases its block, an UnTake gives its block back, and no other
-- operation changes a lease.
abbrev pub leases_after : ℕ → Act → List (Option ℕ) → List (Option ℕ)
leases_after build (Take order first) leases = set_each (Some build) (block order first) leases
leases_after build (UnTake order first) leases = set_each None (block order first) leases
leases_after build _ leases = leases

-- The event leads from `world` to `next`. The build exists. Each granule named is inside the machine and leased by the
-- build, or by nobody for a Take. The operation's own numbers are in range, and its own fields agree with the machine.
-- Its command is not refused. The machine is changed as the command says, and the leases as the operation says.
pub record IsStep (limits : Limits) (world : World) (event : Event) (next : World) : Type 0 where
  pub build : event.build < limits.builds
  pub granules : All (λ granule. slice_get world.leases granule ≡ Some (holder event.build event.act)) (named event.act)
  pub in_range : IsTrue (is_in_range event.act)
  pub fitting : IsTrue (fits event.act (realm_of event.build world) (named_cells world event.act))
  pub updates : List Update
  pub outcome : outcome_in limits world event ≡ Ok updates
  pub machine : next.machine ≡ machine_after_all updates world.machine
  pub leases : next.leases ≡ leases_after event.build event.act world.leases

-- `step` leads to a world exactly if `IsStep` holds, so the lease checks of updates never fail
abbrev pub StepIsExact : Limits → World → Event → Type 0
StepIsExact limits world event = (next : World) → (step limits world event ≡ Some next) ↔ IsStep limits world event next
