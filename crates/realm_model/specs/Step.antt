-- The step that an event makes in the model: the conditions on the event, and the world after it.
use Rattle.std.specs.Prelude.{ℕ, List, Bool, cond, ◌&&◌, nat_lt, map, Option, None, Ok, Err, option_map}
use Rattle.std.specs.List.{list_all, filter_map}
use Rattle.realm_model.specs.declared.act.Act.{Act}
use Rattle.realm_model.specs.declared.act.Event.{Event}
use Rattle.realm_model.specs.Machine.{Cell, Machine, Limits, RealmRow, Seen, seen}
use Rattle.realm_model.specs.Update.{Outcome}
use Rattle.realm_model.specs.Act.{named, holder}
use Rattle.realm_model.specs.Outcome.{outcome_of, is_in_range, fits}
use Rattle.realm_model.specs.World.{World, is_leased_to, realm_of, updated_all}

-- The VMIDs that realms of a machine use. RMM 1.0, RMI_REALM_CREATE, VMID in use.
abbrev pub used_vmids : Machine → List ℕ
used_vmids machine = filter_map (λ (cell : Cell). option_map (λ (realm : RealmRow). realm.vmid) cell.descriptor) machine

-- the granules that an operation names, as its command sees them
abbrev pub named_cells : World → Act → List Seen
named_cells world act = map (seen world.machine) (named act)

-- the outcome of an event's command in a world
abbrev pub outcome_in : Limits → World → Event → Outcome
outcome_in limits world event =
    outcome_of limits.vmids limits.aux (used_vmids world.machine) event.act (realm_of event.build world) (named_cells world event.act)

-- The build exists and leases the granules that the operation names; for a Take, nobody leases them. The operation's
-- own numbers are in range, and its own fields agree with the machine.
abbrev pub is_allowed : Limits → World → Event → Bool
is_allowed limits world event =
    nat_lt event.build limits.builds
    && list_all (is_leased_to (holder event.build event.act) world.leases) (named event.act)
    && is_in_range event.act
    && fits event.act (realm_of event.build world) (named_cells world event.act)

abbrev pub after_outcome : ℕ → Outcome → World → Option World
after_outcome build (Ok updates) world = updated_all build updates world
after_outcome build (Err rmi) world = None

-- The world after an event, or None if the event is not allowed or its command is refused.
unfoldable pub step : Limits → World → Event → Option World
step limits world event =
    cond (is_allowed limits world event) (after_outcome event.build (outcome_in limits world event) world) None
