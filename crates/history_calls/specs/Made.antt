-- The machine of an RMM after the operations of a history, performed in sequence.
use Rattle.std.specs.Prelude.{◌≡◌, ℕ, List, [], ◌∷◌, map, Option, Some, None, Ok, Err, option_map, option_and_then}
use Rattle.realm_model.specs.declared.act.Act.{Act}
use Rattle.realm_model.specs.declared.act.Event.{Event}
use Rattle.realm_model.specs.declared.act.RealmAndRec.{RealmAndRec}
use Rattle.realm_model.specs.Act.{named}
use Rattle.realm_model.specs.History.{replay}
use Rattle.realm_model.specs.Machine.{Limits, Machine, seen}
use Rattle.realm_model.specs.Outcome.{outcome_of}
use Rattle.realm_model.specs.Places.{rd_of, rec_named, rec_granule}
use Rattle.realm_model.specs.Step.{step, used_vmids}
use Rattle.realm_model.specs.Update.{Outcome, machine_after_all}
use Rattle.realm_model.specs.World.{World, opening, realm_of}

-- the realm and the REC of an operation: the RD of the build's realm, and the granule of the REC that the operation
-- names, if they exist
abbrev pub subject_in : World → ℕ → Act → RealmAndRec
subject_in world build act = record {
  realm = rd_of build world;
  rec = option_and_then (rec_granule (realm_of build world)) (rec_named act);
}

-- the machine after a command with the given outcome; `None` if the outcome is a refusal
abbrev pub machine_if_done : Outcome → Machine → Option Machine
machine_if_done (Ok updates) machine = Some (machine_after_all updates machine)
machine_if_done (Err rmi) machine = None

-- The machine of an RMM after an operation, given the RD of the operation's realm; `None` if the operation is refused.
-- The lease of a block changes no granule, and a block that is given back is filled with zeros.
abbrev pub machine_after_calls : Limits → Option ℕ → Act → Machine → Option Machine
machine_after_calls limits rd act machine =
    machine_if_done (outcome_of limits.vmids limits.aux (used_vmids machine) act (option_map (seen machine) rd) (map (seen machine) (named act))) machine

-- The machine after the operations of a list of events, in sequence; `None` if one is refused. The given world is the
-- one before the first event. The world before each event gives the RD of the event's realm. Apart from that, the
-- machine is computed from the operations.
abbrev pub machine_after_events : Limits → World → List Event → Machine → Option Machine
machine_after_events limits world [] machine = Some machine
machine_after_events limits world (event ∷ events) machine =
    option_and_then (λ (next : World). option_and_then (machine_after_events limits next events)
    (machine_after_calls limits (subject_in world event.build event.act).realm event.act machine)) (step limits world event)

-- The operations of a legal history lead a fresh RMM to the machine of the history's world.
abbrev pub LeadsToItsMachine : Limits → List Event → Type 0
LeadsToItsMachine limits history =
    (world : World) → replay limits history ≡ Some world
    → machine_after_events limits (opening limits) history (opening limits).machine ≡ Some world.machine
