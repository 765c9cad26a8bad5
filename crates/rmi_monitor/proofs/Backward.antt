-- The proof that the RMM accepts the command that undoes a build's newest open operation, unless that operation created
-- a REC that is running.
use Rattle.std.proofs.Common.{◌≡◌, ℕ, true, List, Some, ◌∙◌, subst}
use Rattle.std.specs.Prelude.{slice_get}
use Rattle.std.specs.List.{All}
use Rattle.realm_model.specs.declared.act.Act.{Act}
use Rattle.realm_model.specs.declared.act.Event.{Event}
use Rattle.realm_model.specs.Machine.{Limits}
use Rattle.realm_model.specs.Act.{is_command, named}
use Rattle.realm_model.specs.World.{World}
use Rattle.realm_model.specs.Step.{step}
use Rattle.realm_model.specs.Undoing.{by}
use Rattle.realm_model.proofs.Progress.{undoable}
use Rattle.realm_model.proofs.StepSays.{step_is}
use Rattle.rmi_monitor.specs.View.{MonitorView}
use Rattle.realm_model.specs.declared.act.RealmAndRec.{RealmAndRec}
use Rattle.rmi_monitor.specs.Mirror.{IsAsked, NewestIsAccepted}
use Rattle.rmi_monitor.proofs.Forward.{holder_is, same_outcome}

-- an operation that is a command, and that the model accepts in the world, meets the requirements `IsAsked`
asked_of : (limits : Limits) (world next : World) (build : ℕ) (act : Act) → is_command act ≡ true → step limits world (by build act) ≡ Some next
    → IsAsked limits world build act
asked_of limits world next build act command stepped =
    let is = step_is limits world next (by build act) stepped in
    record {
      command = command;
      there = is.build;
      granules = subst (λ o. All (λ granule. slice_get world.leases granule ≡ Some o) (named act)) (holder_is build act command) is.granules;
      in_range = is.in_range;
      fitting = is.fitting;
    }

pub newest_is_accepted : (limits : Limits) (history : List Event) (world : World) (monitor : MonitorView) (build : ℕ) (act back : Act) (place : RealmAndRec)
    → NewestIsAccepted limits history world monitor build act back place
newest_is_accepted limits history world monitor build act back place mirror at is_newest =
    let can = undoable limits build history world act back mirror.legal mirror.world_is is_newest.newest is_newest.reverse is_newest.at_rest in
    let is = step_is limits world can.world (by build back) can.stepped in
    record {
      asked = asked_of limits world can.world build back is_newest.command can.stepped;
      turn = can.in_turn;
      updates = is.updates;
      accepted = same_outcome limits history world monitor mirror build back place at ∙ is.outcome;
    }
