-- The agreement of an RMM with the world of a history, before and after an operation.
use Rattle.std.specs.Prelude.{◌≡◌, ◌<◌, ℕ, List, [], ◌∷◌, ◌++◌, map, true, false, Some, None, is_none, slice_get, length, Result, Ok, Err}
use Rattle.std.specs.List.{All, last_or}
use Rattle.realm_model.specs.declared.act.Act.{Act}
use Rattle.realm_model.specs.declared.act.Act.TheVariants.{Rec, UnRec}
use Rattle.realm_model.specs.declared.act.Event.{Event}
use Rattle.realm_model.specs.declared.rmi.Rmi.{Rmi}
use Rattle.realm_model.specs.Machine.{Limits}
use Rattle.realm_model.specs.Update.{Update}
use Rattle.realm_model.specs.Act.{is_command, named, reverse_of}
use Rattle.realm_model.specs.Outcome.{is_in_range, fits}
use Rattle.realm_model.specs.World.{World, opening, realm_of}
use Rattle.realm_model.specs.Step.{step, named_cells, outcome_in}
use Rattle.realm_model.specs.StepLaw.{leases_after}
use Rattle.realm_model.specs.History.{acts_of, open_entries, replay, IsLegal, IsInTurn}
use Rattle.realm_model.specs.Running.{is_running}
use Rattle.realm_model.specs.Undoing.{by}
use Rattle.rmi_monitor.specs.View.{MonitorView, Answers, after_command, fresh}
use Rattle.realm_model.specs.declared.act.RealmAndRec.{RealmAndRec}
use Rattle.rmi_monitor.specs.Performing.{outcome_on, IsReady}
use Rattle.realm_model.specs.Places.{IsPlaceOf, rec_granule}

-- The history is legal and leads to the world, and the RMM agrees with that world. The RMM has the world's machine, and
-- the numbers of VMIDs and auxiliary granules of the limits. A granule is free exactly when nobody leases it.
pub record IsMirror (limits : Limits) (history : List Event) (world : World) (monitor : MonitorView) : Type 0 where
  pub legal : IsLegal limits history
  pub world_is : replay limits history ≡ Some world
  pub vmids : monitor.vmids ≡ limits.vmids
  pub aux : monitor.aux ≡ limits.aux
  pub machine : monitor.machine ≡ world.machine
  pub free : monitor.free ≡ map is_none world.leases

-- An RMM that has just been built agrees with the world of the empty history.
abbrev pub FreshIsMirror : Limits → Type 0
FreshIsMirror limits = IsMirror limits [] (opening limits) (fresh limits.vmids limits.aux limits.pages)

-- ---- the requirements

-- The operation meets the requirements that a build's command has to meet before it goes to the RMM. The build exists
-- and leases the granules named. The operation's own numbers are in range, and its answers agree with the machine.
pub record IsAsked (limits : Limits) (world : World) (build : ℕ) (act : Act) : Type 0 where
  pub command : is_command act ≡ true
  pub there : build < limits.builds
  pub granules : All (λ granule. slice_get world.leases granule ≡ Some (Some build)) (named act)
  pub in_range : is_in_range act ≡ true
  pub fitting : fits act (realm_of build world) (named_cells world act) ≡ true

-- if the operation creates a REC, its build has fewer than 65,535 events
abbrev pub HasFewEvents : List Event → ℕ → Act → Type 0
HasFewEvents history build (Rec granule auxiliaries number) = length (acts_of build history) < 65535
HasFewEvents history build _ = Unit {0}

-- An operation that meets both requirements (`IsAsked`, `HasFewEvents`) can be performed on an RMM that agrees with the
-- world.
abbrev pub AskedIsReady : Limits → List Event → World → MonitorView → ℕ → Act → RealmAndRec → Type 0
AskedIsReady limits history world monitor build act place =
    IsMirror limits history world monitor → IsPlaceOf world build act place → IsAsked limits world build act → HasFewEvents history build act
    → IsReady monitor place act

-- If an operation that destroys a REC meets the requirements on a build's command, it names that REC's granule.
abbrev pub UnRecNamesItsRec : Limits → World → ℕ → Act → Type 0
UnRecNamesItsRec limits world build (UnRec granule auxiliaries number) =
    IsAsked limits world build (UnRec granule auxiliaries number) → rec_granule (realm_of build world) number ≡ Some granule
UnRecNamesItsRec limits world build _ = Unit {0}

-- ---- the effect

-- The model accepts a build's operation in the world, and the RMM's new state agrees with the world after the
-- operation. The history with the operation's event is legal and leads to the new world. The leases are changed as the
-- operation says.
pub record IsPerformed (limits : Limits) (history : List Event) (world : World) (build : ℕ) (act : Act) (new : MonitorView) : Type 0 where
  pub next : World
  pub stepped : step limits world (by build act) ≡ Some next
  pub leases : next.leases ≡ leases_after build act world.leases
  pub mirror : IsMirror limits (history ++ by build act ∷ []) next new

-- Either the operation is performed and the model accepts it, or the operation is refused with the error of its outcome
-- in the world, and nothing changes.
abbrev pub IsStepOrRefusal : Limits → List Event → World → MonitorView → ℕ → Act → Result (Unit {0}) Rmi → MonitorView → Type 0
IsStepOrRefusal limits history world old build act (Ok done) new = IsPerformed limits history world build act new
IsStepOrRefusal limits history world old build act (Err rmi) new = (outcome_in limits world (by build act) ≡ Err rmi) × (new ≡ old)

-- if the operation meets the requirements `IsAsked` and `IsInTurn`, each possible result of `perform` meets
-- `IsStepOrRefusal`
abbrev pub PerformedIsStep : Limits → List Event → World → MonitorView → ℕ → Act → RealmAndRec → Type 0
PerformedIsStep limits history world monitor build act place =
    IsMirror limits history world monitor → IsPlaceOf world build act place → IsAsked limits world build act → IsInTurn history (by build act)
    → (result : Result (Unit {0}) Rmi) (new : MonitorView) → Answers result (outcome_on monitor place.realm act)
    → new ≡ after_command (outcome_on monitor place.realm act) monitor
    → IsStepOrRefusal limits history world monitor build act result new

-- ---- back

-- The reverse of the newest open operation meets the requirements on a build's command, and the RMM accepts it.
pub record IsAccepted (limits : Limits) (history : List Event) (world : World) (monitor : MonitorView) (build : ℕ) (back : Act) (place : RealmAndRec) : Type 0 where
  pub asked : IsAsked limits world build back
  pub turn : IsInTurn history (by build back)
  pub updates : List Update
  pub accepted : outcome_on monitor place.realm back ≡ Ok updates

-- The newest operation that the build has open can be undone by a command of the RMM. Its reverse is a command, and the
-- operation did not create a REC that is running.
pub record CanBeUndone (history : List Event) (world : World) (build : ℕ) (act back : Act) : Type 0 where
  pub newest : last_or None (open_entries build history) ≡ Some act
  pub reverse : reverse_of act ≡ Some back
  pub command : is_command back ≡ true
  pub at_rest : is_running (realm_of build world) act ≡ false

-- if a command can undo the newest open operation, the RMM accepts that command
abbrev pub NewestIsAccepted : Limits → List Event → World → MonitorView → ℕ → Act → Act → RealmAndRec → Type 0
NewestIsAccepted limits history world monitor build act back place =
    IsMirror limits history world monitor → IsPlaceOf world build back place → CanBeUndone history world build act back
    → IsAccepted limits history world monitor build back place
