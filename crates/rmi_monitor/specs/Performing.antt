-- The outcome of an operation on an RMM, and the conditions under which the operation can be performed.
use Rattle.std.specs.Prelude.{◌≡◌, ◌<◌, ℕ, Bool, true, false, Option, Some, None, option_map, map, Result}
use Rattle.std.specs.List.{All}
use Rattle.realm_model.specs.declared.rmi.Rmi.{Rmi}
use Rattle.realm_model.specs.declared.act.Act.{Act}
use Rattle.realm_model.specs.declared.act.Act.TheVariants.{Activate, Rtt, UnRtt, Ripas, Data, Unknown, UnData, Rec, UnRec, Enter, Exit, Poke}
use Rattle.realm_model.specs.Machine.{RealmRow, Seen, cell_at}
use Rattle.realm_model.specs.Update.{Outcome}
use Rattle.realm_model.specs.Act.{is_command, named}
use Rattle.realm_model.specs.Outcome.{outcome_of}
use Rattle.realm_model.specs.Places.{rec_named, rec_granule}
use Rattle.realm_model.specs.Step.{used_vmids}
use Rattle.rmi_monitor.specs.View.{MonitorView, Answers, IsTaken, after_command, seen_in}
use Rattle.realm_model.specs.declared.act.RealmAndRec.{RealmAndRec}

-- ---- operations

-- the operation is a command on its build's realm, but neither creates nor destroys the realm
abbrev pub is_in_realm : Act → Bool
is_in_realm Activate = true
is_in_realm (Rtt granule ipa level) = true
is_in_realm (UnRtt granule ipa level) = true
is_in_realm (Ripas ipa count) = true
is_in_realm (Data granule ipa source) = true
is_in_realm (Unknown granule ipa) = true
is_in_realm (UnData granule ipa) = true
is_in_realm (Rec granule auxiliaries number) = true
is_in_realm (UnRec granule auxiliaries number) = true
is_in_realm (Enter number) = true
is_in_realm (Exit number) = true
is_in_realm (Poke number ipa offset value) = true
is_in_realm _ = false

-- ---- the outcome of an operation

-- the granule of the realm's RD, as a number and a cell; None if there is no realm
abbrev pub realm_on : MonitorView → Option ℕ → Option Seen
realm_on monitor rd = option_map (seen_in monitor) rd

-- The outcome of a build's operation on the RMM, given the RD of the build's realm, if the build has one.
abbrev pub outcome_on : MonitorView → Option ℕ → Act → Outcome
outcome_on monitor rd act =
    outcome_of monitor.vmids monitor.aux (used_vmids monitor.machine) act (realm_on monitor rd) (map (seen_in monitor) (named act))

-- The answer and the RMM's new state are those of the command's outcome.
pub record IsDone (old : MonitorView) (outcome : Outcome) (result : Result (Unit {0}) Rmi) (new : MonitorView) : Type 0 where
  pub answer : Answers result outcome
  pub machine : new ≡ after_command outcome old

-- ---- the conditions

-- the granule, if one is given, is inside the machine and not free
abbrev pub IsTakenAt : MonitorView → Option ℕ → Type 0
IsTakenAt monitor None = Unit {0}
IsTakenAt monitor (Some granule) = IsTaken monitor granule

-- the realm, if there is one, has a number for one more REC
abbrev pub HasNextNumber : MonitorView → Option ℕ → Type 0
HasNextNumber monitor None = Unit {0}
HasNextNumber monitor (Some rd) = (realm : RealmRow) → (cell_at monitor.machine rd).descriptor ≡ Some realm → realm.next < 65535

-- if the operation creates a REC, the realm has a number for it
abbrev pub IsNumberReady : MonitorView → Option ℕ → Act → Type 0
IsNumberReady monitor realm (Rec granule auxiliaries number) = HasNextNumber monitor realm
IsNumberReady monitor realm _ = Unit {0}

-- `rec` is `None` if the realm has no REC with the given number, and otherwise that REC's granule, which is not free
pub record IsRecReady (monitor : MonitorView) (realm : Option ℕ) (number : ℕ) (rec : Option ℕ) : Type 0 where
  pub is : rec ≡ rec_granule (realm_on monitor realm) number
  pub taken : IsTakenAt monitor rec

-- if the operation names a REC by its number, `rec` is the granule of that REC, or None if there is no such REC
abbrev pub IsRecReadyAt : MonitorView → Option ℕ → Option ℕ → Option ℕ → Type 0
IsRecReadyAt monitor realm None rec = Unit {0}
IsRecReadyAt monitor realm (Some number) rec = IsRecReady monitor realm number rec

-- The operation is a command, and neither the granules that it names nor the RD of its build's realm are free. There is
-- a number for the REC that it creates, and `place` has the granule of the REC that it names, if there is such a REC.
pub record IsReady (monitor : MonitorView) (place : RealmAndRec) (act : Act) : Type 0 where
  pub command : is_command act ≡ true
  pub granules : All (IsTaken monitor) (named act)
  pub realm : IsTakenAt monitor place.realm
  pub number : IsNumberReady monitor place.realm act
  pub rec : IsRecReadyAt monitor place.realm (rec_named act) place.rec
