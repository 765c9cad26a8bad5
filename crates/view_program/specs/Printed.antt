-- The outcomes of printing the map of a history, and the outcome of each subcommand of `realmview`. Bounds on the
-- number of read calls are here too.
use Rattle.std.specs.Prelude.{◌≡◌, ℕ, ◌+◌, ◌≤◌, Bool, true, false, List, Option, None, IfSome, Result, Ok, Err, string_bytes}
use Rattle.std.specs.Io.KnownBytes.{Appends, Keeps}
use Rattle.host_ledger.specs.View.{HostView}
use Rattle.checked_io.specs.Whole.{AppendsFront}
use Rattle.history_text.specs.declared.opening.Opening.{Opening}
use Rattle.view_program.specs.Applied.{IsHistoryIn, IsNoHistoryIn, IsMap, HasNoMap}
use Rattle.view_program.specs.declared.fault.ViewError.{ViewError}
use Rattle.realm_program.specs.Printed.{IsPrinted, HasNoText, IsEndOfDevice}
use Rattle.realm_program.specs.Replay.{IsWithoutText}
use Rattle.realm_program.specs.Whole.{ReadsOnce}
use Rattle.realm_plan.specs.Plan as plan
use Rattle.realm_program.specs.declared.fault.Fault as plan_fault
use Rattle.view_program.specs.History.{IsHistoryText}
use Rattle.view_program.specs.Calls.{IsCallsText}
use Rattle.view_program.specs.Json.{IsJsonText}
use Rattle.view_program.specs.PageData.{IsPageText}
use Rattle.view_program.specs.Checked.{AreErrorsOf, IsCheckEnd}
use Rattle.view_program.specs.Why.{IsWhyText}
use Rattle.view_program.specs.Schedules.{IsExploredText, IsWithoutExplored}
use Rattle.view_program.specs.Reordered.{IsReorderEnd}
use Rattle.view_program.specs.declared.checking.ViewOutcome.{ViewOutcome}
use Rattle.view_program.specs.declared.checking.ViewOutcome.TheVariants.{Done, HasErrors}
use Rattle.command_line.specs.declared.realmview.ViewSubcommand.{ViewSubcommand}
use Rattle.command_line.specs.declared.realmview.ViewSubcommand.TheVariants.{History, Apply, Calls, Json, Page, Why, Explore, Order, Check}
use Rattle.view_program.specs.declared.fault.ViewError.TheVariants.{NoPlan, Plan, NoOpening, NoEvent, Refused, EraseNamesNoBuild, Memory, Device}

-- the input is a history, and the text is its map, without the events of the build `erase` if there is one
pub record HasMap (erase : Option ℕ) (input : Option (List ℕ)) (text : List ℕ) : Type 0 where
  pub o : Opening
  pub host : HostView
  pub history : IsHistoryIn input o host
  pub map : IsMap erase o host text

-- the whole map was written
pub record IsMapPrinted (erase : Option ℕ) (input old new : Option (List ℕ)) : Type 0 where
  pub text : List ℕ
  pub map : HasMap erase input text
  pub written : Appends old new text

-- a prefix of the map was written
pub record IsMapCut (erase : Option ℕ) (input old new : Option (List ℕ)) : Type 0 where
  pub text : List ℕ
  pub map : HasMap erase input text
  pub written : AppendsFront old new text

-- the input is a history, and its machine does not have the build to be left out
pub record NamesNoBuild (erase : Option ℕ) (input : Option (List ℕ)) : Type 0 where
  pub o : Opening
  pub host : HostView
  pub history : IsHistoryIn input o host
  pub none : HasNoMap erase o EraseNamesNoBuild

-- after a failed read nothing was written, and after a failed write a prefix of the map
abbrev pub IsApplyEndOfDevice : Option ℕ → Bool → Option (List ℕ) → Option (List ℕ) → Option (List ℕ) → Type 0
IsApplyEndOfDevice erase true input old new = Keeps old new
IsApplyEndOfDevice erase false input old new = IsMapCut erase input old new

-- The map is printed whole or not at all, unless a write fails on the way. `unread` is whether a read failed.
abbrev pub IsApplyEnd : Option ℕ → Bool → Option (List ℕ) → Option (List ℕ) → Option (List ℕ) → Result (Unit {0}) ViewError → Type 0
IsApplyEnd erase unread input old new (Ok _) = IsMapPrinted erase input old new
IsApplyEnd erase unread input old new (Err NoOpening) = IsNoHistoryIn input NoOpening × Keeps old new
IsApplyEnd erase unread input old new (Err (NoEvent line)) = IsNoHistoryIn input (NoEvent line) × Keeps old new
IsApplyEnd erase unread input old new (Err (Refused line why words)) = IsNoHistoryIn input (Refused line why words) × Keeps old new
IsApplyEnd erase unread input old new (Err EraseNamesNoBuild) = NamesNoBuild erase input × Keeps old new
IsApplyEnd erase unread input old new (Err Memory) = Keeps old new
IsApplyEnd erase unread input old new (Err Device) = IsApplyEndOfDevice erase unread input old new
IsApplyEnd erase unread input old new (Err fault) = ⊥

-- ---- the request

-- The text is one that `texts` allows for the bytes of a plan and the plan itself. If the input is known, the bytes are
-- the input's.
pub record IsTextFrom (texts : List ℕ → plan.Plan → List ℕ → Type 0) (input : Option (List ℕ)) (it : plan.Plan) (text : List ℕ) : Type 0 where
  pub bytes : List ℕ
  pub of_input : IfSome input (λ known. bytes ≡ known)
  pub is_plan : plan.plan_of bytes ≡ Ok it
  pub is_text : texts bytes it text

-- A text requested for a plan is printed whole or not at all, unless a write fails on the way. For an input that is not
-- a plan, the fault has the errors.
abbrev pub IsPlanEnd : (List ℕ → plan.Plan → List ℕ → Type 0) → (plan.Plan → plan_fault.Fault → Type 0) → List ℕ → Bool → Option (List ℕ) → Option (List ℕ) → Option (List ℕ) → Result (Unit {0}) ViewError → Type 0
IsPlanEnd texts without source unread input old new (Ok done) = IsPrinted (IsTextFrom texts input) input old new
IsPlanEnd texts without source unread input old new (Err (NoPlan errors)) = AreErrorsOf source input (string_bytes errors) × Keeps old new
IsPlanEnd texts without source unread input old new (Err (Plan fault)) = HasNoText without input fault × Keeps old new
IsPlanEnd texts without source unread input old new (Err Memory) = Keeps old new
IsPlanEnd texts without source unread input old new (Err Device) = IsEndOfDevice (IsTextFrom texts input) unread input old new
IsPlanEnd texts without source unread input old new (Err fault) = ⊥

-- `Done` if a subcommand other than `check` succeeds, and otherwise the fault
abbrev pub outcome_after : Result (Unit {0}) ViewError → Result ViewOutcome ViewError
outcome_after (Ok done) = Ok Done
outcome_after (Err fault) = Err fault

-- the result of a subcommand other than `check` is not `HasErrors`, and `IsEndOf` holds of this result
abbrev pub EndsAs : (Result (Unit {0}) ViewError → Type 0) → Result ViewOutcome ViewError → Type 0
EndsAs IsEndOf (Ok Done) = IsEndOf (Ok tt)
EndsAs IsEndOf (Ok HasErrors) = ⊥
EndsAs IsEndOf (Err fault) = IsEndOf (Err fault)

abbrev pub IsRunEnd : ViewSubcommand → List ℕ → Bool → Option (List ℕ) → Option (List ℕ) → Option (List ℕ) → Result ViewOutcome ViewError → Type 0
IsRunEnd (History erase) source unread input old new result = EndsAs (IsPlanEnd (λ _. IsHistoryText erase) (IsWithoutText erase) source unread input old new) result
IsRunEnd (Apply erase) source unread input old new result = EndsAs (IsApplyEnd erase unread input old new) result
IsRunEnd Json source unread input old new result = EndsAs (IsPlanEnd (λ _. IsJsonText) (IsWithoutText None) source unread input old new) result
IsRunEnd Page source unread input old new result = EndsAs (IsPlanEnd (λ _. IsPageText) (IsWithoutText None) source unread input old new) result
IsRunEnd (Why all) source unread input old new result = EndsAs (IsPlanEnd (λ _. IsWhyText all) (IsWithoutText None) source unread input old new) result
IsRunEnd (Calls base form) source unread input old new result = EndsAs (IsPlanEnd (λ _. IsCallsText form base) (IsWithoutText None) source unread input old new) result
IsRunEnd (Explore schedules after) source unread input old new result = EndsAs (IsPlanEnd (IsExploredText schedules after) (IsWithoutExplored schedules after) source unread input old new) result
IsRunEnd (Order turns) source unread input old new result = EndsAs (IsReorderEnd turns source unread input old new) result
IsRunEnd Check source unread input old new result = IsCheckEnd source unread input old new result

-- A subcommand that reads a plan makes at most 1,048,578 read calls. For `apply`, which reads a history, there is no
-- bound.
abbrev pub AreFewReads : ViewSubcommand → (old new : ℕ) → Type 0
AreFewReads (Apply erase) old new = Unit {0}
AreFewReads asked old new = new ≤ old + 1048578

-- A subcommand that reads a plan from a known input makes at most one read call for each byte, and one for the end. For
-- `apply`, which reads a history, no clause states that.
abbrev pub ReadsOnceFor : ViewSubcommand → Option (List ℕ) → (old new : ℕ) → Type 0
ReadsOnceFor (Apply erase) input old new = Unit {0}
ReadsOnceFor asked input old new = ReadsOnce input old new
