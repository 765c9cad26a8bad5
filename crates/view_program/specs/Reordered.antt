-- Plans whose schedule is replaced by one with all the turns that their builds need, and the outcomes of writing such a
-- plan.
use Rattle.std.specs.Prelude.{◌≡◌, ◌<◌, ◌⊎◌, ℕ, Bool, true, false, List, length, Option, IfSome, Result, Ok, Err, string_bytes}
use Rattle.std.specs.Io.KnownBytes.{Appends, Keeps}
use Rattle.realm_plan.specs.Plan as plan
use Rattle.realm_plan.specs.declared.fault.PlanFault.TheVariants as plan_fault
use Rattle.realm_program.specs.Printed.{IsPlanOf}
use Rattle.realm_program.specs.Replay.{opening_host}
use Rattle.realm_program.specs.declared.fault.Fault.TheVariants as run_fault
use Rattle.checked_io.specs.Whole.{AppendsFront}
use Rattle.view_program.specs.Rotation.{AreInRotation, AreOneByOne, IsWholeSchedule}
use Rattle.view_program.specs.declared.schedules.choice.Choice.{Choice}
use Rattle.command_line.specs.declared.realmview.SchedulingPolicy.{SchedulingPolicy}
use Rattle.command_line.specs.declared.realmview.SchedulingPolicy.TheVariants.{InRotation, OneByOne}
use Rattle.view_program.specs.declared.fault.ViewError.{ViewError}
use Rattle.view_program.specs.Checked.{AreErrorsOf}
use Rattle.view_program.specs.OrderText.{IsWithOrder, with_schedule}
use Rattle.view_program.specs.declared.fault.ViewError.TheVariants.{NoPlan, Plan, OrderOutsideLimits, Memory, Device}

-- ---- the schedule

-- the rule by which a policy chooses the build of each turn
abbrev pub rule_of : SchedulingPolicy → List Choice → Type 0
rule_of InRotation = AreInRotation 0
rule_of OneByOne = AreOneByOne

-- The schedule is that of a complete run of the plan under the policy. Each turn is of a build that has a step left,
-- and in the end no build has one.
abbrev pub IsOrderOf : SchedulingPolicy → plan.Plan → List ℕ → Type 0
IsOrderOf turns it order = IsWholeSchedule (rule_of turns) it (opening_host it) order

-- ---- the text

-- the text is a plan whose own schedule is the schedule of a complete run under the policy
pub record IsWholeText (turns : SchedulingPolicy) (text : List ℕ) : Type 0 where
  pub it : plan.Plan
  pub is_plan : plan.plan_of text ≡ Ok it
  pub whole : IsOrderOf turns it it.order

-- The text is that of the plan that was read, with the schedule of a complete run put in. Read back, the text is the
-- plan with this schedule.
pub record IsReorderedText (turns : SchedulingPolicy) (read : plan.Plan) (bytes text : List ℕ) : Type 0 where
  pub order : List ℕ
  pub is_order : IsOrderOf turns read order
  pub is_text : IsWithOrder order bytes text
  pub is_plan : plan.plan_of text ≡ Ok (with_schedule order read)

-- ---- the reasons why there is none

-- The error is a reason why a plan's new text is not accepted: exceeded limits, a failed allocation, or `Mismatch`. No
-- clause states the cause of `Mismatch`: the text is not read back as that plan, or a second run has another schedule.
abbrev pub IsNotWhole : List ℕ → ViewError → Type 0
IsNotWhole text OrderOutsideLimits = plan.plan_of text ≡ Err plan_fault.Limit
IsNotWhole text (Plan run_fault.Mismatch) = Unit {0}
IsNotWhole text Memory = Unit {0}
IsNotWhole text fault = ⊥

-- with this schedule the plan has too many turns, or its text exceeds a plan's limits
abbrev pub IsOutsideLimits : List ℕ → List ℕ → Type 0
IsOutsideLimits order bytes =
    (16384 < length order) ⊎ ((text : List ℕ) × IsWithOrder order bytes text × (plan.plan_of text ≡ Err plan_fault.Limit))

-- The error is a reason why a plan gets no new schedule: exceeded limits, a failed allocation, or `Mismatch` as in
-- `IsNotWhole`. The limits are exceeded by the schedule of a complete run, or by the text with that schedule.
abbrev pub IsNotReordered : SchedulingPolicy → plan.Plan → List ℕ → ViewError → Type 0
IsNotReordered turns read bytes OrderOutsideLimits = (order : List ℕ) × IsOrderOf turns read order × IsOutsideLimits order bytes
IsNotReordered turns read bytes (Plan run_fault.Mismatch) = Unit {0}
IsNotReordered turns read bytes Memory = Unit {0}
IsNotReordered turns read bytes fault = ⊥

-- ---- the end

-- The input is a plan, and the text is a plan whose schedule is that of a complete run under the policy. If the input
-- is known, the text is the input with this schedule put in.
pub record IsReorderedIn (turns : SchedulingPolicy) (input : Option (List ℕ)) (text : List ℕ) : Type 0 where
  pub read : plan.Plan
  pub of_input : IsPlanOf input read
  pub is_whole : IsWholeText turns text
  pub is_reordered : IfSome input (λ bytes. IsReorderedText turns read bytes text)

-- the input is a plan that gets no new schedule, for this reason
pub record HasNoOrder (turns : SchedulingPolicy) (input : Option (List ℕ)) (fault : ViewError) : Type 0 where
  pub read : plan.Plan
  pub of_input : IsPlanOf input read
  pub not_reordered : IfSome input (λ bytes. IsNotReordered turns read bytes fault)

-- the whole text of the plan with its new schedule was written
pub record IsReorderWritten (turns : SchedulingPolicy) (input old new : Option (List ℕ)) : Type 0 where
  pub text : List ℕ
  pub is_text : IsReorderedIn turns input text
  pub written : Appends old new text

-- a prefix of the text of the plan with its new schedule was written
pub record IsReorderCut (turns : SchedulingPolicy) (input old new : Option (List ℕ)) : Type 0 where
  pub text : List ℕ
  pub is_text : IsReorderedIn turns input text
  pub written : AppendsFront old new text

-- after a failed read nothing was written, and after a failed write a prefix of the plan's new text
abbrev pub IsReorderEndOfDevice : SchedulingPolicy → Bool → Option (List ℕ) → Option (List ℕ) → Option (List ℕ) → Type 0
IsReorderEndOfDevice turns true input old new = Keeps old new
IsReorderEndOfDevice turns false input old new = IsReorderCut turns input old new

-- The plan with its new schedule is written whole or not at all, unless a write fails on the way. `unread` is whether a
-- read failed.
abbrev pub IsReorderEnd : SchedulingPolicy → List ℕ → Bool → Option (List ℕ) → Option (List ℕ) → Option (List ℕ) → Result (Unit {0}) ViewError → Type 0
IsReorderEnd turns source unread input old new (Ok _) = IsReorderWritten turns input old new
IsReorderEnd turns source unread input old new (Err (NoPlan errors)) = AreErrorsOf source input (string_bytes errors) × Keeps old new
IsReorderEnd turns source unread input old new (Err (Plan run_fault.Mismatch)) = HasNoOrder turns input (Plan run_fault.Mismatch) × Keeps old new
IsReorderEnd turns source unread input old new (Err OrderOutsideLimits) = HasNoOrder turns input OrderOutsideLimits × Keeps old new
IsReorderEnd turns source unread input old new (Err Memory) = Keeps old new
IsReorderEnd turns source unread input old new (Err Device) = IsReorderEndOfDevice turns unread input old new
IsReorderEnd turns source unread input old new (Err fault) = ⊥
