-- Proofs that printing a text made from a plan writes all of the text, a prefix, or nothing, according to the outcome.
use Rattle.std.proofs.Common.{◌≡◌, ◌↔◌, ℕ, List, Option, IfSome, Ok, Err, Bool, true, false, refl}
use Rattle.std.specs.Io.KnownBytes.{Appends}
use Rattle.realm_plan.specs.Outcome.{Fails}
use Rattle.realm_plan.specs.Plan.{Plan, plan_of}
use Rattle.realm_plan.specs.declared.fault.PlanError.{PlanError}
use Rattle.realm_plan.specs.declared.fault.PlanError.TheVariants as plan_error
use Rattle.checked_io.specs.Whole.{AppendsFront}
use Rattle.checked_io.proofs.Read.{keeps_same}
use Rattle.realm_program.specs.Fault.{fault_of_plan}
use Rattle.realm_program.specs.Whole.{kept_of}
use Rattle.realm_program.specs.Printed.{IsPlanOf, HasNoPlan, IsFaultOfText, IsPrinted, IsEnd}
use Rattle.realm_program.specs.Replay.{IsWithoutText}
use Rattle.realm_program.specs.declared.fault.Fault.{Fault}
use Rattle.realm_program.specs.declared.fault.Fault.TheVariants.{Plan as PlanIsFaulty, EraseNamesNoBuild, Memory, Stuck, Mismatch, Device}
use Rattle.realm_program.proofs.KeptPlan.{plan_from_kept}

-- ---- the plan

-- if the kept bytes of an input cannot be parsed, then either allocation failed, or the whole input has the fault that
-- was found
pub faulty_plan : (input : Option (List ℕ)) (bytes : List ℕ) (error : PlanError) → IfSome input (λ xs. bytes ≡ kept_of xs) → Fails error (plan_of bytes)
    → HasNoPlan input (fault_of_plan error)
faulty_plan input bytes plan_error.Memory kept fails = tt
faulty_plan input bytes (plan_error.Fault fault) kept fails = plan_from_kept input bytes (Err fault) kept fails

-- ---- the text

module _ (texts : Plan → List ℕ → Type 0) (without : Plan → Fault → Type 0) (unread : Bool) (input : Option (List ℕ)) where
  -- if no plan was read because of `fault`, and a read failed in the case of `Device`, an unchanged output and `fault`
  -- satisfy `IsEnd`
  pub no_plan : (output : Option (List ℕ)) (fault : Fault) → HasNoPlan input fault → (fault ≡ Device → unread ≡ true) → IsEnd texts without unread input output output (Err fault)
  no_plan output (PlanIsFaulty fault) none read = (none, keeps_same output)
  no_plan output EraseNamesNoBuild none read = absurd none
  no_plan output Memory none read = keeps_same output
  no_plan output (Stuck build) none read = absurd none
  no_plan output Mismatch none read = absurd none
  no_plan output Device none read = rw (read refl) (keeps_same output)

  -- if the input's plan has no text because of `fault`, and `fault` is no fault of the plan or of a device, an
  -- unchanged output and `fault` satisfy `IsEnd`
  pub no_text : (output : Option (List ℕ)) (plan : Plan) (fault : Fault) → IsPlanOf input plan → without plan fault → IsFaultOfText fault
      → IsEnd texts without unread input output output (Err fault)
  no_text output plan (PlanIsFaulty fault) of_input none of_text = absurd of_text
  no_text output plan EraseNamesNoBuild of_input none of_text = (record { plan = plan; of_input = of_input; no_text = none }, keeps_same output)
  no_text output plan Memory of_input none of_text = keeps_same output
  no_text output plan (Stuck build) of_input none of_text = (record { plan = plan; of_input = of_input; no_text = none }, keeps_same output)
  no_text output plan Mismatch of_input none of_text = (record { plan = plan; of_input = of_input; no_text = none }, keeps_same output)
  no_text output plan Device of_input none of_text = absurd of_text

  -- if no read failed, and a prefix of the text of the input's plan was written, the new output and the fault `Device`
  -- satisfy `IsEnd`
  pub cut : (old new : Option (List ℕ)) (plan : Plan) (text : List ℕ) → unread ≡ false → IsPlanOf input plan → texts plan text → AppendsFront old new text
      → IsEnd texts without unread input old new (Err Device)
  cut old new plan text read of_input is_text written = rw read (record { text = text; text_of = record { plan = plan; of_input = of_input; is_text = is_text }; written = written })

  -- if the whole text of the input's plan was written, the old and the new output satisfy `IsPrinted`
  pub printed : (old new : Option (List ℕ)) (plan : Plan) (text : List ℕ) → IsPlanOf input plan → texts plan text → Appends old new text → IsPrinted texts input old new
  printed old new plan text of_input is_text written = record { text = text; text_of = record { plan = plan; of_input = of_input; is_text = is_text }; written = written }

-- if a plan was read, no read failed
pub read_well : {A : Type 0} (failed : Bool) (plan : A) → (failed ≡ true) ↔ (Ok plan ≡ Err Device) → failed ≡ false
read_well false plan told = refl
read_well true plan told = let failed = told.0 refl in absurd (cc)

-- the reason why a run has no text is neither a faulty plan nor a failed device
pub fault_of_text : (erase : Option ℕ) (plan : Plan) (fault : Fault) → IsWithoutText erase plan fault → IsFaultOfText fault
fault_of_text erase plan (PlanIsFaulty fault) none = none
fault_of_text erase plan EraseNamesNoBuild none = tt
fault_of_text erase plan Memory none = tt
fault_of_text erase plan (Stuck build) none = tt
fault_of_text erase plan Mismatch none = tt
fault_of_text erase plan Device none = none
