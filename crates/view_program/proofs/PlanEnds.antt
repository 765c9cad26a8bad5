-- Lemmas on printing a text made from a plan: nothing is written if there is no plan, and a prefix of the text is
-- written if a write fails.
use Rattle.std.proofs.Common.{◌≡◌, ℕ, List, Option, Ok, Err, Bool, true, false, refl, ap, sym, ◌∙◌, subst, string_bytes}
use Rattle.std.specs.Prelude.{IfSome}
use Rattle.realm_plan.specs.Plan.{Plan, plan_of}
use Rattle.realm_program.specs.Whole.{kept_of}
use Rattle.realm_program.specs.Printed.{IsPlanOf}
use Rattle.realm_program.proofs.KeptPlan.{plan_from_kept}
use Rattle.realm_program.specs.declared.fault.Fault as plan_fault
use Rattle.checked_io.specs.declared.told.ReadError.{ReadError}
use Rattle.checked_io.specs.declared.told.ReadError.TheVariants as read_error
use Rattle.checked_io.specs.Whole.{AppendsFront}
use Rattle.checked_io.proofs.Read.{keeps_same}
use Rattle.view_program.specs.Stop.{view_fault_of_read}
use Rattle.view_program.specs.Checked.{GivesNoPlan}
use Rattle.view_program.specs.Printed.{IsPlanEnd, IsTextFrom}
use Rattle.view_program.specs.declared.fault.ViewError.{ViewError}
use Rattle.view_program.specs.declared.fault.ViewError.TheVariants.{NoPlan, Plan as OfPlan, NoOpening, NoEvent, Refused, EraseNamesNoBuild, OrderOutsideLimits, Memory, Device}
use Rattle.view_program.proofs.CheckEnds.{errors_from_kept}
use Rattle.view_program.proofs.OrderTexts.{input_has}

-- the plan parsed from the bytes that the program keeps of an input is the plan of the whole input
pub input_is : (input : Option (List ℕ)) (bytes read : List ℕ) (plan : Plan) → IfSome input (λ xs. bytes ≡ kept_of xs) → read ≡ bytes → plan_of read ≡ Ok plan → IsPlanOf input plan
input_is input bytes read plan kept same is = plan_from_kept input bytes (Ok plan) kept (ap plan_of (sym same) ∙ is)

-- a text made from the bytes that the program keeps of an input is a text made from the whole input, if these bytes are
-- a plan
pub text_from : (texts : List ℕ → Plan → List ℕ → Type 0) (input : Option (List ℕ)) (bytes read : List ℕ) (plan : Plan) (text : List ℕ)
    → IfSome input (λ xs. bytes ≡ kept_of xs) → read ≡ bytes → plan_of bytes ≡ Ok plan → texts read plan text → IsTextFrom texts input plan text
text_from texts input bytes read plan text kept same is_plan is = record {
  bytes = bytes;
  of_input = input_has (λ (them : List ℕ). bytes ≡ them) input bytes plan kept is_plan refl;
  is_plan = is_plan;
  is_text = subst (λ (them : List ℕ). texts them plan text) same is;
}

module _ (texts : List ℕ → Plan → List ℕ → Type 0) (without : Plan → plan_fault.Fault → Type 0) (source : List ℕ) (unread : Bool) (input : Option (List ℕ)) where
  -- if the error is a failed allocation, or is `Device` after a failed read, and nothing was written, `IsPlanEnd` holds
  -- of the error
  pub unread_plan : (output : Option (List ℕ)) (error : ReadError) → (error ≡ read_error.Device → unread ≡ true)
      → IsPlanEnd texts without source unread input output output (Err (view_fault_of_read error))
  unread_plan output read_error.Memory read = keeps_same output
  unread_plan output read_error.Device read = rw (read refl) (keeps_same output)

  -- if no plan is read from the bytes that the program keeps of an input, and nothing is written, `IsPlanEnd` holds of
  -- the reason
  pub no_plan : (output : Option (List ℕ)) (bytes : List ℕ) (fault : ViewError) → IfSome input (λ xs. bytes ≡ kept_of xs) → GivesNoPlan source bytes fault
      → IsPlanEnd texts without source unread input output output (Err fault)
  no_plan output bytes (NoPlan errors) kept gives = (errors_from_kept source input bytes (string_bytes errors) kept gives, keeps_same output)
  no_plan output bytes (OfPlan fault) kept gives = absurd gives
  no_plan output bytes NoOpening kept gives = absurd gives
  no_plan output bytes (NoEvent line) kept gives = absurd gives
  no_plan output bytes (Refused line why words) kept gives = absurd gives
  no_plan output bytes EraseNamesNoBuild kept gives = absurd gives
  no_plan output bytes OrderOutsideLimits kept gives = absurd gives
  no_plan output bytes Memory kept gives = keeps_same output
  no_plan output bytes Device kept gives = absurd gives

  -- if no read failed, and a prefix of a text for the input's plan was written, `IsPlanEnd` holds of the error `Device`
  pub cut : (old new : Option (List ℕ)) (plan : Plan) (text : List ℕ) → unread ≡ false → IsPlanOf input plan → IsTextFrom texts input plan text → AppendsFront old new text
      → IsPlanEnd texts without source unread input old new (Err Device)
  cut old new plan text read of_input is_text written = rw read (record { text = text; text_of = record { plan = plan; of_input = of_input; is_text = is_text }; written = written })
