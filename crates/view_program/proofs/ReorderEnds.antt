-- Lemmas on the outcomes of the subcommand `order`: nothing is written if there is no new schedule, and a prefix of the
-- new text is written if a write fails.
use Rattle.std.proofs.Common.{◌≡◌, ℕ, List, Option, Ok, Err, Bool, true, false, refl, inr, string_bytes}
use Rattle.std.specs.Prelude.{IfSome}
use Rattle.checked_io.specs.Whole.{AppendsFront}
use Rattle.checked_io.proofs.Read.{keeps_same}
use Rattle.realm_plan.specs.Plan.{Plan, plan_of}
use Rattle.realm_program.specs.Whole.{kept_of}
use Rattle.realm_program.proofs.KeptPlan.{plan_from_kept}
use Rattle.realm_program.specs.declared.fault.Fault.TheVariants as run_fault
use Rattle.checked_io.specs.declared.told.ReadError.{ReadError}
use Rattle.checked_io.specs.declared.told.ReadError.TheVariants as read_error
use Rattle.command_line.specs.declared.realmview.SchedulingPolicy.{SchedulingPolicy}
use Rattle.view_program.specs.Stop.{view_fault_of_read}
use Rattle.view_program.specs.Checked.{GivesNoPlan}
use Rattle.view_program.specs.OrderText.{IsWithOrder}
use Rattle.view_program.specs.Reordered.{IsOrderOf, IsNotWhole, IsWholeText, IsReorderedText, IsReorderedIn, IsNotReordered, HasNoOrder, IsReorderEnd}
use Rattle.view_program.specs.declared.fault.ViewError.{ViewError}
use Rattle.view_program.specs.declared.fault.ViewError.TheVariants.{NoPlan, Plan as OfPlan, NoOpening, NoEvent, Refused, EraseNamesNoBuild, OrderOutsideLimits, Memory, Device}
use Rattle.view_program.proofs.CheckEnds.{errors_from_kept}
use Rattle.view_program.proofs.OrderTexts.{input_has}

-- if the plan's text with the new schedule is not accepted, the plan is not reordered, for the same reason
pub not_whole : (turns : SchedulingPolicy) (read : Plan) (bytes order text : List ℕ) (fault : ViewError) → IsOrderOf turns read order → IsWithOrder order bytes text
    → IsNotWhole text fault → IsNotReordered turns read bytes fault
not_whole turns read bytes order text (NoPlan errors) is_order is_text is = absurd is
not_whole turns read bytes order text (OfPlan (run_fault.Plan fault)) is_order is_text is = absurd is
not_whole turns read bytes order text (OfPlan run_fault.EraseNamesNoBuild) is_order is_text is = absurd is
not_whole turns read bytes order text (OfPlan run_fault.Memory) is_order is_text is = absurd is
not_whole turns read bytes order text (OfPlan (run_fault.Stuck build)) is_order is_text is = absurd is
not_whole turns read bytes order text (OfPlan run_fault.Mismatch) is_order is_text is = tt
not_whole turns read bytes order text (OfPlan run_fault.Device) is_order is_text is = absurd is
not_whole turns read bytes order text NoOpening is_order is_text is = absurd is
not_whole turns read bytes order text (NoEvent line) is_order is_text is = absurd is
not_whole turns read bytes order text (Refused line why words) is_order is_text is = absurd is
not_whole turns read bytes order text EraseNamesNoBuild is_order is_text is = absurd is
not_whole turns read bytes order text OrderOutsideLimits is_order is_text is = (order, is_order, inr (text, is_text, is))
not_whole turns read bytes order text Memory is_order is_text is = tt
not_whole turns read bytes order text Device is_order is_text is = absurd is

module _ (turns : SchedulingPolicy) (source : List ℕ) (unread : Bool) (input : Option (List ℕ)) where
  -- when nothing was written, `IsReorderEnd` holds of a failed allocation, and of `Device` after a failed read
  pub unread_order : (output : Option (List ℕ)) (error : ReadError) → (error ≡ read_error.Device → unread ≡ true)
      → IsReorderEnd turns source unread input output output (Err (view_fault_of_read error))
  unread_order output read_error.Memory read = keeps_same output
  unread_order output read_error.Device read = rw (read refl) (keeps_same output)

  -- if no plan is read from the bytes that the program keeps of an input, and nothing is written, `IsReorderEnd` holds
  -- of the reason
  pub no_plan_to_order : (output : Option (List ℕ)) (bytes : List ℕ) (fault : ViewError) → IfSome input (λ xs. bytes ≡ kept_of xs) → GivesNoPlan source bytes fault
      → IsReorderEnd turns source unread input output output (Err fault)
  no_plan_to_order output bytes (NoPlan errors) kept gives = (errors_from_kept source input bytes (string_bytes errors) kept gives, keeps_same output)
  no_plan_to_order output bytes (OfPlan fault) kept gives = absurd gives
  no_plan_to_order output bytes NoOpening kept gives = absurd gives
  no_plan_to_order output bytes (NoEvent line) kept gives = absurd gives
  no_plan_to_order output bytes (Refused line why words) kept gives = absurd gives
  no_plan_to_order output bytes EraseNamesNoBuild kept gives = absurd gives
  no_plan_to_order output bytes OrderOutsideLimits kept gives = absurd gives
  no_plan_to_order output bytes Memory kept gives = keeps_same output
  no_plan_to_order output bytes Device kept gives = absurd gives

  -- if the plan in the bytes that the program keeps of an input gets no new schedule, `HasNoOrder` holds of the input
  -- with the same reason
  no_order : (bytes : List ℕ) (plan : Plan) (fault : ViewError) → IfSome input (λ xs. bytes ≡ kept_of xs) → plan_of bytes ≡ Ok plan
      → IsNotReordered turns plan bytes fault → HasNoOrder turns input fault
  no_order bytes plan fault kept is_plan is = record {
    read = plan;
    of_input = plan_from_kept input bytes (Ok plan) kept is_plan;
    not_reordered = input_has (λ (them : List ℕ). IsNotReordered turns plan them fault) input bytes plan kept is_plan is;
  }

  -- if the plan read from the input gets no new schedule, and nothing is written, `IsReorderEnd` holds of the reason
  pub not_reordered : (output : Option (List ℕ)) (bytes : List ℕ) (plan : Plan) (fault : ViewError) → IfSome input (λ xs. bytes ≡ kept_of xs)
      → plan_of bytes ≡ Ok plan → IsNotReordered turns plan bytes fault → IsReorderEnd turns source unread input output output (Err fault)
  not_reordered output bytes plan (NoPlan errors) kept is_plan is = absurd is
  not_reordered output bytes plan (OfPlan (run_fault.Plan fault)) kept is_plan is = absurd is
  not_reordered output bytes plan (OfPlan run_fault.EraseNamesNoBuild) kept is_plan is = absurd is
  not_reordered output bytes plan (OfPlan run_fault.Memory) kept is_plan is = absurd is
  not_reordered output bytes plan (OfPlan (run_fault.Stuck build)) kept is_plan is = absurd is
  not_reordered output bytes plan (OfPlan run_fault.Mismatch) kept is_plan is = (no_order bytes plan (OfPlan run_fault.Mismatch) kept is_plan is, keeps_same output)
  not_reordered output bytes plan (OfPlan run_fault.Device) kept is_plan is = absurd is
  not_reordered output bytes plan NoOpening kept is_plan is = absurd is
  not_reordered output bytes plan (NoEvent line) kept is_plan is = absurd is
  not_reordered output bytes plan (Refused line why words) kept is_plan is = absurd is
  not_reordered output bytes plan EraseNamesNoBuild kept is_plan is = absurd is
  not_reordered output bytes plan OrderOutsideLimits kept is_plan is = (no_order bytes plan OrderOutsideLimits kept is_plan is, keeps_same output)
  not_reordered output bytes plan Memory kept is_plan is = keeps_same output
  not_reordered output bytes plan Device kept is_plan is = absurd is

  -- if a text is the plan from the bytes that the program keeps of an input, with a new schedule, `IsReorderedIn` holds
  -- of the text
  pub reordered_in : (bytes text : List ℕ) (plan : Plan) → IfSome input (λ xs. bytes ≡ kept_of xs) → plan_of bytes ≡ Ok plan → IsWholeText turns text
      → IsReorderedText turns plan bytes text → IsReorderedIn turns input text
  reordered_in bytes text plan kept is_plan whole is = record {
    read = plan;
    of_input = plan_from_kept input bytes (Ok plan) kept is_plan;
    is_whole = whole;
    is_reordered = input_has (λ (them : List ℕ). IsReorderedText turns plan them text) input bytes plan kept is_plan is;
  }

  -- if no read failed, and a prefix of the plan's new text was written, `IsReorderEnd` holds of the error `Device`
  pub cut_reordered : (old new : Option (List ℕ)) (text : List ℕ) → unread ≡ false → IsReorderedIn turns input text
      → AppendsFront old new text → IsReorderEnd turns source unread input old new (Err Device)
  cut_reordered old new text read is_text written = rw read (record { text = text; is_text = is_text; written = written })
