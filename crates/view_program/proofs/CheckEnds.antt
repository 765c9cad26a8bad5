-- Lemmas on the outcomes of the subcommand `check`: nothing is written if a read fails, and a prefix of the report if a
-- write fails. A report on the bytes that are kept of an input is a report on the input.
use Rattle.std.proofs.Common.{◌≡◌, ◌↔◌, ℕ, List, Option, Some, None, Ok, Err, Bool, true, false, refl, sym, ap, ◌∙◌, subst, string_bytes}
use Rattle.std.specs.Prelude.{IfSome, is_ok}
use Rattle.realm_plan.specs.Plan.{plan_of}
use Rattle.realm_program.specs.Whole.{kept_of}
use Rattle.realm_program.proofs.KeptPlan.{plan_of-kept_of}
use Rattle.checked_io.specs.declared.told.ReadError.{ReadError}
use Rattle.checked_io.specs.declared.told.ReadError.TheVariants as read_error
use Rattle.checked_io.specs.Whole.{AppendsFront}
use Rattle.checked_io.proofs.Read.{keeps_same}
use Rattle.plan_lint.specs.Texts.{IsReport}
use Rattle.plan_lint.specs.declared.report.LintReport.{LintReport}
use Rattle.view_program.specs.Stop.{view_fault_of_read}
use Rattle.view_program.specs.Checked.{verdict_of, IsReportOn, IsVerdictOn, AreErrorsOf, AreErrorsOfBytes, IsCheckEnd}
use Rattle.view_program.specs.declared.fault.ViewError.TheVariants.{Device}

-- a report on the bytes that the program keeps of an input, `kept_of`, is a report on the input
pub report_from_kept : (source : List ℕ) (known : Option (List ℕ)) (bytes : List ℕ) (report : LintReport) → IfSome known (λ xs. bytes ≡ kept_of xs) → IsReport source bytes report
    → IsReportOn source known report
report_from_kept source None bytes report kept is = tt
report_from_kept source (Some xs) bytes report kept is = subst (λ (b : List ℕ). IsReport source b report) kept is

verdict_from_plan : (known : Option (List ℕ)) (bytes : List ℕ) (is_plan : Bool) → IfSome known (λ xs. bytes ≡ kept_of xs) → is_plan ≡ is_ok (plan_of bytes) → IsVerdictOn known (verdict_of is_plan)
verdict_from_plan None bytes is_plan kept is = tt
verdict_from_plan (Some xs) bytes is_plan kept is = ap verdict_of (is ∙ ap (λ (b : List ℕ). is_ok (plan_of b)) kept ∙ ap is_ok (plan_of-kept_of xs))

pub verdict_from_kept : (source : List ℕ) (known : Option (List ℕ)) (bytes : List ℕ) (report : LintReport) → IfSome known (λ xs. bytes ≡ kept_of xs) → IsReport source bytes report
    → IsVerdictOn known (verdict_of report.is_plan)
verdict_from_kept source known bytes report kept is = verdict_from_plan known bytes report.is_plan kept is.is_plan

-- if `errors` lists the errors in the bytes that the program keeps of an input, `errors` lists those of the input
pub errors_from_kept : (source : List ℕ) (known : Option (List ℕ)) (bytes errors : List ℕ) → IfSome known (λ xs. bytes ≡ kept_of xs) → AreErrorsOfBytes source bytes errors
    → AreErrorsOf source known errors
errors_from_kept source known bytes errors kept are = record {
  report = are.report;
  of_input = report_from_kept source known bytes are.report kept are.is_report;
  text = are.text;
  no_plan = verdict_from_plan known bytes false kept (sym are.no_plan);
}

-- if the error is a failed allocation, or is `Device` after a failed read, and nothing was written, `IsCheckEnd` holds
-- of the error
pub unreported : (source : List ℕ) (unread : Bool) (input output : Option (List ℕ)) (error : ReadError) → (error ≡ read_error.Device → unread ≡ true)
    → IsCheckEnd source unread input output output (Err (view_fault_of_read error))
unreported source unread input output read_error.Memory read = keeps_same output
unreported source unread input output read_error.Device read = rw (read refl) (keeps_same output)

-- if no read failed, and a prefix of the report on the input was written, `IsCheckEnd` holds of the error `Device`
pub cut_report : (source : List ℕ) (unread : Bool) (input old new : Option (List ℕ)) (report : LintReport) → unread ≡ false → IsReportOn source input report → AppendsFront old new (string_bytes report.text)
    → IsCheckEnd source unread input old new (Err Device)
cut_report source unread input old new report read of_input written = rw read (record { report = report; of_input = of_input; written = written })

-- if the bytes were read, no read failed
pub bytes_read_well : {A : Type 0} (failed : Bool) (bytes : A) → (failed ≡ true) ↔ (Ok bytes ≡ Err read_error.Device) → failed ≡ false
bytes_read_well false bytes told = refl
bytes_read_well true bytes told = let failed = told.0 refl in absurd (cc)
