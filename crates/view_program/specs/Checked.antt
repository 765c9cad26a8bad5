-- The report of the subcommand `check` on an input, and the outcomes of writing the report.
use Rattle.std.specs.Prelude.{◌≡◌, Bool, true, false, List, ℕ, Option, IfSome, Result, Ok, Err, is_ok, string_bytes}
use Rattle.std.specs.Io.KnownBytes.{Appends, Keeps}
use Rattle.realm_plan.specs.Plan.{plan_of}
use Rattle.realm_program.specs.Whole.{kept_of}
use Rattle.checked_io.specs.Whole.{AppendsFront}
use Rattle.plan_lint.specs.Texts.{IsReport}
use Rattle.plan_lint.specs.declared.report.LintReport.{LintReport}
use Rattle.view_program.specs.declared.checking.ViewOutcome.{ViewOutcome}
use Rattle.view_program.specs.declared.checking.ViewOutcome.TheVariants.{Done, HasErrors}
use Rattle.view_program.specs.declared.fault.ViewError.{ViewError}
use Rattle.view_program.specs.declared.fault.ViewError.TheVariants.{NoPlan, Memory, Device}

abbrev pub verdict_of : Bool → ViewOutcome
verdict_of true = Done
verdict_of false = HasErrors

-- if the input is known, the report is on the input's first bytes, at most one more than a plan can have
abbrev pub IsReportOn : List ℕ → Option (List ℕ) → LintReport → Type 0
IsReportOn source input report = IfSome input (λ bytes. IsReport source (kept_of bytes) report)

-- if the input is known, the verdict is `Done` for a plan, and `HasErrors` for anything else
abbrev pub IsVerdictOn : Option (List ℕ) → ViewOutcome → Type 0
IsVerdictOn input verdict = IfSome input (λ bytes. verdict ≡ verdict_of (is_ok (plan_of bytes)))

-- the whole report on the input was written, and the verdict is correct for the input
pub record IsReported (source : List ℕ) (input old new : Option (List ℕ)) (verdict : ViewOutcome) : Type 0 where
  pub report : LintReport
  pub of_input : IsReportOn source input report
  pub written : Appends old new (string_bytes report.text)
  pub verdict_is : IsVerdictOn input verdict

-- a prefix of the report on the input was written
pub record IsReportCut (source : List ℕ) (input old new : Option (List ℕ)) : Type 0 where
  pub report : LintReport
  pub of_input : IsReportOn source input report
  pub written : AppendsFront old new (string_bytes report.text)

-- after a failed read nothing was written, and after a failed write a prefix of the report
abbrev pub IsReportEndOfDevice : List ℕ → Bool → Option (List ℕ) → Option (List ℕ) → Option (List ℕ) → Type 0
IsReportEndOfDevice source true input old new = Keeps old new
IsReportEndOfDevice source false input old new = IsReportCut source input old new

-- The report of `check` is written whole or not at all, unless a write fails on the way. `unread` is whether a read
-- failed.
abbrev pub IsCheckEnd : List ℕ → Bool → Option (List ℕ) → Option (List ℕ) → Option (List ℕ) → Result ViewOutcome ViewError → Type 0
IsCheckEnd source unread input old new (Ok verdict) = IsReported source input old new verdict
IsCheckEnd source unread input old new (Err Memory) = Keeps old new
IsCheckEnd source unread input old new (Err Device) = IsReportEndOfDevice source unread input old new
IsCheckEnd source unread input old new (Err fault) = ⊥

-- ---- no plan

-- The input is not a plan, and `errors` is the text that lists its errors.
pub record AreErrorsOf (source : List ℕ) (input : Option (List ℕ)) (errors : List ℕ) : Type 0 where
  pub report : LintReport
  pub of_input : IsReportOn source input report
  pub text : errors ≡ string_bytes report.text
  pub no_plan : IsVerdictOn input HasErrors

-- the bytes are not a plan, and `errors` is the text that lists their errors
pub record AreErrorsOfBytes (source bytes errors : List ℕ) : Type 0 where
  pub report : LintReport
  pub is_report : IsReport source bytes report
  pub text : errors ≡ string_bytes report.text
  pub no_plan : is_ok (plan_of bytes) ≡ false

-- the error is a reason why no plan is read from the bytes: the errors in them, or a failed allocation
abbrev pub GivesNoPlan : List ℕ → List ℕ → ViewError → Type 0
GivesNoPlan source bytes (NoPlan errors) = AreErrorsOfBytes source bytes (string_bytes errors)
GivesNoPlan source bytes Memory = Unit {0}
GivesNoPlan source bytes fault = ⊥
