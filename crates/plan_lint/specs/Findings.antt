-- The findings on bytes that are checked as a plan: warnings if the bytes are a plan, errors otherwise.
use Rattle.std.specs.Prelude.{◌≡◌, ◌⊎◌, ℕ, ◌≤◌, List, length, sum_by, All, Any, Option, Some, None, Result, Ok, Err}
use Rattle.std.specs.List.Sorted.{IsNonDecreasingBy}
use Rattle.realm_plan.specs.Plan.{Plan, plan_of}
use Rattle.realm_plan.specs.declared.fault.PlanFault.{PlanFault}
use Rattle.plan_lint.specs.declared.finding.Finding.{Finding}
use Rattle.plan_lint.specs.declared.finding.Severity.{Severity}
use Rattle.plan_lint.specs.declared.finding.Severity.TheVariants.{Error, Warning}
use Rattle.plan_lint.specs.declared.judging.Judged.{Judged}
use Rattle.plan_lint.specs.declared.judging.Size.{Size}

abbrev pub IsError : Severity → Type 0
IsError (Error fault also) = Unit {0}
IsError Warning = ⊥

-- the severity is that of an error, and `fault` is the error's first fault or its second fault
abbrev pub IsErrorOf : PlanFault → Severity → Type 0
IsErrorOf fault (Error first also) = (first ≡ fault) ⊎ (also ≡ Some fault)
IsErrorOf fault Warning = ⊥

-- All findings are errors, and at least one has the given fault.
pub record AreErrors (fault : PlanFault) (findings : List Finding) : Type 0 where
  pub errors : All (λ f. IsError f.severity) findings
  pub told : Any (λ f. IsErrorOf fault f.severity) findings

abbrev pub AreWarnings : List Finding → Type 0
AreWarnings findings = All (λ f. f.severity ≡ Warning) findings

-- The findings on a plan are all warnings; those on other bytes are all errors, at least one of which has the bytes'
-- fault.
abbrev pub AreOf : Result Plan PlanFault → List Finding → Type 0
AreOf (Ok plan) findings = AreWarnings findings
AreOf (Err fault) findings = AreErrors fault findings

-- the span of the finding is inside a text of `end` bytes
pub record IsStretchIn (end : ℕ) (f : Finding) : Type 0 where
  pub ordered : f.span.start ≤ f.span.end
  pub within : f.span.end ≤ end

abbrev pub AreInside : ℕ → List Finding → Type 0
AreInside end findings = All (IsStretchIn end) findings

pub record AreFindings (bytes : List ℕ) (findings : List Finding) : Type 0 where
  pub of_bytes : AreOf (plan_of bytes) findings
  pub inside : AreInside (length bytes) findings
  pub in_order : IsNonDecreasingBy (λ f. f.span.start) findings

-- the number of a plan's builds, the number of steps in all builds, and the number of turns
abbrev pub size_of : Plan → Size
size_of plan = record { builds = length plan.builds; steps = sum_by length plan.builds; turns = length plan.order }

abbrev pub size_in : Result Plan PlanFault → Option Size
size_in (Ok plan) = Some (size_of plan)
size_in (Err fault) = None

pub record IsJudged (bytes : List ℕ) (judged : Judged) : Type 0 where
  pub findings : AreFindings bytes judged.findings.items
  pub size : judged.size ≡ size_in (plan_of bytes)
