-- Proofs that findings keep their properties when they are sorted, or when one more finding is added. Sorted errors are
-- still errors, and sorted warnings still warnings, with spans inside the text. Errors to which an error is added are
-- still errors.
use Rattle.std.proofs.Common.{List, [], ◌∷◌, ◌++◌, ◌≡◌, ℕ, length, ap, sym, ◌∙◌, subst}
use Rattle.std.specs.Prelude.{All, Any, Ok, Err, Some, None, Result}
use Rattle.std.specs.List.Sorted.{IsPermutation, IsNonDecreasingBy}
use Rattle.realm_plan.specs.Plan.{Plan, plan_of}
use Rattle.std.proofs.lemmas.List.Elements.{All-push}
use Rattle.std.proofs.lemmas.List.Quantifiers.{Any-push}
use Rattle.std.proofs.lemmas.List.Sorted.{All-permutation, Contains-permutation}
use Rattle.realm_plan.specs.declared.fault.PlanFault.{PlanFault}
use Rattle.plan_lint.specs.Findings.{IsError, IsErrorOf, AreErrors, AreWarnings, IsStretchIn, AreInside, AreOf, IsJudged, size_of, size_in}
use Rattle.plan_lint.specs.declared.judging.Judged.{Judged}
use Rattle.plan_lint.specs.declared.finding.Finding.{Finding}
use Rattle.plan_lint.specs.declared.finding.Severity.{Severity}
use Rattle.plan_lint.specs.declared.finding.Severity.TheVariants.{Error, Warning}

any_moved : (P : Finding → Type 0) (xs ys : List Finding) → IsPermutation xs ys → Any P xs → Any P ys
any_moved P xs ys moved any =
    let there = Contains-permutation xs ys any.1 moved (any.0, any.2, any.3) in
    (there.0, any.1, there.1, there.2, any.4)

pub errors_moved : (fault : PlanFault) (xs ys : List Finding) → IsPermutation xs ys → AreErrors fault xs → AreErrors fault ys
errors_moved fault xs ys moved are = record {
  errors = All-permutation (λ (f : Finding). IsError f.severity) xs ys moved are.errors;
  told = any_moved (λ (f : Finding). IsErrorOf fault f.severity) xs ys moved are.told;
}

is_error : (fault : PlanFault) (severity : Severity) → IsErrorOf fault severity → IsError severity
is_error fault (Error first also) is = tt
is_error fault Warning is = absurd is

-- if an error with the given fault is added to a list of errors, all are errors, and at least one has that fault
pub errors_pushed : (fault : PlanFault) (xs ys : List Finding) (f : Finding) → ys ≡ xs ++ f ∷ [] → All (λ x. IsError x.severity) xs → IsErrorOf fault f.severity → AreErrors fault ys
errors_pushed fault xs ys f pushed errors is =
    let all = All-push (λ (x : Finding). IsError x.severity) xs f errors (is_error fault f.severity is) in
    let one = Any-push (λ (x : Finding). IsErrorOf fault x.severity) xs f is in
    subst (λ (zs : List Finding). AreErrors fault zs) (sym pushed) (record { errors = all; told = one })

-- a list whose findings have spans inside the text keeps that property when a finding with such a span is added
pub inside_pushed : (end : ℕ) (xs ys : List Finding) (f : Finding) → ys ≡ xs ++ f ∷ [] → AreInside end xs → IsStretchIn end f → AreInside end ys
inside_pushed end xs ys f pushed are is = subst (λ (zs : List Finding). AreInside end zs) (sym pushed) (All-push (IsStretchIn end) xs f are is)

-- ---- the findings on bytes

module _ (bytes : List ℕ) (xs : List Finding) (judged : Judged) (inside : AreInside (length bytes) xs)
    (moved : IsPermutation xs judged.findings.items) (sorted : IsNonDecreasingBy (λ f. f.span.start) judged.findings.items) where
  still_inside : AreInside (length bytes) judged.findings.items
  still_inside = All-permutation (IsStretchIn (length bytes)) xs judged.findings.items moved inside

  pub judged_plan : (plan : Plan) → plan_of bytes ≡ Ok plan → AreWarnings xs → judged.size ≡ Some (size_of plan) → IsJudged bytes judged
  judged_plan plan is warnings size =
      let still = All-permutation (λ (f : Finding). f.severity ≡ Warning) xs judged.findings.items moved warnings in
      record {
        findings = record {
          of_bytes = subst (λ (r : Result Plan PlanFault). AreOf r judged.findings.items) (sym is) still;
          inside = still_inside;
          in_order = sorted;
        };
        size = size ∙ ap size_in (sym is);
      }

  pub judged_fault : (fault : PlanFault) → plan_of bytes ≡ Err fault → AreErrors fault xs → judged.size ≡ None → IsJudged bytes judged
  judged_fault fault is errors size = record {
    findings = record {
      of_bytes = subst (λ (r : Result Plan PlanFault). AreOf r judged.findings.items) (sym is) (errors_moved fault xs judged.findings.items moved errors);
      inside = still_inside;
      in_order = sorted;
    };
    size = size ∙ ap size_in (sym is);
  }
