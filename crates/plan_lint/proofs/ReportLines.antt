-- Proofs that the text of a report has the text of each finding in sequence, and then the plan's size if the document
-- is a plan.
use Rattle.std.proofs.Common.{◌≡◌, ℕ, List, [], ◌∷◌, ◌++◌, string_bytes, Result, Ok, Err, refl, sym, ap, ◌∙◌, append_assoc}
use Rattle.std.specs.Prelude.{is_some, is_ok}
use Rattle.std.specs.List.{flat_map}
use Rattle.std.proofs.lemmas.List.{append-nil}
use Rattle.realm_plan.specs.Plan.{Plan, plan_of}
use Rattle.realm_plan.specs.declared.fault.PlanFault.{PlanFault}
use Rattle.plan_lint.specs.Findings.{size_in, IsJudged}
use Rattle.plan_lint.specs.Lines.{head_line, size_text, IsFindingText, AreFindingTexts, AppendsFinding, AppendsFindings}
use Rattle.plan_lint.specs.Shown.{plain_text, plain_line, IsExcerpt}
use Rattle.plan_lint.specs.Texts.{IsReport}
use Rattle.plan_lint.specs.declared.finding.Finding.{Finding}
use Rattle.plan_lint.specs.declared.judging.Judged.{Judged}
use Rattle.plan_lint.specs.declared.report.LintReport.{LintReport}

module _ (source : List ℕ) where
  more : (findings : List Finding) (f : Finding) (lines text : List ℕ) → AreFindingTexts source findings lines → IsFindingText source f text
      → AreFindingTexts source (findings ++ f ∷ []) (lines ++ text)
  more [] f lines text none is = (text, [], is, refl, ap (λ (l : List ℕ). l ++ text) none ∙ sym (append-nil text))
  more (first ∷ findings) f lines text them is =
      (them.0, them.1 ++ text, them.2, more findings f them.1 text them.3 is, ap (λ (l : List ℕ). l ++ text) them.4 ∙ append_assoc them.0 them.1 text)

  pub AppendsFindings-more : (findings : List Finding) (f : Finding) (old mid new : List ℕ) → AppendsFindings source findings old mid
      → AppendsFinding source f mid new → AppendsFindings source (findings ++ f ∷ []) old new
  AppendsFindings-more findings f old mid new before this = record {
    lines = before.lines ++ this.text;
    of_findings = more findings f before.lines this.text before.of_findings this.is_text;
    appended = this.appended ∙ ap (λ (l : List ℕ). l ++ this.text) before.appended ∙ append_assoc old before.lines this.text;
  }

-- there is a size exactly if the bytes are a plan
pub is_some-size_in : (read : Result Plan PlanFault) → is_some (size_in read) ≡ is_ok read
is_some-size_in (Ok plan) = refl
is_some-size_in (Err fault) = refl

-- the first line, the excerpt and the notes of a finding, appended one after the other, are the text of the finding
pub finding_by_parts : (source : List ℕ) (f : Finding) (line column : ℕ) (excerpt old one two new : List ℕ)
    → IsExcerpt excerpt
    → one ≡ old ++ head_line source line column f
    → two ≡ one ++ excerpt
    → new ≡ two ++ flat_map (λ note. plain_line (string_bytes note)) f.notes.items
    → AppendsFinding source f old new
finding_by_parts source f line column excerpt old one two new is_excerpt first second last =
    let head = head_line source line column f in
    let notes = flat_map (λ note. plain_line (string_bytes note)) f.notes.items in
    record {
      text = head ++ (excerpt ++ notes);
      is_text = record { line = line; column = column; excerpt = excerpt; is_excerpt = is_excerpt; whole = refl };
      appended = last ∙ ap (λ (t : List ℕ). t ++ notes) second ∙ append_assoc one excerpt notes
          ∙ ap (λ (t : List ℕ). t ++ (excerpt ++ notes)) first ∙ append_assoc old head (excerpt ++ notes);
    }

-- `IsReport` holds if the report's text has the judged findings and then the size, if any, and `is_plan` says whether
-- there is a size
pub report_by_parts : (source bytes : List ℕ) (report : LintReport) (judged : Judged) (empty between : List ℕ)
    → IsJudged bytes judged
    → report.is_plan ≡ is_some judged.size
    → empty ≡ []
    → AppendsFindings (plain_text source) judged.findings.items empty between
    → string_bytes report.text ≡ between ++ size_text (plain_text source) judged.size
    → IsReport source bytes report
report_by_parts source bytes report judged empty between is same none told sized =
    let size = size_text (plain_text source) (size_in (plan_of bytes)) in
    record {
      is_plan = same ∙ ap is_some is.size ∙ is_some-size_in (plan_of bytes);
      findings = judged.findings.items;
      of_bytes = is.findings;
      lines = told.lines;
      of_findings = told.of_findings;
      whole = sized ∙ ap (λ s. between ++ size_text (plain_text source) s) is.size
          ∙ ap (λ (t : List ℕ). t ++ size) (told.appended ∙ ap (λ (t : List ℕ). t ++ told.lines) none);
    }
