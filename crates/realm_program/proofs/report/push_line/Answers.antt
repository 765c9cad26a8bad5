use Rattle.std.proofs.Common.{◌≡◌, ◌++◌, ◌∙◌, ◌≤◌, ℕ, List, length, Result, Option, string_bytes, ap, subst, sym, refl, arith}
use Rattle.std.specs.Prelude.{OnOk}
use Rattle.std.proofs.lemmas.Bool.{ltb-true}
use Rattle.std.proofs.lemmas.List.{append-nil}
use Rattle.std.proofs.lemmas.Option.{slice_get_read, slice_get_past}
use Rattle.realm_plan.specs.declared.step.PlanStep.{PlanStep}
use Rattle.build_seats.specs.declared.report.ReportLine.{ReportLine}
use Rattle.realm_program.specs.Report.{step_of_line, line_text}
use Rattle.realm_program.proofs.report.push_line.Goals as goal

-- if `step` equals `its`, and a text grew by a line for the step `its`, then the text grew by the same line for `step`
of_step : {T E : Type 0} (result : Result T E) (new old : List ℕ) (build : ℕ) (line : ReportLine) (next : Option ReportLine) {step its : Option PlanStep}
    → step ≡ its
    → OnOk result (new ≡ old ++ line_text build its line next)
    → OnOk result (new ≡ old ++ line_text build step line next)
of_step result new old build line next is = subst (λ s. OnOk result (new ≡ old ++ line_text build s line next)) (sym is)

pub returns-in-Some : goal.returns-in-Some
returns-in-Some c =
    let put = c.push_step_line in
    let steps = c.args.steps.now in
    let found = c.in-Some.ensures.lookup in
    let inside = ltb-true c.in-Step.place (length steps) (sym found.0) in
    of_step put.result (string_bytes put.new.text) (string_bytes c.args.text.now) c.args.build c.args.line.now c.args.next
    (ap (step_of_line steps) c.in-Step.is ∙ slice_get_read steps (length steps) c.in-Step.place c.in-Some.step.now refl inside found.1) put.ensures

pub returns-in-None : goal.returns-in-None
returns-in-None c =
    let old = string_bytes c.args.text.now in
    let past : length c.args.steps.now ≤ c.in-Step.place = omega (arith, c.in-None.ensures.lookup) in
    let none = ap (step_of_line c.args.steps.now) c.in-Step.is ∙ slice_get_past c.args.steps.now c.in-Step.place past in
    sym (ap (λ step. old ++ line_text c.args.build step c.args.line.now c.args.next) none ∙ append-nil old)

pub returns-in-Exit : goal.returns-in-Exit
returns-in-Exit c =
    let put = c.push_step_line-in-Exit in
    of_step put.result (string_bytes put.new.text) (string_bytes c.args.text.now) c.args.build c.args.line.now c.args.next (ap (step_of_line c.args.steps.now) c.in-Exit.is) put.ensures

pub returns-in-Undo : goal.returns-in-Undo
returns-in-Undo c =
    let put = c.push_step_line-in-Undo in
    of_step put.result (string_bytes put.new.text) (string_bytes c.args.text.now) c.args.build c.args.line.now c.args.next (ap (step_of_line c.args.steps.now) c.in-Undo.is) put.ensures
