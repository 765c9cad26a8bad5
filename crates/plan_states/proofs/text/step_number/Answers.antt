use Rattle.std.proofs.Common.{ℕ, List, length, Vec, Global, Option, sym, ap, ◌∙◌}
use Rattle.std.specs.Prelude.{option_map, slice_get, unwrap_or}
use Rattle.std.proofs.lemmas.Option.{slice_get-map, slice_get_past}
use Rattle.realm_plan.specs.declared.step.PlanStep.{PlanStep}
use Rattle.plan_states.proofs.RunLogs.{seen_at_place}
use Rattle.plan_states.proofs.text.step_number.Goals as goal

abbrev steps_in : Vec PlanStep Global → List PlanStep
steps_in steps = steps.items

abbrev number_if : Option (List PlanStep) → ℕ
number_if steps = unwrap_or (option_map length steps) 0

pub returns-in-Some : goal.returns-in-Some
returns-in-Some c =
    let builds = c.args.plan.now.builds.items in
    let steps = c.in-Some.steps.now in
    let there = seen_at_place builds c.deref.result.now c.args.build steps c.deref.ensures.value c.in-Some.ensures.lookup.3.0 c.in-Some.ensures.lookup.1 in
    c.len.ensures ∙ steps.ok.0 ∙ sym (ap number_if (slice_get-map steps_in builds c.args.build ∙ ap (option_map steps_in) there))

pub returns-in-None : goal.returns-in-None
returns-in-None c =
    let builds = c.args.plan.now.builds.items in
    let past = ap (λ (bs : List (Vec PlanStep Global)). slice_get bs c.args.build) (sym c.deref.ensures.value) ∙ slice_get_past c.deref.result.now c.args.build c.in-None.ensures.lookup.3 in
    sym (ap number_if (slice_get-map steps_in builds c.args.build ∙ ap (option_map steps_in) past))
