use Rattle.std.proofs.Common.{◌≡◌, ℕ, ◌==◌, ◌&&◌, Bool, true, false, List, Option, Some, refl, sym, ap, ◌∙◌, eq-eqb, ne_eqb}
use Rattle.std.proofs.lemmas.Option.{slice_get_past}
use Rattle.std.specs.Prelude.{slice_get}
use Rattle.realm_plan.specs.Plan.{Plan}
use Rattle.realm_plan.specs.PlanView.{plan_view}
use Rattle.plan_states.specs.Whole.{is_end_of, uses_next}
use Rattle.plan_states.specs.declared.step_end.EndOfStep.{EndOfStep}
use Rattle.plan_states.proofs.RunLogs.{seen_at_place}
use Rattle.plan_states.proofs.whole.uses_next.Goals as goal

uses_by : (plan : Plan) (ends : List EndOfStep) (build done number : ℕ) (named : Option ℕ) (end : EndOfStep) (is_own : Bool)
    → named ≡ Some number → slice_get ends number ≡ Some end → (end.build == build) ≡ is_own → uses_next plan ends build done named ≡ (is_own && end.step == done)
uses_by plan ends build done number named end is_own named_is there own =
    ap (uses_next plan ends build done) named_is ∙ ap (is_end_of build done) there ∙ ap (λ (own : Bool). own && end.step == done) own

pub returns-then-end-label : goal.returns-then-end-label
returns-then-end-label c =
    sym (uses_by (plan_view c.args.plan.now) c.args.ends.now c.args.label.now.build c.args.done c.in-Some.number c.args.label.now.end c.in-Some-get.end.now true
    c.in-Some.is (seen_at_place c.args.ends.now c.args.ends.now c.in-Some.number c.in-Some-get.end.now refl c.in-Some-get.ensures.lookup.3.0 c.in-Some-get.ensures.lookup.1)
    (eq-eqb c.in-Some-get.end.now.build c.args.label.now.build c.if-end-label.true))

pub returns-else-end-label : goal.returns-else-end-label
returns-else-end-label c =
    ne_eqb c.in-Some-get.end.now.build c.args.label.now.build c.if-end-label.false
    ∙ sym (uses_by (plan_view c.args.plan.now) c.args.ends.now c.args.label.now.build c.args.done c.in-Some.number c.args.label.now.end c.in-Some-get.end.now false
    c.in-Some.is (seen_at_place c.args.ends.now c.args.ends.now c.in-Some.number c.in-Some-get.end.now refl c.in-Some-get.ensures.lookup.3.0 c.in-Some-get.ensures.lookup.1)
    (ne_eqb c.in-Some-get.end.now.build c.args.label.now.build c.if-end-label.false))

pub returns-in-None : goal.returns-in-None
returns-in-None c =
    sym (ap (uses_next (plan_view c.args.plan.now) c.args.ends.now c.args.label.now.build c.args.done) c.in-Some.is
    ∙ ap (is_end_of c.args.label.now.build c.args.done) (slice_get_past c.args.ends.now c.in-Some.number c.in-None.ensures.lookup.3))
