use Rattle.std.proofs.Common.{◌≡◌, ◌==◌, Bool, ℕ, List, true, sym, ◌∙◌, below_more, eq-eqb, ne_eqb}
use Rattle.realm_plan.specs.Plan.{Plan}
use Rattle.realm_plan.specs.PlanView.{plan_view}
use Rattle.plan_states.specs.Whole.{done_after, done_of}
use Rattle.plan_states.specs.declared.edges.Label.{Label}
use Rattle.plan_states.specs.declared.step_end.EndOfStep.{EndOfStep}
use Rattle.plan_states.proofs.Loops.{number_fails, numbers_pass}
use Rattle.plan_states.proofs.whole.are_done_after.Goals as goal

abbrev is_done_after : Plan → List EndOfStep → List ℕ → Label → List ℕ → ℕ → Bool
is_done_after plan ends done label then build = done_of then build == done_after plan ends done label build

pub returns-then-done_of-done_after : goal.returns-then-done_of-done_after
returns-then-done_of-done_after c =
    sym (number_fails (is_done_after (plan_view c.args.plan.now) c.args.ends.now c.args.done.now c.args.label.now c.args.then.now) 8 c.loop-build.build c.loop-build-test.true
    (ne_eqb _ _ (λ same. c.if-done_of-done_after.true (c.done_of.ensures.value ∙ same ∙ sym c.done_after.ensures))))

pub loop-build-preserved : goal.loop-build-preserved
loop-build-preserved c =
    below_more (λ build. is_done_after (plan_view c.args.plan.now) c.args.ends.now c.args.done.now c.args.label.now c.args.then.now build ≡ true) c.loop-build.build c.loop-build.invariant
    (eq-eqb _ _ (sym c.done_of.ensures.value ∙ c.if-done_of-done_after.false ∙ c.done_after.ensures))

pub returns : goal.returns
returns c =
    sym (numbers_pass (is_done_after (plan_view c.args.plan.now) c.args.ends.now c.args.done.now c.args.label.now c.args.then.now) 8 c.loop-build.build c.loop-build-test.false
    c.loop-build.invariant)
