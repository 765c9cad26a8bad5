use Rattle.std.proofs.Common.{ℕ, List, map, Bor, Result, refl, sym, ap, ◌∙◌}
use Rattle.realm_plan.specs.Steps.{step_of}
use Rattle.realm_plan.specs.declared.step.PlanStep.{PlanStep}
use Rattle.realm_plan.specs.Outcome.{or_fault}
use Rattle.realm_plan.specs.Plan.{steps_of}
use Rattle.realm_plan.specs.declared.fault.PlanFault.{PlanFault}
use Rattle.realm_plan.specs.declared.fault.PlanFault.TheVariants as fault
use Rattle.realm_plan.proofs.Fronts.{or_fault_starts, ReadsOrFault, entry_read, entry_wrong, entries_read}
use Rattle.realm_plan.proofs.turns.steps_of.Goals as goal

abbrev one : ℕ → ℕ → Bor (List ℕ) → Result PlanStep PlanFault
one build k text = or_fault (fault.Step build k) (step_of text.now)

abbrev all : ℕ → ℕ → List (Bor (List ℕ)) → Result (List PlanStep) PlanFault
all build k texts = steps_of build k (map (λ t. t.now) texts)

reads : (build : ℕ) → ReadsOrFault (one build) (all build)
reads build = record { none_left = λ _. refl; one_more = λ _ _ _. refl }

pub loop-k-init : goal.loop-k-init
loop-k-init c =
    or_fault_starts c.new-found.result.items (all c.args.build 0 c.args.texts.now) c.new-found.ensures.items

pub loop-k-preserved : goal.loop-k-preserved
loop-k-preserved c =
    let build = c.args.build in
    entry_read (one build) (all build) (reads build) c.args.texts.now c.loop-k.k _ c.loop-k.found.items c.push.new.self.items c.in-Some.step
    c.loop-k-test.true (ap (or_fault (fault.Step build c.loop-k.k)) (sym c.in-Some.ensures.exact)) c.in_ok-push.ensures.items
    ∙ c.loop-k.invariant

pub returns-in_default : goal.returns-in_default
returns-in_default c =
    let build = c.args.build in
    sym c.loop-k.invariant
    ∙ entry_wrong (one build) (all build) (reads build) c.args.texts.now c.loop-k.k _ c.loop-k.found.items (fault.Step build c.loop-k.k)
    c.loop-k-test.true (ap (or_fault (fault.Step build c.loop-k.k)) (sym c.in_default.ensures.exact))

pub returns : goal.returns
returns c =
    let build = c.args.build in
    sym c.loop-k.invariant ∙ entries_read (one build) (all build) (reads build) c.args.texts.now c.loop-k.k c.loop-k.found.items c.loop-k-test.false
