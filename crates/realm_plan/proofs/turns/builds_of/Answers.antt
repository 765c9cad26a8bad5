use Rattle.std.proofs.Common.{◌≡◌, ℕ, List, [], ◌∷◌, map, Bor, Vec, Global, get_or, Result, refl, sym, ap, ◌∙◌, subst}
use Rattle.std.proofs.lemmas.List.{map-append}
use Rattle.std.proofs.lemmas.Result.{err_from_is_err_and}
use Rattle.realm_plan.specs.declared.step.PlanStep.{PlanStep}
use Rattle.realm_plan.specs.Outcome.{Fails}
use Rattle.realm_plan.specs.Plan.{steps_of, builds_of}
use Rattle.realm_plan.specs.declared.fault.PlanFault.{PlanFault}
use Rattle.realm_plan.proofs.Fronts.{or_fault_starts, ReadsOrFault, entry_read, entry_fails, entries_read}
use Rattle.realm_plan.proofs.turns.builds_of.Goals as goal

abbrev texts : Vec (Bor (List ℕ)) Global → List (List ℕ)
texts build = map (λ t. t.now) build.items

abbrev steps : List (Vec PlanStep Global) → List (List PlanStep)
steps builds = map (λ b. b.items) builds

abbrev one : ℕ → Vec (Bor (List ℕ)) Global → Result (List PlanStep) PlanFault
one k build = steps_of k 0 (texts build)

abbrev all : ℕ → List (Vec (Bor (List ℕ)) Global) → Result (List (List PlanStep)) PlanFault
all k builds = builds_of k (map texts builds)

reads : ReadsOrFault one all
reads = record { none_left = λ _. refl; one_more = λ _ _ _. refl }

-- the steps of the build at index `k` are those that `steps_of` reads from the build's texts
steps_at : (k : ℕ) (builds : List (Vec (Bor (List ℕ)) Global)) (build : Vec (Bor (List ℕ)) Global) (read : List (Bor (List ℕ))) → build ≡ get_or builds k build → read ≡ build.items
    → one k (get_or builds k build) ≡ steps_of k 0 (map (λ t. t.now) read)
steps_at k builds build read at same = rw (same, ← at) refl

pub loop-k-init : goal.loop-k-init
loop-k-init c =
    or_fault_starts (steps c.new-found.result.items) (all 0 c.args.texts.now) (ap steps c.new-found.ensures.items)

pub loop-k-preserved : goal.loop-k-preserved
loop-k-preserved c =
    entry_read one all reads c.args.texts.now c.loop-k.k c.index-texts-k.result (steps c.loop-k.found.items) (steps c.push.new.self.items) c.in_ok-steps.steps.items
    c.loop-k-test.true (steps_at c.loop-k.k c.args.texts.now c.index-texts-k.result c.deref.result.now c.index-texts-k.is c.deref.ensures.value ∙ c.in_ok-steps.ensures)
    (ap steps c.in_ok-push.ensures.items ∙ map-append _ c.loop-k.found.items (c.in_ok-steps.steps ∷ []))
    ∙ c.loop-k.invariant

pub returns-in_err-steps : goal.returns-in_err-steps
returns-in_err-steps c =
    let told = err_from_is_err_and c.from_residual.result c.from_residual.ensures.1 in
    let here = sym (steps_at c.loop-k.k c.args.texts.now c.index-texts-k.result c.deref.result.now c.index-texts-k.is c.deref.ensures.value) in
    let fails = subst (λ read. Fails c.in_err-steps.field-0.0 read) here c.in_err-steps.ensures in
    rw (told.1, told.2) (subst (λ read. Fails c.in_err-steps.field-0.0 read) c.loop-k.invariant
    (entry_fails one all reads c.args.texts.now c.loop-k.k c.index-texts-k.result (steps c.loop-k.found.items) c.in_err-steps.field-0.0 c.loop-k-test.true fails))

pub returns : goal.returns
returns c = sym c.loop-k.invariant ∙ entries_read one all reads c.args.texts.now c.loop-k.k (steps c.loop-k.found.items) c.loop-k-test.false
