-- A proof that the steps of a plan are spelled as in the document from which the plan is read.
use Rattle.std.proofs.Common.{◌≡◌, ℕ, ◌+◌, List, [], ◌∷◌, length, map, Option, Some, None, Result, Ok, Err, option_map, refl, sym, ap, inl, inr}
use Rattle.std.specs.Prelude.{nat_lt, IfOk}
use Rattle.std.proofs.lemmas.Bool.{cases_Bool}
use Rattle.toml.specs.Data.{Members}
use Rattle.realm_plan.specs.Steps.{step_of}
use Rattle.realm_plan.specs.StepsWritten.{spelling}
use Rattle.realm_plan.specs.declared.step.PlanStep.{PlanStep}
use Rattle.realm_plan.proofs.StepTexts.{text_of_step}
use Rattle.realm_plan.specs.Contents.{Contents, contents_of}
use Rattle.realm_plan.specs.Outcome.{◌>>=◌, or_fault, Gives}
use Rattle.realm_plan.specs.Plan.{Plan, steps_of, builds_of, order_of, plan_numbers_of, check_lengths, plan_of_contents, document_of, plan_of}
use Rattle.realm_plan.specs.PlanView.{plan_view}
use Rattle.realm_plan.specs.Written.{written_steps}
use Rattle.realm_plan.specs.declared.fault.PlanFault.{PlanFault}
use Rattle.realm_plan.specs.declared.fault.PlanFault.TheVariants as fault
use Rattle.realm_plan.specs.declared.fault.PlanError.{PlanError}
use Rattle.realm_plan.specs.declared.plan.Plan as code
use Rattle.realm_plan.proofs.InOrder.{ends, after_order, after_builds}

bind_ok : {A B : Type 0} (f : A → Result B PlanFault) (r : Result A PlanFault) (y : B) → r >>= f ≡ Ok y → (x : A) × (r ≡ Ok x) × (f x ≡ Ok y)
bind_ok f (Ok x) y e = (x, refl, e)
bind_ok f (Err k) y e = absurd (cc)

or_fault_ok : {A : Type 0} (k : PlanFault) (o : Option A) (x : A) → or_fault k o ≡ Ok x → o ≡ Some x
or_fault_ok k None x e = absurd (cc)
or_fault_ok k (Some y) x e = cc

spelled_first : (text : List ℕ) (texts : List (List ℕ)) (step : PlanStep) (more steps : List PlanStep) → text ≡ spelling step → map spelling more ≡ texts
    → step ∷ more ≡ steps → map spelling steps ≡ text ∷ texts
spelled_first text texts step more steps here go_on same = rw (← same, here, ← go_on) refl

steps_as_written : (b k : ℕ) (texts : List (List ℕ)) (steps : List PlanStep) → steps_of b k texts ≡ Ok steps → map spelling steps ≡ texts
steps_as_written b k [] steps e = let none : steps ≡ [] = cc in rw none refl
steps_as_written b k (text ∷ texts) steps e =
    let found = bind_ok _ (or_fault (fault.Step b k) (step_of text)) steps e in
    let more = bind_ok _ (steps_of b (k + 1) texts) steps found.2 in
    let step : step_of text ≡ Some found.0 = or_fault_ok (fault.Step b k) (step_of text) found.0 found.1 in
    spelled_first text texts found.0 more.0 steps (text_of_step text found.0 step).is_spelled (steps_as_written b (k + 1) texts more.0 more.1) (cc)

builds_first : (texts : List (List ℕ)) (others : List (List (List ℕ))) (steps : List PlanStep) (more builds : List (List PlanStep)) → map spelling steps ≡ texts
    → map (map spelling) more ≡ others → steps ∷ more ≡ builds → map (map spelling) builds ≡ texts ∷ others
builds_first texts others steps more builds here go_on same = rw (← same, ← here, ← go_on) refl

builds_as_written : (b : ℕ) (texts : List (List (List ℕ))) (builds : List (List PlanStep)) → builds_of b texts ≡ Ok builds → map (map spelling) builds ≡ texts
builds_as_written b [] builds e = let none : builds ≡ [] = cc in rw none refl
builds_as_written b (texts ∷ others) builds e =
    let found = bind_ok _ (steps_of b 0 texts) builds e in
    let more = bind_ok _ (builds_of (b + 1) others) builds found.2 in
    builds_first texts others found.0 more.0 builds (steps_as_written b 0 texts found.0 found.1) (builds_as_written (b + 1) others more.0 more.1) (cc)

same_builds : (c : Contents) (builds : List (List PlanStep)) (p : Plan) → after_builds c builds ≡ Ok p → p.builds ≡ builds
same_builds c builds p e =
    let order = bind_ok (after_order c builds) (order_of (length builds) 0 c.order) p e in
    let n = bind_ok (ends c builds order.0) (plan_numbers_of c) p order.2 in
    let last = bind_ok _ (check_lengths builds order.0) p n.2 in
    let end = last.2 in
    cc

contents_as_written : (c : Contents) (p : Plan) → plan_of_contents c ≡ Ok p → map (map spelling) p.builds ≡ c.builds
unfolding plan_of_contents
contents_as_written c p e =
    let found = bind_ok (after_builds c) (builds_of 0 c.builds) p e in
    rw (same_builds c found.0 p found.2) (builds_as_written 0 c.builds found.0 found.1)

document_as_written : (ms : Members) (p : Plan) → or_fault fault.Key (contents_of ms) >>= plan_of_contents ≡ Ok p → option_map (λ c. c.builds) (contents_of ms) ≡ Some (map (map spelling) p.builds)
document_as_written ms p e =
    let found = bind_ok _ (or_fault fault.Key (contents_of ms)) p e in
    let contents : contents_of ms ≡ Some found.0 = or_fault_ok fault.Key (contents_of ms) found.0 found.1 in
    rw contents (ap Some (sym (contents_as_written found.0 p found.2)))

plan_as_written : (bytes : List ℕ) (p : Plan) → plan_of bytes ≡ Ok p → written_steps bytes ≡ Some (map (map spelling) p.builds)
unfolding plan_of
plan_as_written bytes p e = elim (cases_Bool (nat_lt 1048576 (length bytes))) [
  | inl long ↦ absurd (let bad : Err fault.Limit ≡ Ok p = rw long at e in cc)
  | inr short ↦
      let read = rw short at e in
      let found = bind_ok _ (or_fault fault.Syntax (document_of bytes)) p read in
      let document : document_of bytes ≡ Some found.0 = or_fault_ok fault.Syntax (document_of bytes) found.0 found.1 in
      rw document (document_as_written found.0 p found.2)
]

-- if a call that meets `Gives` returns a plan, the plan's steps are spelled as in the document
pub gives_as_written : (bytes : List ℕ) (r : Result code.Plan PlanError) → Gives plan_view r (plan_of bytes) → IfOk r (λ p. written_steps bytes ≡ Some (map (map spelling) (plan_view p).builds))
gives_as_written bytes (Err e) gives = tt
gives_as_written bytes (Ok p) gives = plan_as_written bytes (plan_view p) gives
