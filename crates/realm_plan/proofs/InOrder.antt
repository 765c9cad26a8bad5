-- Proofs that a plan's fault is that of the first faulty part: of the steps, the schedule, the integers or the lengths,
-- in this sequence.
use Rattle.std.proofs.Common.{◌≡◌, ℕ, false, List, length, Result, Ok, refl}
use Rattle.realm_plan.specs.declared.step.PlanStep.{PlanStep}
use Rattle.realm_plan.specs.Contents.{Contents}
use Rattle.realm_plan.specs.Outcome.{◌>>=◌, Fails}
use Rattle.realm_plan.specs.Plan.{Plan, builds_of, order_of, plan_numbers_of, check_lengths, plan_of_contents}
use Rattle.realm_plan.specs.declared.fault.PlanFault.{PlanFault}
use Rattle.realm_plan.specs.declared.fault.PlanError.{PlanError}
use Rattle.realm_plan.specs.declared.fault.PlanError.TheVariants as errors
use Rattle.realm_plan.specs.declared.limits.Numbers.{Numbers}

pub fails_first : {A B : Type 0} (f : A → Result B PlanFault) (r : Result A PlanFault) (error : PlanError) → Fails error r → Fails error (r >>= f)
fails_first f r errors.Memory fails = tt
fails_first f r (errors.Fault fault) wrong = rw wrong refl

-- the stages in which a plan's contents are checked after the steps: the schedule, the integers and the lengths
module _ (c : Contents) where
  abbrev pub made : List (List PlanStep) → List ℕ → Numbers → Plan
  made builds order n = record { pages = n.pages; vmids = n.vmids; aux = n.aux; history = n.history; builds = builds; order = order; gives_up = false }

  abbrev pub ends : List (List PlanStep) → List ℕ → Numbers → Result Plan PlanFault
  ends builds order n = check_lengths builds order >>= (λ _. Ok (made builds order n))

  abbrev pub after_order : List (List PlanStep) → List ℕ → Result Plan PlanFault
  after_order builds order = plan_numbers_of c >>= ends builds order

  abbrev pub after_builds : List (List PlanStep) → Result Plan PlanFault
  after_builds builds = order_of (length builds) 0 c.order >>= after_order builds

  pub fails_at_builds : (error : PlanError) → Fails error (builds_of 0 c.builds) → Fails error (plan_of_contents c)
  unfolding plan_of_contents
  fails_at_builds error fails = fails_first after_builds (builds_of 0 c.builds) error fails

  module _ (builds : List (List PlanStep)) (builds_read : builds_of 0 c.builds ≡ Ok builds) where
    pub fails_at_order : (error : PlanError) → Fails error (order_of (length builds) 0 c.order) → Fails error (plan_of_contents c)
    unfolding plan_of_contents
    fails_at_order error fails = rw builds_read (fails_first (after_order builds) (order_of (length builds) 0 c.order) error fails)

    module _ (order : List ℕ) (order_read : order_of (length builds) 0 c.order ≡ Ok order) where
      pub fails_at_numbers : (error : PlanError) → Fails error (plan_numbers_of c) → Fails error (plan_of_contents c)
      unfolding plan_of_contents
      fails_at_numbers error fails = rw (builds_read, order_read) (fails_first (ends builds order) (plan_numbers_of c) error fails)

      module _ (n : Numbers) (numbers_read : plan_numbers_of c ≡ Ok n) where
        pub fails_at_lengths : (error : PlanError) → Fails error (check_lengths builds order) → Fails error (plan_of_contents c)
        unfolding plan_of_contents
        fails_at_lengths error fails = rw (builds_read, order_read, numbers_read) (fails_first (λ _. Ok (made builds order n)) (check_lengths builds order) error fails)

        pub plan_read : check_lengths builds order ≡ Ok tt → plan_of_contents c ≡ Ok (made builds order n)
        unfolding plan_of_contents
        plan_read short = rw (builds_read, order_read, numbers_read, short) refl
