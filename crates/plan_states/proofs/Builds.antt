-- A proof that `plan_view`, which contracts use in place of a plan, keeps the number of builds.
use Rattle.std.proofs.Common.{◌≡◌, ℕ, length, vec_len, sym, ◌∙◌}
use Rattle.std.proofs.lemmas.List.{length-map}
use Rattle.realm_plan.specs.PlanView.{plan_view}
use Rattle.realm_plan.specs.declared.plan.Plan as code

pub builds_are : (plan : code.Plan) (n : ℕ) → n ≡ vec_len plan.builds → n ≡ length (plan_view plan).builds
builds_are plan n is = is ∙ plan.builds.ok.0 ∙ sym (length-map plan.builds.items (λ b. b.items))
