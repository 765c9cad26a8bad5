use Rattle.decimal_text.proofs.Rows.{two_mapped}
use Rattle.realm_plan.specs.declared.operands.Page.{Page}
use Rattle.realm_plan.specs.declared.step.PlanStep.TheVariants.{WidthLeftOut}
use Rattle.realm_plan.specs.StepsWritten.{page}
use Rattle.realm_plan.proofs.command.short_realm.Goals as goal

pub returns-in-Some-made_of : goal.returns-in-Some-made_of
returns-in-Some-made_of c =
    two_mapped (λ (it : Page × Page). WidthLeftOut it.0.0 it.1.0) page page (λ k l. (record { 0 = k }, record { 0 = l })) c.args.numbers.now _ c.in-Some-made_of.ensures
