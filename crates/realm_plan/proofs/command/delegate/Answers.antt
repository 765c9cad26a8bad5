use Rattle.decimal_text.proofs.Rows.{one_mapped}
use Rattle.host_commands.specs.declared.cmd.Cmd.TheVariants.{Delegate}
use Rattle.realm_plan.specs.declared.operands.Page.{Page}
use Rattle.realm_plan.specs.Steps.{whole}
use Rattle.realm_plan.specs.StepsWritten.{page}
use Rattle.realm_plan.proofs.command.delegate.Goals as goal

pub returns-in-Some-made_of : goal.returns-in-Some-made_of
returns-in-Some-made_of c = one_mapped (λ (it : Page). whole (Delegate it.0)) page (λ k. record { 0 = k }) c.args.numbers.now _ c.in-Some-made_of.ensures
