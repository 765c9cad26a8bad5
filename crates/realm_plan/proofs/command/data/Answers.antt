use Rattle.std.proofs.Common.{ℕ}
use Rattle.decimal_text.specs.Written.{u32}
use Rattle.decimal_text.proofs.Rows.{three_mapped}
use Rattle.host_commands.specs.declared.cmd.Cmd.TheVariants.{Data}
use Rattle.realm_plan.specs.declared.operands.Page.{Page}
use Rattle.realm_plan.specs.Steps.{whole}
use Rattle.realm_plan.specs.StepsWritten.{page}
use Rattle.realm_plan.proofs.command.data.Goals as goal

pub returns-in-Some-made_of : goal.returns-in-Some-made_of
returns-in-Some-made_of c = three_mapped (λ (it : Page × ℕ × Page). whole (Data it.0.0 it.1 it.2.0)) page u32 page (λ k l m. (record { 0 = k }, l, record { 0 = m })) c.args.numbers.now _ c.in-Some-made_of.ensures
