use Rattle.std.proofs.Common.{ℕ}
use Rattle.decimal_text.specs.Written.{u8}
use Rattle.decimal_text.proofs.Rows.{two_mapped}
use Rattle.host_commands.specs.declared.cmd.Cmd.TheVariants.{Fill}
use Rattle.realm_plan.specs.declared.operands.Page.{Page}
use Rattle.realm_plan.specs.Steps.{whole}
use Rattle.realm_plan.specs.StepsWritten.{page}
use Rattle.realm_plan.proofs.command.fill.Goals as goal

pub returns-in-Some-made_of : goal.returns-in-Some-made_of
returns-in-Some-made_of c = two_mapped (λ (it : Page × ℕ). whole (Fill it.0.0 it.1)) page u8 (λ k l. (record { 0 = k }, l)) c.args.numbers.now _ c.in-Some-made_of.ensures
