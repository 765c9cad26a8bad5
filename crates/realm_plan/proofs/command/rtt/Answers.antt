use Rattle.std.proofs.Common.{ℕ}
use Rattle.decimal_text.specs.Written.{u8, u32}
use Rattle.decimal_text.proofs.Rows.{three_mapped}
use Rattle.host_commands.specs.declared.cmd.Cmd.TheVariants.{Rtt}
use Rattle.realm_plan.specs.declared.operands.Page.{Page}
use Rattle.realm_plan.specs.Steps.{whole}
use Rattle.realm_plan.specs.StepsWritten.{page}
use Rattle.realm_plan.proofs.command.rtt.Goals as goal

pub returns-in-Some-made_of : goal.returns-in-Some-made_of
returns-in-Some-made_of c = three_mapped (λ (it : Page × ℕ × ℕ). whole (Rtt it.0.0 it.1 it.2)) page u32 u8 (λ k l m. (record { 0 = k }, l, m)) c.args.numbers.now _ c.in-Some-made_of.ensures
