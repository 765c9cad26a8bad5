use Rattle.std.proofs.Common.{ℕ}
use Rattle.decimal_text.specs.Written.{u16, u32}
use Rattle.decimal_text.proofs.Rows.{two_mapped}
use Rattle.host_commands.specs.declared.cmd.Cmd.TheVariants.{Ripas}
use Rattle.realm_plan.specs.Steps.{whole}
use Rattle.realm_plan.proofs.command.ripas.Goals as goal

pub returns-in-Some-made_of : goal.returns-in-Some-made_of
returns-in-Some-made_of c = two_mapped (λ (it : ℕ × ℕ). whole (Ripas it.0 it.1)) u32 u16 (λ k l. (k, l)) c.args.numbers.now _ c.in-Some-made_of.ensures
