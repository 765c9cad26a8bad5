use Rattle.decimal_text.specs.Written.{u8}
use Rattle.decimal_text.proofs.Rows.{one_mapped}
use Rattle.host_commands.specs.declared.cmd.Cmd.TheVariants.{Take}
use Rattle.realm_plan.specs.Steps.{whole}
use Rattle.realm_plan.proofs.command.take.Goals as goal

pub returns-in-Some-made_of : goal.returns-in-Some-made_of
returns-in-Some-made_of c = one_mapped (λ k. whole (Take k)) u8 (λ k. k) c.args.numbers.now _ c.in-Some-made_of.ensures
