use Rattle.decimal_text.specs.Written.{u16}
use Rattle.decimal_text.proofs.Rows.{one_mapped}
use Rattle.host_commands.specs.declared.cmd.Cmd.TheVariants.{Enter, Exit}
use Rattle.realm_plan.specs.Steps.{whole}
use Rattle.realm_plan.proofs.command.rec_step.Goals as goal

pub returns-in-Some-made_of : goal.returns-in-Some-made_of
returns-in-Some-made_of c = rw c.in-enter.is (one_mapped (λ k. whole (Enter k)) u16 (λ k. k) c.args.numbers.now _ c.in-Some-made_of.ensures)

pub returns-in-Some-made_of-made_of : goal.returns-in-Some-made_of-made_of
returns-in-Some-made_of-made_of c = rw c.in-exit.is (one_mapped (λ k. whole (Exit k)) u16 (λ k. k) c.args.numbers.now _ c.in-Some-made_of-made_of.ensures)
