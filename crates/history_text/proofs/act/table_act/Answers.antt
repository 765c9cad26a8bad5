use Rattle.decimal_text.specs.Written.{u16}
use Rattle.decimal_text.proofs.Rows.{two_made}
use Rattle.realm_model.specs.declared.act.Act.TheVariants.{Rtt, UnRtt, Ripas}
use Rattle.history_text.specs.Written.{ipa}
use Rattle.history_text.proofs.RowsMake.{table_made}
use Rattle.history_text.proofs.act.table_act.Goals as goal

pub returns-in-Some-made_of : goal.returns-in-Some-made_of
returns-in-Some-made_of c = rw c.in-rtt.is (table_made Rtt c.args.numbers.now _ c.in-Some-made_of.ensures)

pub returns-in-Some-made_of-made_of : goal.returns-in-Some-made_of-made_of
returns-in-Some-made_of-made_of c = rw c.in-unrtt.is (table_made UnRtt c.args.numbers.now _ c.in-Some-made_of-made_of.ensures)

pub returns-in-Some-made_of-made_of-2 : goal.returns-in-Some-made_of-made_of-2
returns-in-Some-made_of-made_of-2 c = rw c.in-ripas.is (two_made ipa u16 Ripas c.args.numbers.now _ c.in-Some-made_of-made_of-2.ensures)
