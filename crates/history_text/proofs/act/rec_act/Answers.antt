use Rattle.decimal_text.specs.Written.{u8, u16}
use Rattle.decimal_text.proofs.Rows.{one_made, four_made}
use Rattle.realm_model.specs.declared.act.Act.TheVariants.{Rec, UnRec, Enter, Exit, Poke}
use Rattle.history_text.specs.Written.{offset, ipa}
use Rattle.history_text.proofs.RowsMake.{rec_made}
use Rattle.history_text.proofs.act.rec_act.Goals as goal

pub returns-in-Some-made_of : goal.returns-in-Some-made_of
returns-in-Some-made_of c = rw c.in-rec.is (rec_made Rec c.args.numbers.now _ c.in-Some-made_of.ensures)

pub returns-in-Some-made_of-made_of : goal.returns-in-Some-made_of-made_of
returns-in-Some-made_of-made_of c = rw c.in-unrec.is (rec_made UnRec c.args.numbers.now _ c.in-Some-made_of-made_of.ensures)

pub returns-in-Some-made_of-made_of-2 : goal.returns-in-Some-made_of-made_of-2
returns-in-Some-made_of-made_of-2 c = rw c.in-enter.is (one_made u16 Enter c.args.numbers.now _ c.in-Some-made_of-made_of-2.ensures)

pub returns-in-Some-made_of-made_of-3 : goal.returns-in-Some-made_of-made_of-3
returns-in-Some-made_of-made_of-3 c = rw c.in-exit.is (one_made u16 Exit c.args.numbers.now _ c.in-Some-made_of-made_of-3.ensures)

pub returns-in-Some-made_of-made_of-4 : goal.returns-in-Some-made_of-made_of-4
returns-in-Some-made_of-made_of-4 c = rw c.in-poke.is (four_made u16 ipa offset u8 Poke c.args.numbers.now _ c.in-Some-made_of-made_of-4.ensures)
