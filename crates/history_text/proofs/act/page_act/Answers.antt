use Rattle.decimal_text.specs.Written.{u8}
use Rattle.decimal_text.proofs.Rows.{one_made, two_made, three_made}
use Rattle.realm_model.specs.declared.act.Act.TheVariants.{Take, UnTake, Fill, Peek, Delegate, Undelegate}
use Rattle.history_text.specs.Written.{order, granule, offset}
use Rattle.history_text.proofs.act.page_act.Goals as goal

pub returns-in-Some-made_of : goal.returns-in-Some-made_of
returns-in-Some-made_of c = rw c.in-take.is (two_made order granule Take c.args.numbers.now _ c.in-Some-made_of.ensures)

pub returns-in-Some-made_of-made_of : goal.returns-in-Some-made_of-made_of
returns-in-Some-made_of-made_of c = rw c.in-untake.is (two_made order granule UnTake c.args.numbers.now _ c.in-Some-made_of-made_of.ensures)

pub returns-in-Some-made_of-made_of-2 : goal.returns-in-Some-made_of-made_of-2
returns-in-Some-made_of-made_of-2 c = rw c.in-fill.is (two_made granule u8 Fill c.args.numbers.now _ c.in-Some-made_of-made_of-2.ensures)

pub returns-in-Some-made_of-made_of-3 : goal.returns-in-Some-made_of-made_of-3
returns-in-Some-made_of-made_of-3 c = rw c.in-peek.is (three_made granule offset u8 Peek c.args.numbers.now _ c.in-Some-made_of-made_of-3.ensures)

pub returns-in-Some-made_of-made_of-4 : goal.returns-in-Some-made_of-made_of-4
returns-in-Some-made_of-made_of-4 c = rw c.in-delegate.is (one_made granule Delegate c.args.numbers.now _ c.in-Some-made_of-made_of-4.ensures)

pub returns-in-Some-made_of-made_of-5 : goal.returns-in-Some-made_of-made_of-5
returns-in-Some-made_of-made_of-5 c = rw c.in-undelegate.is (one_made granule Undelegate c.args.numbers.now _ c.in-Some-made_of-made_of-5.ensures)
