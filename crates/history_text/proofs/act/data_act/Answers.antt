use Rattle.decimal_text.proofs.Rows.{two_made, three_made}
use Rattle.realm_model.specs.declared.act.Act.TheVariants.{Data, Unknown, UnData}
use Rattle.history_text.specs.Written.{granule, ipa}
use Rattle.history_text.proofs.act.data_act.Goals as goal

pub returns-in-Some-made_of : goal.returns-in-Some-made_of
returns-in-Some-made_of c = rw c.in-data.is (three_made granule ipa granule Data c.args.numbers.now _ c.in-Some-made_of.ensures)

pub returns-in-Some-made_of-made_of : goal.returns-in-Some-made_of-made_of
returns-in-Some-made_of-made_of c = rw c.in-unknown.is (two_made granule ipa Unknown c.args.numbers.now _ c.in-Some-made_of-made_of.ensures)

pub returns-in-Some-made_of-made_of-2 : goal.returns-in-Some-made_of-made_of-2
returns-in-Some-made_of-made_of-2 c = rw c.in-undata.is (two_made granule ipa UnData c.args.numbers.now _ c.in-Some-made_of-made_of-2.ensures)
