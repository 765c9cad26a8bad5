use Rattle.realm_model.specs.declared.act.Act.TheVariants.{Realm, UnRealm}
use Rattle.history_text.proofs.RowsMake.{realm_made}
use Rattle.history_text.proofs.act.realm_act.Goals as goal

pub returns-in-Some-made_of : goal.returns-in-Some-made_of
returns-in-Some-made_of c = rw c.in-realm.is (realm_made Realm c.args.numbers.now _ c.in-Some-made_of.ensures)

pub returns-in-Some-made_of-made_of : goal.returns-in-Some-made_of-made_of
returns-in-Some-made_of-made_of c = rw c.in-unrealm.is (realm_made UnRealm c.args.numbers.now _ c.in-Some-made_of-made_of.ensures)
