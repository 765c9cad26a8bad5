use Rattle.rmm_model.specs.Command.RealmActivate.{realm_activate}
use Rattle.rmm_checks.proofs.Rows.{on, from_none}
use Rattle.rmm_checks.proofs.realm.realm_activate.Goals as goal

pub returns : goal.returns
unfolding realm_activate
returns g c =
    from_none c.new-checks.ensures
    (on (c.add_rd.ensures.rows) (c.add_new.ensures.rows))
