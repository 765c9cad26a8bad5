use Rattle.rmm_model.specs.Command.RealmDestroy.{realm_destroy}
use Rattle.rmm_checks.proofs.Rows.{on, told, from_none}
use Rattle.rmm_checks.proofs.realm_destroy.realm_destroy.Goals as goal

pub returns : goal.returns
unfolding realm_destroy
returns g c = from_none c.new-checks.ensures (on c.add_rd.ensures.rows (told c.is_live_at-is_live.ensures c.realm.ensures.rows))
