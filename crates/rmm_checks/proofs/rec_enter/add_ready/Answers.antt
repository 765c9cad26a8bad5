use Rattle.rmm_checks.proofs.Rows.{on, told, told_answer}
use Rattle.rmm_checks.proofs.rec_enter.add_ready.Goals as goal

pub returns-clause-rows : goal.returns-clause-rows
returns-clause-rows c =
    on
    (on
    (on (told c.is_new.ensures c.realm.ensures.rows) (told_answer c.only-off.ensures (told c.is_system_off.ensures c.add.ensures.rows)))
    (told c.is_running.ensures c.rec.ensures.rows))
    c.rec-2.ensures.rows
