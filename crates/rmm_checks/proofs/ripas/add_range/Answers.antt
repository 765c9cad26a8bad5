use Rattle.std.proofs.Common.{not, ap, ◌∙◌}
use Rattle.rmm_model.specs.Realm.{is_protected}
use Rattle.rmm_model.specs.Command.Operand.{realm_at}
use Rattle.rmm_model.specs.Command.RttInitRipas.{range_checks}
use Rattle.rmm_checks.proofs.Rows.{on, told}
use Rattle.rmm_checks.proofs.ripas.add_range.Goals as goal

pub returns-clause-rows : goal.returns-clause-rows
unfolding range_checks
returns-clause-rows g c =
    on
    (on
    (on
    (on (told (ap not c.is_aligned.ensures) c.input.ensures.rows) (told (ap not c.is_aligned-2.ensures) c.input-2.ensures.rows))
    (told (ap not c.is_protected-base_within.ensures) c.input-3.ensures.rows))
    (told (ap not (c.is_protected-last_within.ensures ∙ ap (is_protected (realm_at c.args.granules.now c.args.rd)) c.saturating_sub-last.ensures)) c.input-4.ensures.rows))
    c.add_new.ensures.rows
