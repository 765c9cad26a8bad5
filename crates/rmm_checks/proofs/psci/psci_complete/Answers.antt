use Rattle.rmm_model.specs.Command.PsciComplete.{psci_complete}
use Rattle.rmm_checks.proofs.Rows.{on, told, from_none}
use Rattle.rmm_checks.proofs.psci.psci_complete.Goals as goal

pub returns : goal.returns
unfolding psci_complete
returns g c =
    from_none c.new-checks.ensures
    (on (on (on (told (c.is_same.ensures) c.input.ensures.rows) (c.add_rec.ensures.rows)) (c.add_rec-2.ensures.rows)) (c.add_request.ensures.rows))
