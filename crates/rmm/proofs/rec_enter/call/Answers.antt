use Rattle.std.proofs.Common.{ap, sym, ◌∙◌}
use Rattle.rmm_model.specs.declared.step.StepOutcome.{StepOutcome}
use Rattle.rmm_model.specs.Guest.{rec_in}
use Rattle.rmm_model.specs.Step.{is_exit}
use Rattle.rmm_model.specs.Machine.{Machine}
use Rattle.rmm_model.specs.Command.PsciComplete.{with_rec}
use Rattle.rmm_model.specs.Command.RecEnter.{with_exit_of}
use Rattle.rmm_granules.specs.RecEdits.{edited}
use Rattle.rmm_granules.specs.declared.rec_edit.RecEdit.{RecEdit}
use Rattle.rmm.proofs.ExitEdits.{edited-exit}
use Rattle.rmm.proofs.rec_enter.call.Goals as goal

pub returns-in-Exit-clause-machine : goal.returns-in-Exit-clause-machine
returns-in-Exit-clause-machine g c =
    let m : Machine = c.args.granules.now in
    c.edit_rec.ensures.machine
    ∙ ap (λ (e : RecEdit). with_rec m c.args.g (edited e (rec_in m c.args.g))) c.exit_edit.ensures
    ∙ ap (with_rec m c.args.g) (edited-exit c.args.step (rec_in m c.args.g))
    ∙ ap (λ (o : StepOutcome). with_exit_of m c.args.g c.args.step (is_exit o)) (sym c.in-Exit.is)
