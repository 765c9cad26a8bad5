use Rattle.std.proofs.Common.{ap, sym, ◌∙◌}
use Rattle.realm_model.specs.Act.{named}
use Rattle.realm_model.specs.Outcome.{outcome_of}
use Rattle.rmi_monitor.specs.View.{after_command}
use Rattle.rmi_monitor.specs.Performing.{outcome_on}
use Rattle.rmi_monitor.proofs.Pages.{after_peek}
use Rattle.rmi_monitor.proofs.operation.perform.Goals as goal

pub returns-in-Ok-clause-machine : goal.returns-in-Ok-clause-machine
unfolding outcome_of named
returns-in-Ok-clause-machine g c =
    after_peek c.args.monitor.now c.in-Peek.granule
    ∙ ap (λ a. after_command (outcome_on c.args.monitor.now c.args.place.realm a) c.args.monitor.now) (sym c.in-Peek.is)
