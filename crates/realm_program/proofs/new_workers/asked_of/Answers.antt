use Rattle.std.proofs.Common.{List, ◌∷◌, [], ◌++◌, sym, ap, ap₂, ◌∙◌}
use Rattle.std.proofs.lemmas.List.{map_more}
use Rattle.host_commands.specs.declared.cmd.Step.{Step}
use Rattle.realm_plan.specs.Asked.{asked}
use Rattle.realm_program.proofs.new_workers.asked_of.Goals as goal

pub loop-step-preserved : goal.loop-step-preserved
loop-step-preserved c =
    c.in_ok-append_item.ensures
    ∙ ap₂ (λ (l : List Step) (s : Step). l ++ s ∷ []) c.loop-step.invariant (c.asked.ensures ∙ ap asked c.step-item.is)
    ∙ sym (map_more asked c.args.steps.now c.loop-step.step-index c.step-item.result c.loop-step-test.true)
