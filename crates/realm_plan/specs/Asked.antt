-- The request that a plan's step makes of the host, with the IPA width 39 if the step leaves out the width.
use Rattle.host_commands.specs.declared.cmd.Cmd.TheVariants.{Realm}
use Rattle.host_commands.specs.declared.cmd.Step.{Step}
use Rattle.host_commands.specs.declared.cmd.Step.TheVariants.{Ask}
use Rattle.realm_plan.specs.declared.step.PlanStep.{PlanStep}
use Rattle.realm_plan.specs.declared.step.PlanStep.TheVariants.{Whole, WidthLeftOut}

-- the request that a step makes of the host; an IPA width that is left out is 39
abbrev pub asked : PlanStep → Step
asked (Whole step) = step
asked (WidthLeftOut rd root) = Ask (Realm rd root 39)
