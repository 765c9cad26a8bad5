use Rattle.std.proofs.Common.{◌≡◌, map, take}
use Rattle.realm_plan.specs.Asked.{asked}
use Rattle.realm_program.proofs.new_workers.asked_of.Given as goal

abbrev pub invariant-loop-step : goal.invariant-loop-step
invariant-loop-step l = l.asks.items ≡ map asked (take l.step-index l.steps)
