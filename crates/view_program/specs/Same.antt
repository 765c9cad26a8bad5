-- The equality test of step outcomes, which is the derived `==`.
use Rattle.std.specs.Prelude.{Bool}
use Rattle.plan_states.specs.declared.step_end.EndOfStep.{EndOfStep}
use Rattle.plan_states.specs.contracts.step_end.EndOfStepPartialEq.TheImpl.{ghosts}

abbrev pub same_end : EndOfStep → EndOfStep → Bool
same_end = ghosts.eq
