use Rattle.std.proofs.Common.{◌≡◌, take}
use Rattle.view_program.proofs.same_plan.are_same_steps.Given as goal

abbrev pub invariant-loop-place : goal.invariant-loop-place
invariant-loop-place l = take l.place l.one ≡ take l.place l.other
