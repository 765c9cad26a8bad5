use Rattle.std.proofs.Common.{◌≡◌, map, take}
use Rattle.view_program.proofs.same_plan.are_same_builds.Given as goal

abbrev pub invariant-loop-place : goal.invariant-loop-place
invariant-loop-place l = take l.place (map (λ steps. steps.items) l.one) ≡ take l.place (map (λ steps. steps.items) l.other)
