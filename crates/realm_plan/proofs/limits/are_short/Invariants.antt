use Rattle.std.specs.Prelude.{◌≡◌, true, nat_le, vec_len, take}
use Rattle.std.specs.List.{list_all}
use Rattle.realm_plan.proofs.limits.are_short.Given as goal

abbrev pub invariant-loop-steps : goal.invariant-loop-steps
invariant-loop-steps l = list_all (λ steps. nat_le (vec_len steps) 1024) (take l.steps-index l.builds) ≡ true
