use Rattle.std.proofs.Common.{◌≡◌, ◌==◌, drop}
use Rattle.std.specs.List.{position_from}
use Rattle.rmm_answers.proofs.guest.kind_in.Given as goal

abbrev pub invariant-loop-kind : goal.invariant-loop-kind
invariant-loop-kind l = position_from (λ step. step == l.name) l.kind (drop l.kind l.steps) ≡ position_from (λ step. step == l.name) 0 l.steps
