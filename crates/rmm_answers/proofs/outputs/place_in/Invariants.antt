use Rattle.std.proofs.Common.{◌≡◌, ◌==◌, drop}
use Rattle.std.specs.List.{position_from}
use Rattle.rmm_answers.proofs.outputs.place_in.Given as goal

abbrev pub invariant-loop-place : goal.invariant-loop-place
invariant-loop-place l = position_from (λ f. f == l.function) l.place (drop l.place l.functions) ≡ position_from (λ f. f == l.function) 0 l.functions
