use Rattle.std.proofs.Common.{◌==◌, eq-eqb}
use Rattle.rmm_answers.proofs.Rows.{place_here}
use Rattle.rmm_answers.proofs.outputs.place_in.Goals as goal

pub returns-then-it-function : goal.returns-then-it-function
returns-then-it-function c =
    place_here (λ f. f == c.args.function) c.args.functions.now c.loop-place.place 0 c.loop-place-test.true (eq-eqb _ _ c.if-it-function.true) c.loop-place.invariant
