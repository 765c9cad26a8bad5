use Rattle.std.proofs.Common.{◌==◌, eq-eqb}
use Rattle.rmm_answers.proofs.Rows.{place_here}
use Rattle.rmm_answers.proofs.guest.kind_in.Goals as goal

pub returns-then-step-name : goal.returns-then-step-name
returns-then-step-name c =
    place_here (λ step. step == c.args.name) c.args.steps.now c.loop-kind.kind 0 c.loop-kind-test.true (eq-eqb _ _ c.if-step-name.true) c.loop-kind.invariant
