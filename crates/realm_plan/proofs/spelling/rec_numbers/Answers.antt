use Rattle.std.proofs.Common.{ℕ, List, ◌∷◌, sym, ap, ◌∙◌}
use Rattle.std.proofs.lemmas.List.{take_all, take_more}
use Rattle.realm_plan.proofs.spelling.rec_numbers.Goals as goal

pub loop-auxiliary-preserved : goal.loop-auxiliary-preserved
loop-auxiliary-preserved c =
    let more = take_more c.args.auxiliaries.now c.loop-auxiliary.auxiliary-index 0 c.loop-auxiliary-test.true in
    c.push.ensures.items ∙ rw (c.from-in-loop-auxiliary.ensures, c.loop-auxiliary.invariant) (ap (λ (xs : List ℕ). c.args.page ∷ xs) (sym more))

pub returns : goal.returns
returns c = c.loop-auxiliary.invariant ∙ ap (λ (xs : List ℕ). c.args.page ∷ xs) (take_all _ _ c.loop-auxiliary-test.false)
