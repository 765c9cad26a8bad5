use Rattle.std.proofs.Common.{◌++◌, ◌∷◌, [], List, ℕ, string_bytes, ap, ◌∙◌, append_assoc}
use Rattle.std.specs.Prelude.{replicate}
use Rattle.std.proofs.lemmas.List.{replicate_more}
use Rattle.plan_lint.proofs.excerpt.push_repeated.Goals as goal

pub loop-number-preserved : goal.loop-number-preserved
loop-number-preserved c =
    let old = string_bytes c.args.text.now in
    let n = c.loop-number.number in
    let letter = c.args.letter in
    c.in_ok-push.ensures.bytes
    ∙ ap (λ (t : List ℕ). string_bytes c.loop-number.text ++ t) (c.push.ensures.ascii c.requires)
    ∙ ap (λ (t : List ℕ). t ++ letter ∷ []) c.loop-number.invariant
    ∙ append_assoc old (replicate n letter) (letter ∷ [])
    ∙ ap (λ (t : List ℕ). old ++ t) (replicate_more n letter)
