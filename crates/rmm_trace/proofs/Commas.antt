-- A proof that adding a comma to an answer, so that another part can follow, changes only its last word.
use Rattle.std.proofs.Common.{◌≡◌, List, [], ◌∷◌, ◌++◌, true, refl, sym, ap, ◌∙◌}
use Rattle.rmm_trace.specs.declared.word.TraceWord.{TraceWord}
use Rattle.rmm_trace.specs.Answers.{with_comma}

pub with_comma-last : (ws : List TraceWord) (w : TraceWord) → with_comma (ws ++ w ∷ []) ≡ ws ++ record w { is_listed = true } ∷ []
with_comma-last [] w = refl
with_comma-last (v ∷ []) w = refl
with_comma-last (v ∷ u ∷ ws) w = ap (λ vs. v ∷ vs) (with_comma-last (u ∷ ws) w)

pub with_comma-pop : (all ws : List TraceWord) (w : TraceWord) → all ≡ ws ++ w ∷ [] → ws ++ record w { is_listed = true } ∷ [] ≡ with_comma all
with_comma-pop all ws w is = sym (ap with_comma is ∙ with_comma-last ws w)
